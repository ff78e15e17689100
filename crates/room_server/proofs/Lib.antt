pub mod EndingLaws
pub mod LoadLaws
pub mod ReplayLaws
pub mod ReplayedLaws
pub mod SummaryLaws
pub mod TaskLaws
pub mod ViewLaws
pub mod WriteLaws
