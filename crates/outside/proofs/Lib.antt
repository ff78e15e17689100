pub mod CallLaws
pub mod ReadLaws
pub mod StdLaws
pub mod StreamLaws
pub mod TakeLaws
