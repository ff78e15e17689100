pub mod CutLaws
pub mod Numbers
