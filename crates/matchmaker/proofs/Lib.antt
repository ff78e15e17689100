pub mod Asking
pub mod BodyLaws
pub mod Replies
pub mod Targets
pub mod Texts
