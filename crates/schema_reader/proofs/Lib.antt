pub mod Drafts
pub mod GivesLaws
pub mod ItemWords
pub mod KindWords
pub mod LineForms
pub mod Lines
pub mod ReadLaws
pub mod Writes
