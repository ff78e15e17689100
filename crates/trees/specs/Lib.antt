pub mod Slots
pub mod Texts
pub mod Trees
