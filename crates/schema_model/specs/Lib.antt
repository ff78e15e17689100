pub mod Classes
pub mod Fits
pub mod Ids
pub mod Reading
pub mod Spelling
pub mod Values
