pub mod Documents
pub mod Json
pub mod Marks
pub mod Quoted
