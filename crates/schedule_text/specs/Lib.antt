pub mod Again
pub mod Hex
pub mod Reads
pub mod Tells
pub mod Words
