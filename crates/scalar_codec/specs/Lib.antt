pub mod Gives
pub mod Widths
