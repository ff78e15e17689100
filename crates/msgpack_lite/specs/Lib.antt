pub mod Ends
pub mod Gives
pub mod Numbers
pub mod Weight
