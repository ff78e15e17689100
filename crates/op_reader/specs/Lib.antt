pub mod Homes
pub mod Known
pub mod Puts
