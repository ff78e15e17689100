pub mod Bodies
pub mod Found
pub mod Gives
