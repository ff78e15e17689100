pub mod Acts
pub mod Definitions
pub mod Ledger
pub mod Limits
pub mod Outs
pub mod Room
pub mod Seats
pub mod Sessions
