pub mod Calls
pub mod Held
pub mod Keyed
pub mod Keys
pub mod Places
pub mod Search
pub mod Slots
