pub mod Bodies
pub mod Index
pub mod Places
pub mod PlainEdits
pub mod Prefixes
pub mod Slots
