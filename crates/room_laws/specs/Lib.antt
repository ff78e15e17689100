pub mod Ledgers
pub mod Names
pub mod Ordered
pub mod Placed
pub mod Places
pub mod Quiet
pub mod StepLaws
