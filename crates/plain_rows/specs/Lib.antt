pub mod Counts
pub mod Links
pub mod Members
pub mod Views
