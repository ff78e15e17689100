pub mod Bodies
pub mod Indexes
