pub mod Fitting
pub mod ReadAgain
pub mod Writable
