pub mod Fitting
pub mod LoadRows
pub mod NamesFit
pub mod Pushed
pub mod Schedules
