pub mod Edited
pub mod There
