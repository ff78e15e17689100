mod Copies
mod Indexed
mod MapIndex
pub mod MapLaws
mod SetIndex
mod SetLaws
