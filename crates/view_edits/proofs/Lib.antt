pub mod Forgotten
pub mod FullViews
pub mod There
