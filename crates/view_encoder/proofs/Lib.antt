pub mod SettledFrames
pub mod Ticks
