pub mod Frames
pub mod Kinds
pub mod PackData
pub mod Packs
pub mod Reading
pub mod ServerReading
