pub mod Rising
pub mod Utf8
