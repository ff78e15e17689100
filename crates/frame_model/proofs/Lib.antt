pub mod ClientRows
pub mod FrameBytesRows
pub mod NoMemory
pub mod Opened
pub mod PackLists
pub mod PackRows
pub mod ServerRows
