pub mod Decoded
pub mod Edits
pub mod Effect
pub mod Frame
pub mod Grammar
pub mod OpBytes
pub mod Patch
pub mod Resolved
