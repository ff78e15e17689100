pub mod Decoders
pub mod Drafts
pub mod Holes
pub mod Runs
