pub mod FrameLaw
pub mod PatchLaw
