pub mod Applying
pub mod ByRef
pub mod Encoded
pub mod Merge
pub mod Names
pub mod NewRows
pub mod Positions
