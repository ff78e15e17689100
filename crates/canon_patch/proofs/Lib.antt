pub mod Applying
pub mod ByRef
pub mod Encoded
pub mod LeadingRows
pub mod MergeLaws
pub mod NewRows
