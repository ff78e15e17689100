pub mod HolderKinds
pub mod Within
