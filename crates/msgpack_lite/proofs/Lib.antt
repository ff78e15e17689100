mod Weighed
pub mod Again
pub mod AgainParts
pub mod BuildLaws
pub mod EndLaws
pub mod Texts
pub mod WriteLaws
