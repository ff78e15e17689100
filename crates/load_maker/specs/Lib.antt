pub mod Again
pub mod Generated
