pub mod Sets
pub mod Standings
pub use Rattle.state_model.specs.Members
