pub mod Settled
pub use Rattle.live_state.specs.Live
pub use Rattle.state_model.specs.Members
