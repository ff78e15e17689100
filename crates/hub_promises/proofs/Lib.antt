mod HiddenRows
mod HubLifeRows
pub mod Connected
pub mod Conns
pub mod Deals
pub mod EventsFit
pub mod Given
pub mod GoodHubs
pub mod HubSteps
pub mod HubsKept
pub mod LivesFollow
pub mod LivesMove
pub mod Moves
pub mod Openings
pub mod Outputs
pub mod Owned
