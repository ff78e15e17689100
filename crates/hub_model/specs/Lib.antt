pub mod Dealt
pub mod Decisions
pub mod HubStep
pub mod HubValues
pub mod Kinds
pub mod Openings
pub mod Replies
pub mod Requests
