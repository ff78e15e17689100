mod LifeRows
mod TwoLives
pub mod Acts
pub mod Edits
pub mod EventCases
pub mod EventsFollow
pub mod Follows
pub mod Frames
pub mod GivenOwn
pub mod GoodLives
pub mod Kicks
pub mod Lapses
pub mod LifeSteps
pub mod Losses
pub mod Messages
pub mod Openings
pub mod Returned
pub mod RoomSteps
pub mod RoomsKept
pub mod RunSteps
pub mod StateFacts
pub mod TickBytes
pub mod TickFits
pub mod TickSteps
pub mod Tokens
pub mod Turns
pub mod Waiting
