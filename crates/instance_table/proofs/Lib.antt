mod PlaceSteps
mod SpareWalks
mod WayLaws
pub mod AmountLaws
pub mod BehindLaws
pub mod ChangeLaws
pub mod ChangedHolders
pub mod ChangedStates
pub mod ChangedTables
pub mod EditLaws
pub mod EditedBodies
pub mod ExactLaws
pub mod FoundLaws
pub mod FreedNodes
pub mod FreedNumbers
pub mod GraphLaws
pub mod HolderCounts
pub mod HolderLaws
pub mod HolderLists
pub mod JudgeLaws
pub mod LetGoLaws
pub mod LinkLaws
pub mod NewTables
pub mod NodeLaws
pub mod NodeStates
pub mod RefusalLaws
pub mod StateLaws
pub mod SweepLaws
pub mod SweptTables
pub mod TableSteps
pub mod WaitingLaws
pub mod WalkRooms
