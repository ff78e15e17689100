mod HappenRows
mod LedgerRows
pub mod AlikeLists
pub mod LedgerPlaces
pub mod Ordering
pub mod PlacedSteps
pub mod QuietSteps
pub mod RoomObeys
pub mod RoomPlaced
pub mod RoomPlaces
pub mod SessionLists
pub mod SessionNames
pub mod StepFacts
