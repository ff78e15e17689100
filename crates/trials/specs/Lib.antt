pub mod ClosedLaws
pub mod ClosedRooms
