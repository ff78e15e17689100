pub mod Returns
pub mod RoomPromises
