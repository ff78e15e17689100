pub mod DefinitionParts
pub mod RoomRows
