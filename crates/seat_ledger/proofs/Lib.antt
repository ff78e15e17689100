pub mod EntryLaws
pub mod HeldLaws
pub mod KeyedLaws
pub mod PlaceLaws
pub mod SearchLaws
pub mod SlotLaws
