pub mod Freeing
pub mod HeldRows
pub mod KeptItems
pub mod Lists
pub mod MemberKeys
pub mod NumberSets
pub mod ViewTables
pub mod Walks
