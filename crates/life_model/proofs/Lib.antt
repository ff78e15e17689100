pub mod EntryRows
pub mod LatestRows
pub mod SentRows
