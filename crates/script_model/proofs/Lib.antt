pub mod FieldNames
pub mod HandlerRows
pub mod PlayLaws
pub mod PresenceRows
pub mod ReadingRows
pub mod ServeRows
