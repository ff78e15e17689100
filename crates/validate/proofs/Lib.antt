pub mod Characters
pub mod Lexed
pub mod Lexemes
pub mod Lists
pub mod QuotedSteps
