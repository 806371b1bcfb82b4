pub mod Bytes
pub mod Scan
pub mod Tokens
pub mod Lex
pub mod Reading
