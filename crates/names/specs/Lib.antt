pub mod Cells
pub mod Scopes
pub mod Declares
pub mod Uses
pub mod Names
