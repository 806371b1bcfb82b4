pub mod Spells
pub mod Looks
pub mod Declares
pub mod Sequences
