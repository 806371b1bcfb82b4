pub mod Reads
pub mod Readers
pub mod Statements
pub mod Programs
pub mod Promise
