pub mod Stacks
pub mod Doing
pub mod Comparing
pub mod Operating
pub mod Fetching
pub mod Stepping
pub mod Advancing
