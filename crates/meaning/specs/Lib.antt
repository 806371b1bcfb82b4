pub mod Meaning
pub mod Depth
pub mod Promise
pub mod Sources
pub mod Examples
