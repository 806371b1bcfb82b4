pub mod Feeds
pub mod Spelled
pub mod Joined
pub mod Declared
pub mod Whole
