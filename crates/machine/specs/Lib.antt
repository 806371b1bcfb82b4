pub mod Numbers
pub mod View
pub mod Closures
pub mod Steps
pub mod Runs
pub mod Finishing
