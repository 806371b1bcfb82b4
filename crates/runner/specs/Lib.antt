pub mod Calls
pub mod Driving
