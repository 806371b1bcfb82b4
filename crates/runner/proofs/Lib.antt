pub mod Admitted
pub mod Driving
