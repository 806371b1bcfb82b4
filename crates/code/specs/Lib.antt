pub mod Words
pub mod Division
pub mod World
pub mod Machine
pub mod Stack
pub mod Advances
