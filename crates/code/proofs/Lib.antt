pub mod Floors
pub mod Stacks
pub mod Moving
pub mod Advances
