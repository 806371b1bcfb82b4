pub mod Kinds
pub mod Grammar
pub mod Automaton
pub mod Theorems
pub mod Examples
pub mod Placed
