pub mod Tokens
pub mod Trees
pub mod TreeOf
