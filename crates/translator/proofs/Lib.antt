pub mod Lines
pub mod Adapted
pub mod Labels
pub mod Looked
pub mod Appended
pub mod Patched
pub mod Inside
