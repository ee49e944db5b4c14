pub mod Compared
pub mod Converted
pub mod Operations
pub mod Patterns
pub mod Rounding
