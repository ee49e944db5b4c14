pub mod Standing
pub mod Ascending
pub mod Doubles
pub mod Once
pub mod Blocks
pub mod Examples
