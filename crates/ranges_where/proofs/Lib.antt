pub mod Examples
pub mod Ranging
