pub mod Keyed
pub mod Asks
pub mod Examples
