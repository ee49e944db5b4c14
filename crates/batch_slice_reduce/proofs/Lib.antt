pub mod Reducing
pub mod Asks
pub mod Examples
