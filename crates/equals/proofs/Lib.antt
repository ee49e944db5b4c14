pub mod Asks
pub mod Comparing
pub mod Examples
pub mod Same
