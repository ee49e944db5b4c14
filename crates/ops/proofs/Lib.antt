pub mod Asks
pub mod Zips
