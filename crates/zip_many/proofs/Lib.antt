pub mod Asks
pub mod Examples
pub mod Flats
pub mod Ranging
pub mod Zips
