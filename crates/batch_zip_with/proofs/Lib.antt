pub mod Places
pub mod Pairs
pub mod Asks
pub mod Asking
pub mod Zipping
pub mod Examples
