pub mod Asks
pub mod Encoding
pub mod Examples
pub mod Yes
