pub mod Mapping
pub mod Examples
