pub mod Examples
pub mod Repeated
pub mod Runwise
pub mod Shown
pub mod Yes
