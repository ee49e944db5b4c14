pub mod Examples
pub mod First
pub mod Groups
pub mod Shown
pub mod Writing
pub mod Yes
