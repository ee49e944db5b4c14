pub mod After
pub mod Asks
pub mod Examples
pub mod Shown
pub mod Yes
