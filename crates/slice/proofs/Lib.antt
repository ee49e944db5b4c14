pub mod Asks
pub mod Covering
pub mod Examples
pub mod Searching
pub mod Sliced
pub mod Slicing
pub mod Touching
pub mod Viewing
