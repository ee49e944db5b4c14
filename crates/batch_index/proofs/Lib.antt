pub mod Lowest
pub mod Doubles
pub mod Table
pub mod Wanted
pub mod Blocks
pub mod Links
