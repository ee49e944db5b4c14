pub mod Asks
pub mod Examples
pub mod Items
pub mod Placing
pub mod Reductions
pub mod Searches
pub mod Until
