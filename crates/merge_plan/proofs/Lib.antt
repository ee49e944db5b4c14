pub mod Asks
pub mod Examples
pub mod Ids
pub mod Planning
pub mod Promised
