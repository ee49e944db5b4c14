pub mod Once
pub mod Places
pub mod Keys
pub mod Asking
pub mod Writing
pub mod Promised
pub mod Examples
