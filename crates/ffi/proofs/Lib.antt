pub mod Handed
pub mod Laying
