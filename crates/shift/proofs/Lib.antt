pub mod Shifting
