-- zip_many of many.rs; to be read after the definitions of column, plan and many.
pub mod Calls
pub mod Workers
