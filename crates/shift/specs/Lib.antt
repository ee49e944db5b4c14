-- shift, of transform.rs; to be read after the definitions of column.
pub mod Calls
pub mod Workers
