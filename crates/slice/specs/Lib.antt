-- The calls of slice.rs on one part; to be read after the definitions of column.
pub mod Calls
pub mod Workers
