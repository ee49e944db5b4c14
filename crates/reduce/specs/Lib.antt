-- sum and reduce, of reduce.rs; to be read after the definitions of column, slice and float.
pub mod Calls
pub mod Workers
