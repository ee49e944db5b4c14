-- from_dense and to_dense, of rle.rs; to be read after the definitions of column.
pub mod Calls
pub mod Workers
