-- zip_with of two batches, of batch.rs; to be read after the definitions of column and batch.
pub mod Calls
pub mod Workers
