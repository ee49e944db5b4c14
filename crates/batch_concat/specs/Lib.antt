-- concat of two batches, of batch.rs; to be read after the definitions of column, transform and batch.
pub mod Calls
pub mod Workers
