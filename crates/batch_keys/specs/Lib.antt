-- position, of batch.rs, and each key once; to be read after the definitions of column and batch_index.
pub mod Calls
pub mod Workers
