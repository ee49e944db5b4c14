-- collapse, of batch.rs; to be read after the definitions of column, batch_keys and batch.
pub mod Calls
pub mod Workers
