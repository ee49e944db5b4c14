-- A batch, and the calls of batch.rs that check one or look into it; to be read after the definitions of column and batch_keys: Batch, Calls.
pub mod Batch
pub mod Calls
pub mod Workers
