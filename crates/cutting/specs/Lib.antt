-- Demand 3; to be read after the definitions of slice, transform, reduce, ops, zip_many, batch, batch_map_rles and batch_zip_with.
pub mod Claim
pub mod Cut
