-- How the answers of the C interface are read; to be read after the definitions of column and those of the calls.
pub mod Reading
