pub mod NoCode
