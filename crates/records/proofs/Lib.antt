-- Fields: the bytes of a record, as the code puts them together.
pub mod Fields
