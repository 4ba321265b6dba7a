-- RowOpening: a row is opened, or passed over.
pub mod RowOpening
