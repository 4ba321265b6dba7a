-- Files: document 01's example files, as bytes. Starred: its starred examples, as one list, checked against the
-- definitions that the calls' contracts cite.
pub mod Files
pub mod Starred
