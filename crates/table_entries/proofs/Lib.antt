-- TableEntries: what is known of the file; two entries tell whether an operation must precede another.
pub mod TableEntries
