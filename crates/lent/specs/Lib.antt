-- Written: memory that is written from its start on. Left: what a call leaves in lent memory, by how its questions come
-- out; a means. What is in the memory then is shown in proofs/.
-- To be believed for the demands: `written_over` (Written).
pub mod Written
pub mod Left
