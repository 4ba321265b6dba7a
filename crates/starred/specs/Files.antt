-- The example files of document 01 for its starred examples, as bytes. Trace A's is in the crate `trace`.
-- Follows: document 01, "Trace file" and "Examples"; worker:operation in file order. Starred computes what each file
-- reads as.
-- Differs: nowhere.
use Rattle.std.specs.Prelude.{List, [], ℕ}
use Rattle.trace.specs.Examples.{with_mark, headed}

-- the records of Post and Wait of an event below 256, and of Read and Write of cells below 256, then `rest`
abbrev pub post_record : ℕ → ℕ → List ℕ → List ℕ
post_record q e rest = with_mark q 1 e 0 0 0 0 0 rest

abbrev pub wait_record : ℕ → ℕ → List ℕ → List ℕ
wait_record q e rest = with_mark q 2 e 0 0 0 0 0 rest

abbrev pub read_record : ℕ → ℕ → ℕ → List ℕ → List ℕ
read_record q c n rest = with_mark q 3 c 0 0 0 n 0 rest

abbrev pub write_record : ℕ → ℕ → ℕ → List ℕ → List ℕ
write_record q c n rest = with_mark q 4 c 0 0 0 n 0 rest

-- B: 0:Write 7 len 1; 0:Post 1; 1:Post 1; 2:Wait 1; 2:Read 7 len 1
abbrev pub file_b : List ℕ
file_b = headed 3 5 (write_record 0 7 1 (post_record 0 1 (post_record 1 1 (wait_record 2 1 (read_record 2 7 1 [])))))

-- C: 0:Wait 1; 0:Post 2; 1:Wait 2; 1:Post 1
abbrev pub file_c : List ℕ
file_c = headed 2 4 (wait_record 0 1 (post_record 0 2 (wait_record 1 2 (post_record 1 1 []))))

-- D: "one worker, Wait 1 then Post 1"; "Post 1 then Wait 1"
abbrev pub wait_then_post : List ℕ
wait_then_post = headed 1 2 (wait_record 0 1 (post_record 0 1 []))

abbrev pub post_then_wait : List ℕ
post_then_wait = headed 1 2 (post_record 0 1 (wait_record 0 1 []))

-- E: p = 1, n = 0
abbrev pub file_e : List ℕ
file_e = headed 1 0 []
