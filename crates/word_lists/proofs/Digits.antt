-- What the two tables of digits hold, by one test that is computed at all of their places.
use mathlib.Core.Bool.{Bool, true, false, ◌&&◌}
use mathlib.Core.List.{List, [], ◌∷◌}
use mathlib.Core.Path.{◌≡◌, sym, subst, ◌∙◌}
use native.Mathlib.Nat.{add-zero, zero-add, add-suc, suc-add, le_of_suc-le-suc, not-suc-le-zero}
use native.Mathlib.Omega.{arith}
use Prim.Native.Nat.{ℕ, zero, suc, ◌+◌, ◌*◌, ◌/◌, ◌%◌, ◌<◌}
use lib.Dec.{T, eqb, eqb→eq}
use lib.ListN.{length, get_or}
use Rattle.words.specs.Passing.{passing}
use Rattle.word_lists.specs.declared.TheConstants.{MEMBERS, SIZES}
use Rattle.words.specs.Words.{is_in}

-- ---- a test at all places of a list

both_left : (a b : Bool) → T (a && b) → T a
both_left true b t = tt
both_left false b t = t

both_right : (a b : Bool) → T (a && b) → T b
both_right true b t = t
both_right false b t = absurd t

-- the test passes at each place, counted from i, and what stands there
abbrev pub every : (ℕ → ℕ → Bool) → ℕ → List ℕ → Bool
every f i [] = true
every f i (x ∷ xs) = f i x && every f (suc i) xs

from : (f : ℕ → ℕ → Bool) (xs : List ℕ) (i : ℕ) → T (every f i xs) → (k : ℕ) → k < length xs
    → T (f (i + k) (get_or xs k 0))
from f [] i t k h = absurd (not-suc-le-zero h)
from f (x ∷ xs) i t zero h =
    subst (λ (m : ℕ). T (f m x)) (sym (add-zero i)) (both_left (f i x) (every f (suc i) xs) t)
from f (x ∷ xs) i t (suc k) h =
    subst (λ (m : ℕ). T (f m (get_or xs k 0))) (suc-add i k ∙ sym (add-suc i k))
    (from f xs (suc i) (both_right (f i x) (every f (suc i) xs) t) k (le_of_suc-le-suc h))

pub at_place : (f : ℕ → ℕ → Bool) (xs : List ℕ) → T (every f 0 xs) → (k : ℕ) → k < length xs
    → T (f k (get_or xs k 0))
at_place f xs t k h = subst (λ (m : ℕ). T (f m (get_or xs k 0))) (zero-add k) (from f xs 0 t k h)

-- ---- the two tables

-- the digit at place k of the first one: number k % 8 of byte k / 8
pub member_digit : ℕ → ℕ → Bool
member_digit k d = eqb d (48 + get_or (passing (is_in (k / 8)) 8) (k % 8) 0)

-- the digit at place x of the second one: how many numbers byte x has
pub size_digit : ℕ → ℕ → Bool
size_digit x d = eqb d (48 + length (passing (is_in x) 8))

pub member-digit : (k d : ℕ) → T (member_digit k d) → d ≡ 48 + get_or (passing (is_in (k / 8)) 8) (k % 8) 0
unfolding member_digit
member-digit k d t = eqb→eq d (48 + get_or (passing (is_in (k / 8)) 8) (k % 8) 0) t

pub size-digit : (x d : ℕ) → T (size_digit x d) → d ≡ 48 + length (passing (is_in x) 8)
unfolding size_digit
size-digit x d t = eqb→eq d (48 + length (passing (is_in x) 8)) t

-- the digits of the first table
members-hold : T (every member_digit 0 MEMBERS.now)
unfolding member_digit passing is_in
members-hold = tt

pub member-at : (x j : ℕ) → x < 256 → j < 8 → get_or MEMBERS.now (8 * x + j) 0 ≡ 48 + get_or (passing (is_in x) 8) j 0
member-at x j h l =
    let byte : (8 * x + j) / 8 ≡ x = omega arith in
    let number : (8 * x + j) % 8 ≡ j = omega arith in
    rw byte at (rw number at
    (member-digit (8 * x + j) _ (at_place member_digit MEMBERS.now members-hold (8 * x + j) (omega arith))))

-- the digits of the second table
sizes-hold : T (every size_digit 0 SIZES.now)
unfolding size_digit passing is_in
sizes-hold = tt

pub size-at : (x : ℕ) → x < 256 → get_or SIZES.now x 0 ≡ 48 + length (passing (is_in x) 8)
size-at x h = size-digit x _ (at_place size_digit SIZES.now sizes-hold x h)
