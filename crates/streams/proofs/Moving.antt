-- Bytes that are moved behind those that were moved before. In order: how many a step moves; one read or write; the
-- next one, behind what was moved.
use Rattle.std.proofs.Common.{◌≡◌, ℕ, zero, suc, ◌≤◌, Bool, true, false, cond, List, [], ◌++◌, length, take, drop}
use Rattle.std.proofs.Common.{Option, None, Some, Result, Ok, Err, refl, sym, ap, subst, ◌∙◌, arith}
use Rattle.std.proofs.Common.{append-nil, append_assoc, drop_at, take-append-drop}
use Rattle.std.proofs.Math.Seq.{take-take}
use Rattle.std.proofs.lemmas.List.{drop-take, take-append-le}
use Rattle.std.specs.Io.{ReadsAtMost}
use Rattle.std.specs.Io.KnownBytes.{Consumes, Appends, Keeps, ReadConsumes, WriteAppends}
use Rattle.std.specs.IoError.{error_kind}
use Rattle.std.specs.declared.io.Error.{Error}
use Rattle.streams.specs.declared.Step.{Step}
use Rattle.streams.specs.declared.Step.TheVariants.{Again, Whole, Failed}
use Rattle.streams.specs.Streams.{is_interruption, step_after, moved_by}

-- ---- how many bytes a step moves

stays : (b : Bool) (count : ℕ) (error : Option Error) → moved_by (cond b (Again count) (Failed count error)) ≡ count
stays true count error = refl
stays false count error = refl

ends : (reading : Bool) (count : ℕ) → moved_by (cond reading (Whole count) (Failed count None)) ≡ count
ends true count = refl
ends false count = refl

gained : Result ℕ Error → ℕ
gained (Ok n) = n
gained (Err e) = 0

none : (count : ℕ) (xs : List ℕ) → drop count (take count xs) ≡ []
none count xs = ap (λ n. drop count (take n xs)) (omega arith) ∙ drop-take count 0 xs

-- what a step behind the first `count` moves of a list
new-part : (got : Result ℕ Error) (reading : Bool) (count : ℕ) (xs : List ℕ)
    → drop count (take (moved_by (step_after got reading count)) xs) ≡ take (gained got) (drop count xs)
unfolding gained
new-part (Err e) reading count xs =
    ap (λ n. drop count (take n xs)) (stays (is_interruption (error_kind e)) count (Some e)) ∙ none count xs
new-part (Ok zero) reading count xs = ap (λ n. drop count (take n xs)) (ends reading count) ∙ none count xs
new-part (Ok (suc k)) reading count xs = drop-take count (suc k) xs

-- ---- one read or write

consumes-none : (a b : Option (List ℕ)) → Keeps a b → Consumes a b []
consumes-none None b k = tt
consumes-none (Some xs) None k = absurd k
consumes-none (Some xs) (Some ys) k = sym k

appends-none : (a b : Option (List ℕ)) → Keeps a b → Appends a b []
appends-none None b k = tt
appends-none (Some xs) None k = absurd k
appends-none (Some xs) (Some ys) k = k ∙ sym (append-nil xs)

read-part : (a b : Option (List ℕ)) (got : Result ℕ Error) (part rest : List ℕ) → ReadsAtMost got part
    → ReadConsumes a b got part → Consumes a b (take (gained got) (part ++ rest))
unfolding gained
read-part a b (Ok n) part rest fits read = subst (Consumes a b) (sym (take-append-le n part rest fits.0)) read.0
read-part a b (Err e) part rest fits read = consumes-none a b read

write-part : (a b : Option (List ℕ)) (got : Result ℕ Error) (part : List ℕ) → WriteAppends a b got part
    → Appends a b (take (gained got) part)
unfolding gained
write-part a b (Ok n) part written = written
write-part a b (Err e) part written = appends-none a b written

module _ (a b : Option (List ℕ)) (got : Result ℕ Error) (reading : Bool) (count : ℕ) (r : Step)
    (told : r ≡ step_after got reading count) where
  part-of : (xs : List ℕ) → take (gained got) (drop count xs) ≡ drop count (take (moved_by r) xs)
  part-of xs = sym (new-part got reading count xs) ∙ ap (λ s. drop count (take (moved_by s) xs)) (sym told)

  pub read-behind : (front part rest : List ℕ) → length front ≡ count → ReadsAtMost got part → ReadConsumes a b got part
      → Consumes a b (drop count (take (moved_by r) (front ++ (part ++ rest))))
  read-behind front part rest long fits read =
      let behind = drop_at front (part ++ rest) count long in
      subst (Consumes a b) (ap (take (gained got)) (sym behind) ∙ part-of (front ++ (part ++ rest)))
      (read-part a b got part rest fits read)

  pub write-behind : (part bytes : List ℕ) → part ≡ drop count bytes → WriteAppends a b got part
      → Appends a b (drop count (take (moved_by r) bytes))
  write-behind part bytes same written =
      subst (Appends a b) (ap (take (gained got)) same ∙ part-of bytes) (write-part a b got part written)

-- ---- the next one, behind what was moved

consumes-then : (a b c : Option (List ℕ)) (first second : List ℕ) → Consumes a b first → Consumes b c second
    → Consumes a c (first ++ second)
consumes-then None b c first second p q = tt
consumes-then (Some xs) None c first second p q = absurd p
consumes-then (Some xs) (Some ys) None first second p q = absurd q
consumes-then (Some xs) (Some ys) (Some zs) first second p q =
    p ∙ ap (λ l. first ++ l) q ∙ sym (append_assoc first second zs)

appends-then : (a b c : Option (List ℕ)) (first second : List ℕ) → Appends a b first → Appends b c second
    → Appends a c (first ++ second)
appends-then None b c first second p q = tt
appends-then (Some xs) None c first second p q = absurd p
appends-then (Some xs) (Some ys) None first second p q = absurd q
appends-then (Some xs) (Some ys) (Some zs) first second p q =
    q ∙ ap (λ l. l ++ second) p ∙ append_assoc xs first second

joined : (xs : List ℕ) (count next : ℕ) → count ≤ next → take count xs ++ drop count (take next xs) ≡ take next xs
joined xs count next l =
    ap (λ f. f ++ drop count (take next xs)) (sym (take-take count next xs l)) ∙ take-append-drop count (take next xs)

module _ (a b c : Option (List ℕ)) (count next : ℕ) (l : count ≤ next) where
  pub read-on : (old new : List ℕ) → take count new ≡ take count old → Consumes a b (take count old)
      → Consumes b c (drop count (take next new)) → Consumes a c (take next new)
  read-on old new kept before now =
      subst (Consumes a c) (joined new count next l)
      (consumes-then a b c _ _ (subst (Consumes a b) (sym kept) before) now)

  pub write-on : (bytes : List ℕ) → Appends a b (take count bytes) → Appends b c (drop count (take next bytes))
      → Appends a c (take next bytes)
  write-on bytes before now = subst (Appends a c) (joined bytes count next l) (appends-then a b c _ _ before now)
