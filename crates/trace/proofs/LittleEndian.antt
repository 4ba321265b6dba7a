-- Laws of little-endian numbers, over the width. In order: a number that stands at a place in a file; bytes; number to
-- bytes to number; bytes to number to bytes. The list of bytes is explicit: `value` computes, so nothing shows it.
use mathlib.Core.List.{List, [], ◌∷◌, ◌++◌}
use mathlib.Core.Path.{◌≡◌, refl, sym, ap, ap₂, ◌∙◌}
use native.Mathlib.Nat.{pow-suc}
use native.Mathlib.Numerals.{add-one}
use native.Mathlib.Omega.{arith}
use Prim.Native.Nat.{ℕ, zero, suc, ◌+◌, ◌*◌, ◌/◌, ◌%◌, ◌^◌, ◌<◌, ◌≤◌}
use lib.ListN.{length, get_or, take, drop}
use lib.Seq.{get_or-drop, get_or-take}
use Rattle.trace.specs.LittleEndian.{value, digits}
use Rattle.trace.specs.Writing.{Bytes}

-- ---- a number that stands at a place in a file

value_none : (width : ℕ) → value width [] ≡ 0
unfolding value
value_none zero = refl
value_none (suc width) = refl

-- its first byte, then the others
pub value-drop : (width at : ℕ) (bytes : List ℕ)
    → value (suc width) (drop at bytes) ≡ get_or bytes at 0 + 256 * value width (drop (at + 1) bytes)
unfolding value
value-drop width at bytes = rw add-one (go at bytes)
  where
    go : (at : ℕ) (bytes : List ℕ)
        → value (suc width) (drop at bytes) ≡ get_or bytes at 0 + 256 * value width (drop (suc at) bytes)
    go zero [] = simp (value_none width)
    go zero (b ∷ bytes) = refl
    go (suc at) [] = simp (value_none width)
    go (suc at) (b ∷ bytes) = go at bytes

value-zero : (bytes : List ℕ) → value 0 bytes ≡ 0
unfolding value
value-zero bytes = refl

-- in a file that is cut behind it
pub value-take : (width at k : ℕ) (bytes : List ℕ) → at + width ≤ k
    → value width (drop at (take k bytes)) ≡ value width (drop at bytes)
value-take zero at k bytes l = value-zero (drop at (take k bytes)) ∙ sym (value-zero (drop at bytes))
value-take (suc width) at k bytes l =
    value-drop width at (take k bytes)
    ∙ rw (get_or-take k bytes at 0 (omega arith), value-take width (at + 1) k bytes (omega arith))
    (sym (value-drop width at bytes))

-- the widths of a record's fields, as the code reads them
pub value-two : (at : ℕ) (bytes : List ℕ) → value 2 (drop at bytes) ≡ get_or bytes at 0 + 256 * get_or bytes (at + 1) 0
value-two at bytes =
    omega (arith, value-drop 1 at bytes, value-drop 0 (at + 1) bytes, value-zero (drop (at + 1 + 1) bytes))

pub value-four : (at : ℕ) (bytes : List ℕ)
    → value 4 (drop at bytes) ≡ value 2 (drop at bytes) + 65536 * value 2 (drop (at + 2) bytes)
value-four at bytes =
    let two : at + 1 + 1 ≡ at + 2 = omega arith in
    let tail = rw two at (value-drop 2 (at + 1) bytes) in
    omega (arith, value-drop 3 at bytes, tail, value-two at bytes)

-- ---- bytes

pub tail-bytes : {b : ℕ} {bytes : List ℕ} → Bytes (b ∷ bytes) → Bytes bytes
tail-bytes h = record { byte = λ i. h.byte (suc i) }

pub cons-bytes : {b : ℕ} {bytes : List ℕ} → b < 256 → Bytes bytes → Bytes (b ∷ bytes)
cons-bytes {b} {bytes} h k = record { byte = each }
  where
    each : (i : ℕ) → get_or (b ∷ bytes) i 0 < 256
    each zero = h
    each (suc i) = k.byte i

pub nil-bytes : Bytes []
nil-bytes = record { byte = λ i. omega arith }

pub append-bytes : (a b : List ℕ) → Bytes a → Bytes b → Bytes (a ++ b)
append-bytes [] b h k = k
append-bytes (x ∷ a) b h k = cons-bytes (h.byte 0) (append-bytes a b (tail-bytes h) k)

pub drop-bytes : (n : ℕ) (bytes : List ℕ) → Bytes bytes → Bytes (drop n bytes)
drop-bytes n bytes h = record { byte = λ i. rw get_or-drop (h.byte (n + i)) }

pub digits-bytes : (width x : ℕ) → Bytes (digits width x)
unfolding digits
digits-bytes zero x = nil-bytes
digits-bytes (suc width) x = cons-bytes (omega arith) (digits-bytes width (x / 256))

pub value-below : (width : ℕ) (bytes : List ℕ) → Bytes bytes → value width bytes < 256 ^ width
unfolding value
value-below zero bytes h = omega arith
value-below (suc width) [] h = rw pow-suc (omega (arith, value-below width [] h))
value-below (suc width) (b ∷ bytes) h =
    rw pow-suc (omega (arith, h.byte 0, value-below width bytes (tail-bytes h)))

-- ---- number to bytes to number

pub length_digits : (width x : ℕ) → length (digits width x) ≡ width
unfolding digits
length_digits zero x = refl
length_digits (suc width) x = ap suc (length_digits width (x / 256))

pub value-digits : (width x : ℕ) (rest : List ℕ) → x < 256 ^ width → value width (digits width x ++ rest) ≡ x
unfolding value digits
value-digits zero x rest h = omega arith
value-digits (suc width) x rest h =
    let below : x / 256 < 256 ^ width = omega (arith, rw pow-suc at h) in
    omega (arith, value-digits width (x / 256) rest below)

-- a number ends with its bytes
pub value-append : (width : ℕ) (bytes rest : List ℕ) → length bytes ≡ width
    → value width (bytes ++ rest) ≡ value width bytes
unfolding value
value-append zero bytes rest h = refl
value-append (suc width) [] rest h = absurd (omega arith)
value-append (suc width) (b ∷ bytes) rest h =
    ap (λ (v : ℕ). b + 256 * v) (value-append width bytes rest (omega arith))

-- ---- bytes to number to bytes

pub digits_value : (width : ℕ) (bytes : List ℕ) → Bytes bytes → width ≤ length bytes
    → digits width (value width bytes) ≡ take width bytes
unfolding value digits
digits_value zero bytes h l = refl
digits_value (suc width) [] h l = absurd (omega arith)
digits_value (suc width) (b ∷ bytes) h l =
    let low : (b + 256 * value width bytes) % 256 ≡ b = omega (arith, h.byte 0) in
    let high : (b + 256 * value width bytes) / 256 ≡ value width bytes = omega (arith, h.byte 0) in
    ap₂ (λ (x : ℕ) (r : List ℕ). x ∷ r) low (rw high (digits_value width bytes (tail-bytes h) (omega arith)))
