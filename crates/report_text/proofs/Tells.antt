-- The text tells the answer: a listing is no refusal, and two refusals with the same text are the same.
use mathlib.Core.List.{List}
use mathlib.Core.Path.{◌≡◌, ap}
use native.Mathlib.Omega.{arith}
use Prim.Native.Nat.{ℕ}
use lib.ListN.{get_or}
use Rattle.trace.proofs.Outcomes.{TellsRefusals}
use Rattle.race_model.specs.declared.Race.{Race}
use Rattle.text.specs.Ascii.{ascii}
use Rattle.text.specs.Lines.{labelled, pair_line}
use Rattle.text.proofs.ReadBack.{pair-line-numbers}
use Rattle.report_text.specs.ReportText.{listing, refusal, text_of}

-- one starts with "o", the other with "r"
pub listing-apart : (p n : ℕ) (races : List Race) (count q k : ℕ) → listing p n races count ≡ refusal q k → ⊥
unfolding labelled pair_line listing refusal
listing-apart p n races count q k e =
    let first : ◌≡◌ {A = ℕ} 0x6_f 0x72 = ap (λ (l : List ℕ). get_or l 0 0) e in
    omega (arith, first)

refusal-tells : (q k x y : ℕ) → refusal x y ≡ refusal q k → (x ≡ q) × (y ≡ k)
unfolding refusal
refusal-tells q k x y e = pair-line-numbers (ascii "refused ") 0x20 (ascii "") (omega arith) x y q k e

pub text-tells : TellsRefusals text_of
text-tells =
    record {
      apart = λ q k t e. listing-apart _ _ _ _ q k e;
      same = λ q k x y e. let (number, place) = refusal-tells q k x y e in rw (number, place);
    }
