-- What the answer says of the order. In order: the sign; the two operations swapped.
use mathlib.Core.List.{List}
use mathlib.Core.Logic.{◌⊎◌, inl, inr, ◌↔◌}
use mathlib.Core.Path.{◌≡◌, sym, ap, ◌∙◌}
use Prim.Native.Nat.{ℕ}
use lib.IntN.{ℤ, neg_ℤ}
use Rattle.trace.specs.Reading.{trace_of}
use Rattle.trace.specs.Refusals.{by_earlier, by_this}
use Rattle.trace.specs.Trace.{Trace}
use Rattle.model.specs.Computed.{pair_order}
use Rattle.model.proofs.SharedOrder.{pair-order-swap}
use Rattle.accept.proofs.Questions.{accepted-workers, accepted-run}
use Rattle.trace.specs.Answer.{Refused}
use Rattle.pair_order.specs.Order.{Ordered}
use Rattle.pair_order.specs.Order.{order_answer}
use Rattle.pair_order.specs.Refusals.{AcceptedNumbers, AcceptedPair, RefusedPair}
use Rattle.pair_order.proofs.Answers.{answer-pair, order-refused, order-ordered}
use Rattle.pair_order.proofs.Questions.{pair-comes-out}

-- ---- the sign

pub answer-sign : {bytes : List ℕ} {a b : ℕ} {t : Trace} → AcceptedPair bytes a b t → (sign : ℤ)
    → (order_answer bytes a b ≡ Ordered sign) ↔ (pair_order t a b ≡ sign)
answer-sign {bytes} {a} {b} {t} h sign = (
  λ i. same (answer-pair bytes a b h ∙ i),
  λ e. sym (answer-pair bytes a b h) ∙ ap Ordered e,
)
  where
    same : Ordered (pair_order t a b) ≡ Ordered sign → pair_order t a b ≡ sign
    same e = cc

-- ---- swapped

module _ {bytes : List ℕ} {a b : ℕ} where
  swap-numbers : {t : Trace} → AcceptedNumbers bytes a b t → AcceptedNumbers bytes b a t
  swap-numbers h =
      record { accepted = h.accepted; first_below = h.second_below; second_below = h.first_below }

  swap-pair : {t : Trace} → AcceptedPair bytes a b t → AcceptedPair bytes b a t
  swap-pair h = record { numbers = swap-numbers h.numbers; differ = λ e. h.differ (sym e) }

  swap-refusal : {q k : ℕ} → RefusedPair bytes a b q k → RefusedPair bytes b a q k
  swap-refusal (by_earlier (by_earlier r)) = by_earlier (by_earlier r)
  swap-refusal (by_earlier (by_this t h s n z)) = by_earlier (by_this t h (other s) n z)
    where
      other : {X Y : Type 0} → X ⊎ Y → Y ⊎ X
      other (inl x) = inr x
      other (inr y) = inl y
  swap-refusal (by_this t h e n z) = by_this t (swap-numbers h) (sym e) n z

module _ (bytes : List ℕ) (a b : ℕ) where
  -- "swapping the two negates it"
  pub swapped-order : (sign : ℤ) → order_answer bytes a b ≡ Ordered sign → order_answer bytes b a ≡ Ordered (neg_ℤ sign)
  swapped-order sign i = (answer-sign (swap-pair h) (neg_ℤ sign)).1 (negated ∙ ap neg_ℤ (sym e))
    where
      h : AcceptedPair bytes a b (trace_of bytes)
      h = (order-ordered bytes a b sign i).0

      e : sign ≡ pair_order (trace_of bytes) a b
      e = (order-ordered bytes a b sign i).1

      negated : pair_order (trace_of bytes) b a ≡ neg_ℤ (pair_order (trace_of bytes) a b)
      negated =
          let accepted = h.numbers.accepted in
          pair-order-swap
          (accepted-workers accepted)
          (accepted-run accepted)
          h.numbers.first_below
          h.numbers.second_below

  -- and changes no refusal
  pub swapped-refusal : (q k : ℕ) → order_answer bytes a b ≡ Refused q k → order_answer bytes b a ≡ Refused q k
  swapped-refusal q k i =
      let r = swap-refusal (((pair-comes-out bytes a b).refuses q k).0 ((order-refused bytes a b q k).0 i)) in
      (order-refused bytes b a q k).1 (((pair-comes-out bytes b a).refuses q k).1 r)
