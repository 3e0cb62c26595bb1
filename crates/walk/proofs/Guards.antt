-- The slots of a guard are those of the other layers, lowest first, each with 01's test.
use mathlib.Core.Path.{◌≡◌, refl, sym, ap, ◌∙◌, subst}
use mathlib.Core.List.{List, [], ◌∷◌}
use mathlib.Core.Bool.{Bool, true}
use mathlib.Core.Logic.{◌↔◌}
use Prim.Native.Nat.{ℕ, zero, suc, ◌≤◌, ◌<◌}
use native.Mathlib.Omega.{arith}
use lib.IntN.{ℤ}
use lib.Signed.{le_z, lt_z, ◌≤ℤ◌, ◌<ℤ◌}
use lib.ListN.{length, get_or}
use borrow.Author.Tests.{lt-ltb, le-ltb}
use Rattle.lists.specs.Lists.{without}
use Rattle.lists.proofs.Kept.{length_without}
use Rattle.geometry.specs.declared.Rect.{Rect}
use Rattle.geometry.specs.Rectangles.{kind_of, meeting}
use Rattle.geometry.proofs.Integers.{zarith}
use Rattle.geometry.proofs.Rectangles.{meeting-common}
use Rattle.geometry.proofs.Sides.{meets-handed}
use Rattle.plan.specs.Plan.{Layer}
use Rattle.plan.specs.Spots.{Spot, layer_at, Has, rect_of}
use Rattle.plan.proofs.Spots.{has-layer}
use Rattle.search.specs.Traversal.{Slot}
use Rattle.walk.specs.Walk.{slot, slots_for, guard_at}
use Rattle.walk.specs.Theorems.{no_slot, SlotHolds, GuardHolds}
use Rattle.walk.proofs.Passes.{passed, others-at, slots-number}

-- a slot whose test tells what its left has to be
slot-holds : (test : ℤ → Bool) (Left : ℤ → Type 0) (l : Layer) → ((z : ℤ) → (test z ≡ true) ↔ Left z) → SlotHolds (slot test l) l Left
slot-holds test Left l t = (
  refl,
  λ c d p.
      let r = l.rect p in (
        λ e. let k = passed c r d (test r.left) e in ((t r.left).0 k.1, rw k.2 at ((meets-handed c r).0 k.0)),
        λ h. let k = meeting-common c r (meeting c r) refl d (kind_of d) h.1 in rw (k.0, (t r.left).1 h.0, sym k.1),
      ),
)

-- the slots of the first i layers, and of those behind them
lower-at : (x : ℤ) (i : ℕ) (ls : List Layer) (j : ℕ) → j < i → j < length ls → get_or (slots_for x i ls) j no_slot ≡ slot (λ z. lt_z z x) (layer_at ls j)
lower-at x zero ls j h k = absurd (omega arith)
lower-at x (suc i) [] j h k = absurd (omega arith)
lower-at x (suc i) (l ∷ ls) zero h k = refl
lower-at x (suc i) (l ∷ ls) (suc j) h k = lower-at x i ls j (omega arith) (omega arith)

higher-at : (x : ℤ) (i : ℕ) (ls : List Layer) (j : ℕ) → i ≤ j → j < length ls → get_or (slots_for x i ls) j no_slot ≡ slot (λ z. le_z z x) (layer_at ls j)
higher-at x i [] j h k = absurd (omega arith)
higher-at x zero (l ∷ ls) zero h k = refl
higher-at x zero (l ∷ ls) (suc j) h k = higher-at x zero ls j (omega arith) (omega arith)
higher-at x (suc i) (l ∷ ls) zero h k = absurd (omega arith)
higher-at x (suc i) (l ∷ ls) (suc j) h k = higher-at x i ls j (omega arith) (omega arith)

-- 01's words of the guard at a spot of the plan
pub guard-holds : (ls : List Layer) (n : ℕ) (s : Spot) → Has ls s → GuardHolds ls s (guard_at ls n s)
guard-holds ls n s h = record {
  start = refl;
  others = slots-number x i ls own;
  lower = λ j k. subst (λ (t : Slot Rect). SlotHolds t (layer_at ls j) (λ z. z <ℤ x)) (sym (lower j k)) (slot-holds (λ z. lt_z z x) (λ z. z <ℤ x) (layer_at ls j) (λ z. (λ e. omega zarith, λ e. omega zarith)));
  higher = λ j k m. subst (λ (t : Slot Rect). SlotHolds t (layer_at ls (suc j)) (λ z. z ≤ℤ x)) (sym (higher j k m)) (slot-holds (λ z. le_z z x) (λ z. z ≤ℤ x) (layer_at ls (suc j)) (λ z. (λ e. omega zarith, λ e. omega zarith)));
}
  where
    i : ℕ
    i = s.layer

    x : ℤ
    x = (rect_of ls s).left

    own : i < length ls
    own = has-layer ls i s.place h

    lower : (j : ℕ) → j < i → get_or (slots_for x i (without i ls)) j no_slot ≡ slot (λ z. lt_z z x) (layer_at ls j)
    lower j k = lower-at x i (without i ls) j k (omega (arith, own, length_without i ls own)) ∙ ap (slot (λ z. lt_z z x)) (others-at i ls j _ ∙ rw (lt-ltb j i k))

    higher : (j : ℕ) → i ≤ j → suc j < length ls → get_or (slots_for x i (without i ls)) j no_slot ≡ slot (λ z. le_z z x) (layer_at ls (suc j))
    higher j k m = higher-at x i (without i ls) j k (omega (arith, length_without i ls own)) ∙ ap (slot (λ z. le_z z x)) (others-at i ls j _ ∙ rw (le-ltb j i k))
