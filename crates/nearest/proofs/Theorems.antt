-- Proof of specs/Theorems.antt.
use mathlib.Core.Path.{◌≡◌, refl, sym, ap, ◌∙◌, subst}
use mathlib.Core.List.{List, [], ◌∷◌}
use mathlib.Core.Logic.{◌⊎◌, inl, inr}
use Prim.Native.Nat.{ℕ, zero, suc, ◌*◌, ◌≤◌, ◌<◌}
use native.Mathlib.Omega.{arith}
use lib.IntN.{ℤ}
use lib.ListN.{length, get_or, take, drop, length-take, get_or-eq_default}
use Rattle.lists.specs.Lists.{Tells, each}
use Rattle.lists.proofs.Tests.{tells, total}
use Rattle.geometry.specs.declared.Rect.{Rect}
use Rattle.geometry.specs.Rectangles.{in_range}
use Rattle.geometry.specs.Theorems.{Ranged}
use Rattle.geometry.proofs.Rectangles.{ranged, in-range}
use Rattle.plan.specs.declared.Shape.{Shape}
use Rattle.plan.specs.Plan.{Layer, sizes_of, layers, grown}
use Rattle.plan.specs.Causes.{on_cause, Check, Passed}
use Rattle.plan.specs.Spots.{layer_at}
use Rattle.plan.specs.Theorems.{PlanChecks}
use Rattle.plan.proofs.Theorems.{plan-last}
use Rattle.std.specs.Prelude.{Ok, Err}
use Rattle.nearest.specs.Nearest.{nothing, nearest_in, nearest_of, nearest_cause, nearest_call, NearestValues, nearest_values, entry_cells, near_cells}
use Rattle.nearest.specs.Theorems.{IsNearest, entry, NearestTold, NearestHolds}
use Rattle.nearest.proofs.Gaps.{gap-holds, gap-most}
use Rattle.nearest.proofs.Answers.{entry_parts, parts-same, cells-made, nearest-is, near-past}

box-tells : (a : Rect) → Tells (Ranged a) (in_range a)
box-tells a = tells (in_range a) (ranged a) (in-range a)

none_of : (j : ℕ) → get_or (nothing ∷ nothing ∷ nothing ∷ nothing ∷ nothing ∷ nothing ∷ []) j nothing ≡ nothing
none_of zero = refl
none_of (suc zero) = refl
none_of (suc (suc zero)) = refl
none_of (suc (suc (suc zero))) = refl
none_of (suc (suc (suc (suc zero)))) = refl
none_of (suc (suc (suc (suc (suc zero))))) = refl
none_of (suc (suc (suc (suc (suc (suc j)))))) = refl

-- a place among six
below-six : (P : ℕ → Type 0) → P 0 → P 1 → P 2 → P 3 → P 4 → P 5 → (j : ℕ) → j < 6 → P j
below-six P a b c d e f zero h = a
below-six P a b c d e f (suc zero) h = b
below-six P a b c d e f (suc (suc zero)) h = c
below-six P a b c d e f (suc (suc (suc zero))) h = d
below-six P a b c d e f (suc (suc (suc (suc zero)))) h = e
below-six P a b c d e f (suc (suc (suc (suc (suc zero))))) h = f
below-six P a b c d e f (suc (suc (suc (suc (suc (suc j)))))) h = absurd (omega arith)

-- the entries of an accepted call
six : (ls : List Layer) (a : Rect) (j : ℕ) → j < 6 → entry (nearest_values (Ok (nearest_of ls a))) j ≡ nearest_in a (layer_at ls j)
six ls a = below-six (λ j. entry (nearest_values (Ok (nearest_of ls a))) j ≡ nearest_in a (layer_at ls j)) refl refl refl refl refl refl

past_is : (s : Shape) (cells : List ℤ) (a : Rect) (j : ℕ) → s.k ≤ j → entry (nearest_values (Ok (nearest_of (layers s cells) a))) j ≡ nothing
past_is s cells a j h = go (total 6 j)
  where
    go : (6 ≤ j) ⊎ (j < 6) → entry (nearest_values (Ok (nearest_of (layers s cells) a))) j ≡ nothing
    go (inl k) = get_or-eq_default (nearest_of (layers s cells) a) nothing {n = j} k
    go (inr k) = six (layers s cells) a j k ∙ sym (near-past a (sizes_of s) (grown s cells) j (omega (arith, length-take s.k s.sizes)))

module _ (s : Shape) (cells : List ℤ) (a : Rect) where
  causes : PlanChecks s cells (Check 14 (Ranged a) Passed) (nearest_cause s cells a)
  unfolding nearest_cause
  causes = plan-last s cells 14 (λ e. box-tells a)

  -- what is answered for a cause
  abbrev answer : ℕ → NearestValues
  answer n = nearest_values (on_cause n (Ok (nearest_of (layers s cells) a)) Err)

  number : (n : ℕ) → (answer n).number ≡ n
  number zero = refl
  number (suc n) = refl

  accepted : (n : ℕ) → n ≡ 0 → (j : ℕ) → j < 6 → IsNearest a (layer_at (layers s cells) j) (entry (answer n) j)
  accepted zero e j h =
      subst (IsNearest a (layer_at (layers s cells) j)) (sym (six (layers s cells) a j h)) (nearest-is a (layer_at (layers s cells) j).rect (layer_at (layers s cells) j).size)
  accepted (suc n) e j h = absurd (omega arith)

  past : (n j : ℕ) → (n ≡ 0 → s.k ≤ j) → entry (answer n) j ≡ nothing
  past zero j h = past_is s cells a j (h refl)
  past (suc n) j h = none_of j

  told : NearestTold s cells a
  unfolding nearest_call
  told = record { causes = causes; number = number (nearest_cause s cells a); accepted = accepted (nearest_cause s cells a); past = past (nearest_cause s cells a) }

-- the cells of one layer's entry
entry-told : (r : NearestValues) (j : ℕ) → j < 6 → take 3 (drop (3 * j) (near_cells r)) ≡ entry_cells (entry r j)
entry-told r j h = ap (λ (l : List ℕ). take 3 (drop (3 * j) l)) (sym (cells-made r))
    ∙ below-six (λ i. take 3 (drop (3 * i) (each (λ k. entry_parts (entry r k)) 0 6)) ≡ entry_parts (entry r i)) refl refl refl refl refl refl j h
    ∙ parts-same (entry r j)

pub nearest-holds : NearestHolds
nearest-holds = record {
  gaps = λ a r h k. gap-holds a r h k;
  bound = gap-most;
  told = told;
  values = λ entries n. (refl, refl);
  long = λ r. ap length (sym (cells-made r));
  cells = λ r j h e k. entry-told r j h ∙ ap entry_cells k;
  no_cells = λ r j h k. entry-told r j h ∙ ap entry_cells k;
}
