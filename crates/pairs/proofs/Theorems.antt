-- The promises on the pair call hold of every sound plan, for every k.
use mathlib.Core.Path.{◌≡◌, refl, sym, ap, ap₂, ◌∙◌, subst, subst₂}
use mathlib.Core.List.{List}
use mathlib.Core.Bool.{true}
use mathlib.Core.Logic.{◌↔◌, ◌⊎◌, inl, inr}
use Prim.Native.Nat.{ℕ, suc}
use native.Mathlib.Omega.{arith}
use lib.IntN.{ℤ}
use Rattle.lists.specs.Lists.{All}
use Rattle.lists.proofs.Tests.{tells}
use Rattle.geometry.specs.Rectangles.{nonempty}
use Rattle.plan.specs.declared.Shape.{Shape}
use Rattle.plan.specs.Plan.{sizes_of, layers, Sound, grown}
use Rattle.plan.specs.Causes.{Check, Passed}
use Rattle.plan.specs.Theorems.{PlanChecks}
use Rattle.plan.proofs.Theorems.{plan-last}
use Rattle.plan.proofs.Growing.{framed}
use Rattle.join.specs.Join.{Within, rects, InJoin}
use Rattle.join.proofs.Join.{corner}
use Rattle.join.specs.Table.{sizes_in}
use Rattle.rows.specs.RowCall.{fits}
use Rattle.rows.proofs.RowCall.{fits-within, within-fits, sizes-of}
use Rattle.rows.proofs.Layers.{rects-solid}
use Rattle.std.specs.Prelude.{Option, None, Result, Ok, Err}
use Rattle.pairs.specs.declared.Pair.{Pair}
use Rattle.pairs.specs.PairCall.{apart, first_pair, pair_cause, pair_call, pair_values}
use Rattle.pairs.specs.Theorems.{chosen, IsPair, IsFirstPair, PairHolds, Pairs}
use Rattle.pairs.proofs.Boxes.{helly-holds}
use Rattle.pairs.proofs.Outcomes.{chosen-all, pair-excludes, first_one, Outcome, shares, clears, outcome}

-- ---- places
module _ (s : Shape) (cells : List ℤ) (row : List ℕ) where
  same-sizes : fits (sizes_in (layers s cells)) row ≡ fits (sizes_of s) row
  same-sizes = ap (λ (ns : List ℕ). fits ns row) (sizes-of (sizes_of s) (grown s cells))

  pair-causes : PlanChecks s cells (Check 23 (Within (layers s cells) row) Passed) (pair_cause s cells row)
  unfolding pair_cause
  pair-causes = plan-last s cells 23 (λ e. tells (fits (sizes_of s) row) (λ f. fits-within (layers s cells) row (same-sizes ∙ f)) (λ w. sym same-sizes ∙ within-fits w))

pair-refused : (s : Shape) (cells : List ℤ) (row : List ℕ) (n : ℕ) → pair_cause s cells row ≡ suc n → pair_call s cells row ≡ Err (suc n)
unfolding pair_call
pair-refused s cells row n e = rw e

-- ---- all of it
module _ (s : Shape) (cells : List ℤ) (sound : Sound s cells) (row : List ℕ) (within : Within (layers s cells) row) where
  abbrev answer : Result (Option Pair) ℕ
  answer = pair_call s cells row

  fit : fits (sizes_of s) row ≡ true
  fit = sym (same-sizes s cells row) ∙ within-fits within

  call-is : pair_call s cells row ≡ Ok (first_pair 1 (rects (layers s cells) row))
  unfolding pair_call pair_cause
  call-is = rw (sound.passed, fit)

  solid : All (λ r. nonempty r ≡ true) (rects (layers s cells) row)
  solid = rects-solid (sizes_of s) (grown s cells) row fit (framed s cells sound).1.ranged

  is : Outcome (layers s cells) row answer
  is = subst (λ (v : Result (Option Pair) ℕ). Outcome (layers s cells) row v) (sym call-is) (outcome within solid)

  no_shared : (i j : ℕ) → answer ≡ Ok None → answer ≡ Ok (apart (suc i) (suc j)) → ⊥
  no_shared i j e f = omega (arith, ap (λ (v : Result (Option Pair) ℕ). (pair_values v).lower) (sym e ∙ f))

  -- each answer exactly in its case
  share-is : (answer ≡ Ok None) ↔ InJoin (layers s cells) row
  share-is = go is
    where
      go : Outcome (layers s cells) row answer → (answer ≡ Ok None) ↔ InJoin (layers s cells) row
      go (shares e h) = (λ z. h, λ z. e)
      go (clears i j e f) = (λ z. absurd (no_shared i j z e), λ h. absurd (pair-excludes f.pair refl refl h))

  first-pair-is : (i j : ℕ) → (answer ≡ Ok (apart (suc i) (suc j))) ↔ IsFirstPair (layers s cells) row i j
  first-pair-is i j = go is
    where
      go : Outcome (layers s cells) row answer → (answer ≡ Ok (apart (suc i) (suc j))) ↔ IsFirstPair (layers s cells) row i j
      go (shares e h) = (λ z. absurd (no_shared i j e z), λ f. absurd (pair-excludes f.pair refl refl h))
      go (clears a b e f) = (
        λ z. subst₂ (IsFirstPair (layers s cells) row) (omega (arith, ap (λ (v : Result (Option Pair) ℕ). (pair_values v).lower) (sym e ∙ z))) (omega (arith, ap (λ (v : Result (Option Pair) ℕ). (pair_values v).higher) (sym e ∙ z))) f,
        λ g. let o = first_one f g in e ∙ ap₂ (λ (a b : ℕ). Ok (apart (suc a) (suc b))) o.0 o.1,
      )

  either_is : (answer ≡ Ok None) ⊎ ((i : ℕ) × (j : ℕ) × (answer ≡ Ok (apart (suc i) (suc j))))
  either_is = go is
    where
      go : Outcome (layers s cells) row answer → (answer ≡ Ok None) ⊎ ((i : ℕ) × (j : ℕ) × (answer ≡ Ok (apart (suc i) (suc j))))
      go (shares e h) = inl e
      go (clears i j e f) = inr (i, j, e)

  exactly-is : ((i : ℕ) × (j : ℕ) × IsPair (layers s cells) row i j) ↔ (InJoin (layers s cells) row → ⊥)
  exactly-is = (λ p h. pair-excludes p.2 refl refl h, go is)
    where
      go : Outcome (layers s cells) row answer → (InJoin (layers s cells) row → ⊥) → (i : ℕ) × (j : ℕ) × IsPair (layers s cells) row i j
      go (shares e h) n = absurd (n h)
      go (clears i j e f) n = (i, j, f.pair)

  pair-holds : PairHolds (layers s cells) row answer
  pair-holds = record {
    share = share-is;
    first = first-pair-is;
    either = either_is;
    exactly = exactly-is;
    shows = λ i j p other e f m. pair-excludes p e f m;
    alone = λ i l. let r = chosen (layers s cells) row i in (r.left, r.bottom, corner r (chosen-all within solid i l));
  }

pub pairs : Pairs
pairs = record {
  helly = helly-holds;
  calls = λ s cells row. record {
    causes = pair-causes s cells row;
    refused = pair-refused s cells row;
    answer = λ sound within. pair-holds s cells sound row within;
  };
  share = refl;
  pair = λ i j. refl;
  refused = λ n. refl;
}
