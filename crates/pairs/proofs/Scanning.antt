-- Laws of the two loops that look for the first pair, and of the answer.
use mathlib.Core.Path.{◌≡◌, refl, sym, ap, ap₂, ◌∙◌}
use mathlib.Core.List.{List, [], ◌∷◌}
use mathlib.Core.Bool.{Bool, true, false, cond}
use Prim.Native.Nat.{ℕ, zero, suc, ◌+◌, ◌*◌, ◌≤◌, ◌<◌}
use native.Mathlib.Omega.{arith}
use native.Mathlib.Numerals.{add-one}
use lib.IntN.{ℤ}
use lib.Dec.{ltb}
use lib.ListN.{length, get_or, take, drop, length-drop}
use borrow.Author.Tests.{lt-ltb, le-ltb}
use Rattle.geometry.specs.declared.Rect.{Rect}
use Rattle.geometry.specs.Rectangles.{meets}
use Rattle.plan.specs.declared.Shape.{Shape}
use Rattle.plan.specs.Causes.{unless, on_cause}
use Rattle.plan.specs.Plan.{rect_at, layers_of, sizes_of, plan_cause, Sound, grown}
use Rattle.join.specs.Join.{rects}
use Rattle.rows.specs.RowCall.{fits}
use Rattle.rows.specs.inner.Layers.{Reached, rects_from}
use Rattle.rows.proofs.RowCall.{fits-long}
use Rattle.rows.proofs.Layers.{reached-none, reached-next, rects-next, rects-end}
use Rattle.std.specs.Prelude.{Option, None, Result, Ok, Err}
use Rattle.pairs.specs.declared.Pair.{Pair}
use Rattle.pairs.specs.PairCall.{apart, apart_at, first_pair, pair_cause, pair_call}
use Rattle.pairs.specs.inner.Told.{told}

-- ---- one rectangle against those of the later layers: those before layer j meet it
pub record Met (r : Rect) (sizes : List ℕ) (cells : List ℤ) (row : List ℕ) (before after start j : ℕ) : Type 0 where
  pub reached : Reached sizes start j
  pub same : j + apart_at r (rects_from sizes cells row start j) ≡ after + apart_at r (rects_from sizes cells row before after)

module _ (r : Rect) (sizes : List ℕ) (cells : List ℤ) (row : List ℕ) (before after start j : ℕ) (t : Met r sizes cells row before after start j) where
  module _ (e : fits sizes row ≡ true) (h : j < length sizes) (q : Rect) (p : q ≡ rect_at (take (4 * get_or sizes j 0) (drop (4 * start) cells)) (get_or row j 0)) where
    abbrev rest : List Rect
    rest = rects_from sizes cells row (start + get_or sizes j 0) (j + 1)

    step : (m : Bool) → meets r q ≡ m → j + cond m (suc (apart_at r rest)) 0 ≡ after + apart_at r (rects_from sizes cells row before after)
    step m g = ap (λ (m : Bool). j + cond m (suc (apart_at r rest)) 0) (sym g) ∙ ap (λ (qs : List Rect). j + apart_at r qs) (sym (rects-next sizes start j t.reached h cells row e q p)) ∙ t.same

    pub met-more : meets r q ≡ true → Met r sizes cells row before after (start + get_or sizes j 0) (j + 1)
    met-more g = record { reached = reached-next sizes start j t.reached h; same = omega (arith, step true g) }

    pub met-not : meets r q ≡ false → j ≡ after + apart_at r (rects_from sizes cells row before after)
    met-not g = omega (arith, step false g)

  pub met_all : length sizes ≤ j → j ≡ after + apart_at r (rects_from sizes cells row before after)
  met_all h = omega (arith, ap (apart_at r) (rects-end sizes cells row start j h), t.same)

-- ---- layer by layer: no pair begins before layer i, counted from 0
pub record Paired (sizes : List ℕ) (cells : List ℤ) (row : List ℕ) (start i : ℕ) : Type 0 where
  pub reached : Reached sizes start i
  pub same : first_pair (suc i) (rects_from sizes cells row start i) ≡ first_pair 1 (rects (layers_of sizes cells) row)

pub paired_none : (sizes : List ℕ) (cells : List ℤ) (row : List ℕ) → Paired sizes cells row 0 0
paired_none sizes cells row = record { reached = reached-none sizes; same = refl }

rects-long : (ns : List ℕ) (cells : List ℤ) (row : List ℕ) → length row ≡ length ns → length (rects (layers_of ns cells) row) ≡ length ns
rects-long [] cells row e = refl
rects-long (n ∷ ns) cells [] e = absurd (omega arith)
rects-long (n ∷ ns) cells (p ∷ row) e = ap suc (rects-long ns (drop (4 * n) cells) row (omega arith))

module _ (sizes : List ℕ) (cells : List ℤ) (row : List ℕ) (start i : ℕ) (t : Paired sizes cells row start i) (e : fits sizes row ≡ true) (h : i < length sizes) (r : Rect)
    (p : r ≡ rect_at (take (4 * get_or sizes i 0) (drop (4 * start) cells)) (get_or row i 0)) (j : ℕ)
    (q : j ≡ i + 1 + apart_at r (rects_from sizes cells row (start + get_or sizes i 0) (i + 1))) where
  abbrev others : List Rect
  others = rects_from sizes cells row (start + get_or sizes i 0) (i + 1)

  others-long : i + 1 + length others ≡ length sizes
  others-long =
      let a = length-drop (i + 1) sizes in
      let b = length-drop (i + 1) row in
      let l = rects-long (drop (i + 1) sizes) (drop (4 * (start + get_or sizes i 0)) cells) (drop (i + 1) row) (omega (arith, fits-long sizes row e)) in
      omega arith

  turn : cond (ltb (apart_at r others) (length others)) (apart (suc i) (suc (suc i) + apart_at r others)) (first_pair (suc (suc i)) others) ≡ first_pair 1 (rects (layers_of sizes cells) row)
  turn = ap (first_pair (suc i)) (sym (rects-next sizes start i t.reached h cells row e r p)) ∙ t.same

  pub paired-found : j < length sizes → apart (i + 1) (j + 1) ≡ first_pair 1 (rects (layers_of sizes cells) row)
  paired-found l =
      let b : j + 1 ≡ suc (suc i) + apart_at r others = omega arith in
      ap₂ apart (add-one i) b ∙ sym (rw (lt-ltb (apart_at r others) (length others) (omega (arith, others-long)))) ∙ turn

  pub paired-more : length sizes ≤ j → Paired sizes cells row (start + get_or sizes i 0) (i + 1)
  paired-more l = record {
    reached = reached-next sizes start i t.reached h;
    same = ap (λ (n : ℕ). first_pair (suc n) others) (add-one i) ∙ sym (rw (le-ltb (apart_at r others) (length others) (omega (arith, others-long)))) ∙ turn;
  }

pub paired-end : (sizes : List ℕ) (cells : List ℤ) (row : List ℕ) (start i : ℕ) → Paired sizes cells row start i → length sizes ≤ i
    → None ≡ first_pair 1 (rects (layers_of sizes cells) row)
paired-end sizes cells row start i t h = sym (ap (first_pair (suc i)) (rects-end sizes cells row start i h)) ∙ t.same

-- ---- the answer
module _ (sizes : List ℕ) (cells : List ℤ) (row : List ℕ) where
  pub told-misfit : fits sizes row ≡ false → Err 23 ≡ told sizes cells row
  unfolding told
  told-misfit e = rw e

  pub told_fit : fits sizes row ≡ true → (r : Option Pair) → r ≡ first_pair 1 (rects (layers_of sizes cells) row) → Ok r ≡ told sizes cells row
  unfolding told
  told_fit e r q = rw e (ap Ok q)

module _ (s : Shape) (cells : List ℤ) (row : List ℕ) where
  pub pair-refused : (n : ℕ) → n ≡ plan_cause s cells → (n ≡ 0 → ⊥) → Err n ≡ pair_call s cells row
  unfolding pair_call pair_cause
  pair-refused zero e h = absurd (h refl)
  pair-refused (suc n) e h = rw (← e)

  pub pair-accepted : (r : Result (Option Pair) ℕ) → Sound s cells → r ≡ told (sizes_of s) (grown s cells) row → r ≡ pair_call s cells row
  unfolding pair_call pair_cause told
  pair-accepted r h e = rw h.passed (e ∙ go (fits (sizes_of s) row))
    where
      go : (t : Bool) → cond t (Ok (first_pair 1 (rects (layers_of (sizes_of s) (grown s cells)) row))) (Err 23) ≡ on_cause (unless t 23) (Ok (first_pair 1 (rects (layers_of (sizes_of s) (grown s cells)) row))) Err
      go true = refl
      go false = refl
