-- Laws of the row call's tests: a row that fits, and membership in J.
use mathlib.Core.Path.{◌≡◌, refl, sym, ap, ap₂, ◌∙◌}
use mathlib.Core.List.{List, [], ◌∷◌}
use mathlib.Core.Bool.{true, false, ◌&&◌}
use mathlib.Core.Logic.{◌↔◌}
use Prim.Native.Nat.{ℕ, zero, suc, ◌+◌, ◌*◌, ◌≤◌, ◌<◌}
use native.Mathlib.Omega.{arith}
use native.Mathlib.Numerals.{add-one}
use lib.IntN.{ℤ}
use lib.Dec.{ltb}
use lib.ListN.{length, get_or, drop, drop_of_length-le}
use lib.Seq.{drop-cons}
use borrow.Author.Tests.{ltb-true, lt-ltb, le-ltb}
use Rattle.lists.proofs.Tests.{clash, both, and-true, never_true}
use Rattle.geometry.specs.Rectangles.{nonempty}
use Rattle.plan.specs.Plan.{Layer, layers_of}
use Rattle.join.specs.Join.{Within, no_layer, ◌below◌, rects, InJoin, common_of}
use Rattle.join.specs.Table.{sizes_in}
use Rattle.rows.specs.RowCall.{fits, is_row}
use Rattle.join.proofs.Table.{join-some, some-join}

-- ---- a row that fits
pub fits-long : (ns row : List ℕ) → fits ns row ≡ true → length row ≡ length ns
fits-long [] [] e = refl
fits-long [] (p ∷ row) e = clash e refl
fits-long (n ∷ ns) [] e = clash e refl
fits-long (n ∷ ns) (p ∷ row) e = ap suc (fits-long ns row (both (ltb p n) (fits ns row) e).1)

pub fits_not : (ns row : List ℕ) → (length row ≡ length ns → ⊥) → fits ns row ≡ false
fits_not ns row h = never_true (fits ns row) (λ e. h (fits-long ns row e))

pub fits-at : (ns row : List ℕ) (j : ℕ) → fits ns row ≡ true → j < length ns → get_or row j 0 < get_or ns j 0
fits-at [] row j e h = absurd (omega arith)
fits-at (n ∷ ns) [] j e h = clash e refl
fits-at (n ∷ ns) (p ∷ row) zero e h = ltb-true p n (both (ltb p n) (fits ns row) e).0
fits-at (n ∷ ns) (p ∷ row) (suc j) e h = fits-at ns row j (both (ltb p n) (fits ns row) e).1 (omega arith)

pub fits-within : (ls : List Layer) (row : List ℕ) → fits (sizes_in ls) row ≡ true → Within ls row
fits-within [] [] e = no_layer
fits-within [] (p ∷ row) e = clash e refl
fits-within (l ∷ ls) [] e = clash e refl
fits-within (l ∷ ls) (p ∷ row) e =
    let h = both (ltb p l.size) (fits (sizes_in ls) row) e in ◌below◌ (ltb-true p l.size h.0) (fits-within ls row h.1)

pub within-fits : {ls : List Layer} {row : List ℕ} → Within ls row → fits (sizes_in ls) row ≡ true
within-fits no_layer = refl
within-fits (◌below◌ {l = l} {p = p} h hs) = and-true (ltb p l.size) _ (lt-ltb p l.size h) (within-fits hs)

-- the test of a row is membership in J
pub is-row : (ls : List Layer) → 1 ≤ length ls → (row : List ℕ) → (is_row ls row ≡ true) ↔ InJoin ls row
unfolding is_row
is-row [] h row = absurd (omega arith)
is-row (l ∷ ls) h row = (
  λ e. let k = both (fits (sizes_in (l ∷ ls)) row) (nonempty (common_of (rects (l ∷ ls) row))) e in some-join l ls (fits-within (l ∷ ls) row k.0) k.1,
  λ j. and-true (fits (sizes_in (l ∷ ls)) row) (nonempty (common_of (rects (l ∷ ls) row))) (within-fits j.within) (join-some l ls j),
)

pub sizes-of : (ns : List ℕ) (cells : List ℤ) → sizes_in (layers_of ns cells) ≡ ns
sizes-of [] cells = refl
sizes-of (n ∷ ns) cells = ap (λ (ms : List ℕ). n ∷ ms) (sizes-of ns (drop (4 * n) cells))

-- ---- place by place: what is left to test decides
pub record Fitting (ns row : List ℕ) (j : ℕ) : Type 0 where
  pub long : length row ≡ length ns
  pub within : j ≤ length ns
  pub same : fits (drop j ns) (drop j row) ≡ fits ns row

module _ (ns row : List ℕ) (j : ℕ) (f : Fitting ns row j) (h : j < length ns) where
  next : fits (drop j ns) (drop j row) ≡ (ltb (get_or row j 0) (get_or ns j 0) && fits (drop (suc j) ns) (drop (suc j) row))
  next = ap₂ fits (drop-cons ns j 0 h) (drop-cons row j 0 (omega (arith, f.long)))

  pub fitting-more : get_or row j 0 < get_or ns j 0 → Fitting ns row (j + 1)
  fitting-more p = rw add-one (record { long = f.long; within = h; same = sym (next ∙ rw (lt-ltb (get_or row j 0) (get_or ns j 0) p)) ∙ f.same })

  pub fitting-not : get_or ns j 0 ≤ get_or row j 0 → false ≡ fits ns row
  fitting-not p = sym (next ∙ rw (le-ltb (get_or row j 0) (get_or ns j 0) p)) ∙ f.same

pub fitting-end : (ns row : List ℕ) (j : ℕ) → Fitting ns row j → length ns ≤ j → true ≡ fits ns row
fitting-end ns row j f h = sym (ap₂ fits (drop_of_length-le ns h) (drop_of_length-le row {i = j} (omega (arith, f.long)))) ∙ f.same
