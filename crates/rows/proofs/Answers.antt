-- What the row call answers, in each of its cases.
use mathlib.Core.Path.{◌≡◌, refl, ap, ap₂, ◌∙◌}
use mathlib.Core.List.{List, [], ◌∷◌}
use mathlib.Core.Bool.{Bool, true, false, cond, ◌&&◌}
use Prim.Native.Nat.{ℕ, zero, suc, ◌+◌, ◌≤◌, ◌<◌}
use native.Mathlib.Omega.{arith}
use native.Mathlib.Numerals.{add-one}
use lib.IntN.{ℤ}
use lib.ListN.{length}
use Rattle.geometry.specs.Rectangles.{nonempty, area_of}
use Rattle.plan.specs.declared.Shape.{Shape}
use Rattle.plan.specs.Causes.{on_cause}
use Rattle.plan.specs.Plan.{layers_of, layers, sizes_of, grown, plan_cause, Typed, Sound, Layer}
use Rattle.plan.proofs.Growing.{framed}
use Rattle.plan.proofs.Spots.{layers-long}
use Rattle.rows.specs.declared.Ground.{Ground}
use Rattle.std.specs.Prelude.{Option, Some, None, Result, Ok, Err}
use Rattle.rows.specs.declared.Row.{Row}
use Rattle.rows.specs.declared.CommonGround.{CommonGround}
use Rattle.join.specs.Join.{◌below◌, rects, common_of, area_in, kind_in, guard_layer, Within}
use Rattle.rows.specs.inner.Grounds.{ground_by, shared_by, ground_of, row_named, plan_named}
use Rattle.rows.specs.RowCall.{fits, is_row, row_call, common_call}
use Rattle.join.proofs.Join.{guard-is}
use Rattle.rows.proofs.RowCall.{sizes-of, is-row}
use Rattle.join.proofs.Table.{within-long}

-- ---- the cells of layers
module _ (sizes : List ℕ) (cells : List ℤ) (row : List ℕ) where
  is-row-of : (t u : Bool) → fits sizes row ≡ t → nonempty (common_of (rects (layers_of sizes cells) row)) ≡ u → is_row (layers_of sizes cells) row ≡ (t && u)
  unfolding is_row
  is-row-of t u e f = ap₂ ◌&&◌ (ap (λ (ns : List ℕ). fits ns row) (sizes-of sizes cells) ∙ e) f

  -- cells that do not fit have no ground
  pub ground-misfit : fits sizes row ≡ false → None ≡ ground_of (layers_of sizes cells) row
  unfolding ground_of
  ground-misfit e = rw (is-row-of false _ e refl)

  -- the ground of cells that fit is what their rectangles share
  pub ground-fit : fits sizes row ≡ true → (v : Option Ground) → v ≡ shared_by (rects (layers_of sizes cells) row) → v ≡ ground_of (layers_of sizes cells) row
  unfolding ground_of shared_by
  ground-fit e v q = q ∙ rw (is-row-of true _ e refl)

-- ---- what the ground tells of a row
module _ (ls : List Layer) (row : List ℕ) where
  pub ground-none : None ≡ ground_of ls row → is_row ls row ≡ false
  unfolding ground_of
  ground-none e = go (is_row ls row) e
    where
      go : (t : Bool) → None ≡ cond t (Some (ground_by (rects ls row))) None → t ≡ false
      go true q = let z : ◌≡◌ {A = ℕ} 0 1 = cc in absurd (omega arith)
      go false q = refl

  pub ground-some : (g : Ground) → Some g ≡ ground_of ls row → (is_row ls row ≡ true) × (g ≡ ground_by (rects ls row))
  unfolding ground_of
  ground-some g e = go (is_row ls row) e
    where
      go : (t : Bool) → Some g ≡ cond t (Some (ground_by (rects ls row))) None → (t ≡ true) × (g ≡ ground_by (rects ls row))
      go true q = (refl, cc)
      go false q = let z : ◌≡◌ {A = ℕ} 0 1 = cc in absurd (omega arith)

  -- what the cells name
  pub named-is : (v : Option Ground) → v ≡ ground_of ls row → v ≡ row_named ls row
  unfolding ground_of row_named
  named-is v e = e

  module _ (g : Ground) (made : Some g ≡ ground_of ls row) where
    -- the guard's layer, from 1, and the area
    pub ground-layer : g.guard + 1 ≡ suc (guard_layer (rects ls row))
    ground-layer = add-one g.guard ∙ ap (λ (z : Ground). suc z.guard) (ground-some g made).1

    pub ground-area : (a : ℕ) → a ≡ area_of g.common → a ≡ area_in ls row
    unfolding area_in
    ground-area a q = q ∙ ap (λ (z : Ground). area_of z.common) (ground-some g made).1

    pub ground-kind : g.kind ≡ kind_in ls row
    unfolding kind_in
    ground-kind = ap (λ (z : Ground). z.kind) (ground-some g made).1

    -- the guard's layer is one of the layers
    pub ground-small : 1 ≤ length ls → g.guard < length ls
    ground-small h = rw (ground-some g made).1 (small ls row h ((is-row ls h row).0 (ground-some g made).0).within)
      where
        small : (ls : List Layer) (ps : List ℕ) → 1 ≤ length ls → Within ls ps → guard_layer (rects ls ps) < length ls
        small [] ps h w = absurd (omega arith)
        small (l ∷ ls) ps h (◌below◌ {p = p} {row = qs} k ks) = omega (arith, (guard-is (l.rect p) (rects ls qs)).one, (within-long ks).0)

-- ---- the answers
-- what the two calls tell of what cells name
abbrev pub row_of : Result (Option Ground) ℕ → Result (Option Row) ℕ
row_of (Err n) = Err n
row_of (Ok None) = Ok None
row_of (Ok (Some g)) = Ok (Some (record { layer = suc g.guard; area = area_of g.common }))

abbrev pub common_answer : Result (Option Ground) ℕ → Result (Option CommonGround) ℕ
common_answer (Err n) = Err n
common_answer (Ok None) = Ok None
common_answer (Ok (Some g)) = Ok (Some (record { rect = g.common; kind = g.kind }))

module _ (s : Shape) (cells : List ℤ) (row : List ℕ) where
  pub named-refused : (n : ℕ) → n ≡ plan_cause s cells → (n ≡ 0 → ⊥) → Err n ≡ plan_named s cells row
  unfolding plan_named
  named-refused zero e h = absurd (h refl)
  named-refused (suc n) e h = rw (← e)

  pub named-accepted : (r : Option Ground) → Sound s cells → r ≡ row_named (layers s cells) row → Ok r ≡ plan_named s cells row
  unfolding plan_named
  named-accepted r h e = rw h.passed (ap Ok e)

  -- what is named is the ground of a row of a plan that is not refused
  pub named-row : (g : Ground) → Ok (Some g) ≡ plan_named s cells row → (plan_cause s cells ≡ 0) × (Some g ≡ ground_of (layers s cells) row)
  unfolding plan_named row_named ground_of
  named-row g e = go (plan_cause s cells) (is_row (layers s cells) row) e
    where
      go : (n : ℕ) (t : Bool) → Ok (Some g) ≡ on_cause n (Ok (cond t (Some (ground_by (rects (layers s cells) row))) None)) Err
          → (n ≡ 0) × (Some g ≡ cond t (Some (ground_by (rects (layers s cells) row))) None)
      go zero true q = (refl, cc)
      go zero false q = let z : ◌≡◌ {A = ℕ} 0 1 = cc in absurd (omega arith)
      go (suc n) t q = let z : ◌≡◌ {A = ℕ} 0 1 = cc in absurd (omega arith)

  -- its guard is in one of at most six layers
  pub named_small : (g : Ground) → Typed s → Ok (Some g) ≡ plan_named s cells row → g.guard < 6
  named_small g t e =
      let h = named-row g e in
      let f = (framed s cells (record { typed = t; passed = h.0 })).1 in
      let l = layers-long (sizes_of s) (grown s cells) in
      omega (arith, ground-small (layers s cells) row g h.1 (omega (arith, f.some)), f.few)

  pub row_is : (m : Result (Option Ground) ℕ) → m ≡ plan_named s cells row → row_of m ≡ row_call s cells row
  unfolding plan_named row_named row_call area_in
  row_is m e = ap row_of e ∙ go (plan_cause s cells) (is_row (layers s cells) row)
    where
      go : (n : ℕ) (t : Bool)
          → let found : Row = record { layer = suc (guard_layer (rects (layers s cells) row)); area = area_in (layers s cells) row } in
          row_of (on_cause n (Ok (cond t (Some (ground_by (rects (layers s cells) row))) None)) Err) ≡ on_cause n (Ok (cond t (Some found) None)) Err
      go zero true = refl
      go zero false = refl
      go (suc n) t = refl

  pub row-some : (g : Ground) → Ok (Some g) ≡ plan_named s cells row → (a : ℕ) → a ≡ area_of g.common → Ok (Some (record { layer = g.guard + 1; area = a })) ≡ row_call s cells row
  row-some g e a q = rw (add-one g.guard, q) (row_is (Ok (Some g)) e)

  pub common-is : (m : Result (Option Ground) ℕ) → m ≡ plan_named s cells row → common_answer m ≡ common_call s cells row
  unfolding plan_named row_named common_call kind_in
  common-is m e = ap common_answer e ∙ go (plan_cause s cells) (is_row (layers s cells) row)
    where
      go : (n : ℕ) (t : Bool)
          → let found : CommonGround = record { rect = common_of (rects (layers s cells) row); kind = kind_in (layers s cells) row } in
          common_answer (on_cause n (Ok (cond t (Some (ground_by (rects (layers s cells) row))) None)) Err) ≡ on_cause n (Ok (cond t (Some found) None)) Err
      go zero true = refl
      go zero false = refl
      go (suc n) t = refl
