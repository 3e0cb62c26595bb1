-- What the call for a row's shared minutes answers, in each of its cases.
use mathlib.Core.Path.{◌≡◌, refl, sym, ap, ◌∙◌}
use mathlib.Core.List.{List}
use mathlib.Core.Bool.{Bool, true, false, cond}
use mathlib.Core.Option.{some}
use Prim.Native.Nat.{ℕ, zero, suc, ◌*◌, ◌≤◌}
use native.Mathlib.Omega.{arith}
use lib.IntN.{ℤ}
use lib.ListN.{length}
use Rattle.lists.specs.Lists.{sum}
use Rattle.lists.proofs.Tests.{both}
use Rattle.geometry.specs.Rectangles.{nonempty}
use Rattle.plan.specs.declared.Shape.{Shape}
use Rattle.plan.specs.Plan.{sizes_of, layers, plan_cause, Typed, Sound, grown}
use Rattle.plan.proofs.Plan.{checked, front-sum}
use Rattle.plan.proofs.Growing.{framed}
use Rattle.join.specs.Join.{rects, common_of, area_in, guard_layer}
use Rattle.join.specs.Table.{sizes_in}
use Rattle.std.specs.Prelude.{Option, Some, None, Result, Ok, Err}
use Rattle.rows.specs.declared.Row.{Row}
use Rattle.rows.specs.RowCall.{fits, is_row, row_call}
use Rattle.rows.proofs.RowCall.{sizes-of}
use Rattle.windows.specs.declared.Window.{Window}
use Rattle.windows.specs.Windows.{is_open, hours_of}
use Rattle.windows.specs.HoursCall.{hours_cause, hours_call}
use Rattle.windows.proofs.Theorems.{hours-passed}

module _ (s : Shape) (cells : List ℤ) (hours places : List ℕ) where
  pub refused-is : (n : ℕ) → n ≡ hours_cause (some hours) s cells → (n ≡ 0 → ⊥) → Err n ≡ hours_call s cells hours places
  unfolding hours_call
  refused-is zero e h = absurd (h refl)
  refused-is (suc n) e h = rw (← e)

  module _ (passed : hours_cause (some hours) s cells ≡ 0) where
    plan-passed : plan_cause s cells ≡ 0
    plan-passed = ((hours-passed s cells hours).0 passed).0

    -- ---- what the row call tells
    abbrev found : Row
    found = let ls = layers s cells in record { layer = suc (guard_layer (rects ls places)); area = area_in ls places }

    told : row_call s cells places ≡ Ok (cond (is_row (layers s cells) places) (Some found) None)
    unfolding row_call
    told = rw plan-passed

    pub never-refused : (n : ℕ) → Err n ≡ row_call s cells places → ⊥
    never-refused n e = go (e ∙ told)
      where
        go : ◌≡◌ {A = Result (Option Row) ℕ} (Err n) (Ok (cond (is_row (layers s cells) places) (Some found) None)) → ⊥
        go q = cc

    pub no_row : Ok None ≡ row_call s cells places → Ok None ≡ hours_call s cells hours places
    unfolding hours_call
    no_row e = rw (passed, go (is_row (layers s cells) places) (e ∙ told))
      where
        go : (t : Bool) → ◌≡◌ {A = Result (Option Row) ℕ} (Ok None) (Ok (cond t (Some found) None)) → t ≡ false
        go true q = cc
        go false q = refl

    -- ---- a row
    module _ (named : Row) (is-told : Ok (Some named) ≡ row_call s cells places) where
      a-row : is_row (layers s cells) places ≡ true
      a-row = go (is_row (layers s cells) places) (is-told ∙ told)
        where
          go : (t : Bool) → ◌≡◌ {A = Result (Option Row) ℕ} (Ok (Some named)) (Ok (cond t (Some found) None)) → t ≡ true
          go true q = refl
          go false q = cc

      -- its windows are there
      pub row_reads : Typed s → ((1 ≤ s.k) × (s.k ≤ length s.sizes)) × ((fits (sizes_of s) places ≡ true) × (2 * sum (sizes_of s) ≤ length hours))
      unfolding is_row
      row_reads typed =
          let sound : Sound s cells = record { typed = typed; passed = plan-passed } in
          let f = framed s cells sound in
          let k = both (fits (sizes_in (layers s cells)) places) (nonempty (common_of (rects (layers s cells) places))) a-row in (
            (omega (arith, (checked s cells sound).low), f.0),
            (ap (λ (ns : List ℕ). fits ns places) (sym (sizes-of (sizes_of s) (grown s cells))) ∙ k.0, omega (arith, ((hours-passed s cells hours).0 passed).1.0, front-sum s cells (checked s cells sound))),
          )

      pub row_told : (w : Window) → w ≡ hours_of (sizes_of s) hours places → (t : Bool) → t ≡ is_open w → Ok (cond t (Some w) None) ≡ hours_call s cells hours places
      unfolding hours_call
      row_told w e t f = rw (passed, a-row, ← e, ← f)
