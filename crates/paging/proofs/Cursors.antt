-- Laws of cursors: one says the guard and the candidates of its probe, and so two probes have the same one only where they have these in common.
use mathlib.Core.Path.{◌≡◌, refl, sym, ap, ◌∙◌}
use mathlib.Core.List.{List}
use mathlib.Core.Bool.{Bool, true, false, not, cond}
use Prim.Native.Nat.{ℕ, suc, ◌+◌, ◌-◌}
use native.Mathlib.Omega.{arith}
use lib.Dec.{eqb}
use lib.ListN.{take}
use borrow.Author.Tests.{eq-eqb, eqb-true}
use Rattle.lists.specs.Lists.{sum, same}
use Rattle.lists.proofs.Padding.{take-padded}
use Rattle.lists.proofs.Tests.{both, never_true, clash}
use Rattle.lists.proofs.Numbers.{same_refl, same-eq}
use Rattle.plan.specs.Spots.{spot_of}
use Rattle.search.specs.Traversal.{Probe}
use Rattle.paging.specs.declared.Cursor.{Cursor}
use Rattle.paging.specs.Cursors.{cursor_of, ended_cursor, same_cursor}
use Rattle.plan.proofs.Spots.{number-spot}
use Rattle.search.proofs.Names.{Apart, Deep}

-- ---- the test of equality
-- where it is passed, the two are equal
pub same-cursor-eq : (a b : Cursor) → same_cursor a b ≡ true → a ≡ b
unfolding same_cursor
same-cursor-eq a b e =
    let h = both _ (eqb a.next b.next) e in
    let g = both _ (same a.chosen b.chosen) h.0 in
    let f = both _ (eqb a.filled b.filled) g.0 in
    let p = both _ (eqb a.place b.place) f.0 in
    let l = both _ (eqb a.layer b.layer) p.0 in
    let ended = mark a.ended b.ended l.0 in
    let layer = eqb-true a.layer b.layer l.1 in
    let place = eqb-true a.place b.place p.1 in
    let filled = eqb-true a.filled b.filled f.1 in
    let chosen = same-eq a.chosen b.chosen g.1 in
    let next = eqb-true a.next b.next h.1 in
    λ i. record { ended = ended i; layer = layer i; place = place i; filled = filled i; chosen = chosen i; next = next i }
  where
    mark : (t u : Bool) → cond t u (not u) ≡ true → t ≡ u
    mark true u e = sym e
    mark false true e = clash e refl
    mark false false e = refl

-- a cursor passes it with itself
pub same-cursor-refl : (a : Cursor) → same_cursor a a ≡ true
unfolding same_cursor
same-cursor-refl a =
    rw (mark a.ended, eq-eqb a.layer a.layer refl, eq-eqb a.place a.place refl, eq-eqb a.filled a.filled refl, same_refl a.chosen, eq-eqb a.next a.next refl)
  where
    mark : (t : Bool) → cond t t (not t) ≡ true
    mark true = refl
    mark false = refl

-- ---- what a cursor says
-- the chosen candidates
abbrev pub chosen_in : Cursor → List ℕ
chosen_in c = take c.filled c.chosen

-- the guard's number, by its layer and place
abbrev pub guard_in : List ℕ → Cursor → ℕ
guard_in ns c = sum (take (c.layer - 1) ns) + c.place

module _ {S : Type 0} (ns : List ℕ) where
  -- the cursor of a probe says its guard's number
  pub cursor-guard : (t : Probe S) → guard_in ns (cursor_of ns t) ≡ t.guard
  cursor-guard t =
      let i = (spot_of ns t.guard).layer in
      let e : suc i - 1 ≡ i = omega arith in
      rw e (number-spot ns t.guard)

  -- and its chosen candidates, where they are at most 5
  pub cursor-chosen : (t : Probe S) → Deep 6 t → chosen_in (cursor_of ns t) ≡ t.chosen
  cursor-chosen t h = take-padded 5 t.chosen (omega arith)

  -- it is not the one that says the walk has ended
  pub never-ended : (t : Probe S) → same_cursor ended_cursor (cursor_of ns t) ≡ false
  unfolding same_cursor
  never-ended t = refl

  -- probes that differ in guard or candidates have other cursors
  pub cursors-apart : (t u : Probe S) → Deep 6 t → Deep 6 u → Apart t u → same_cursor (cursor_of ns t) (cursor_of ns u) ≡ false
  cursors-apart t u h k n =
      never_true (same_cursor (cursor_of ns t) (cursor_of ns u)) (λ e.
      let c = same-cursor-eq (cursor_of ns t) (cursor_of ns u) e in
      n (sym (cursor-guard t) ∙ (ap (guard_in ns) c ∙ cursor-guard u)) (sym (cursor-chosen t h) ∙ (ap chosen_in c ∙ cursor-chosen u k)) (ap (λ (x : Cursor). x.next) c))
