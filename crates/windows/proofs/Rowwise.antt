-- The minutes of a row's windows, layer by layer, and what the call answers in each of its cases.
use mathlib.Core.Path.{◌≡◌, refl, sym, ap, ap₂, ◌∙◌}
use mathlib.Core.List.{List, [], ◌∷◌}
use mathlib.Core.Bool.{true}
use Prim.Native.Nat.{ℕ, suc, ◌+◌, ◌*◌, ◌≤◌, ◌<◌}
use native.Mathlib.Omega.{arith}
use native.Mathlib.Numerals.{add-one}
use lib.ListN.{length, get_or, drop, drop_of_length-le}
use lib.Seq.{drop-cons, drop-drop}
use Rattle.lists.specs.Lists.{sum}
use Rattle.lists.proofs.Tests.{clash}
use Rattle.rows.specs.RowCall.{fits}
use Rattle.rows.specs.inner.Layers.{Reached}
use Rattle.rows.proofs.RowCall.{fits-long, fits-at}
use Rattle.rows.proofs.Layers.{sum-next, reached-next}
use Rattle.windows.specs.declared.Window.{Window}
use Rattle.windows.specs.Windows.{window_at, both, within, layer_hours, windows_at, hours_of}
use Rattle.windows.proofs.Shared.{window-drop}

-- ---- layer by layer
-- the windows of a row in the layers behind the first j, which have `start` rectangles
abbrev pub windows_from : (sizes hours row : List ℕ) → (start j : ℕ) → List Window
windows_from sizes hours row start j = windows_at (layer_hours (drop j sizes) (drop (2 * start) hours)) (drop j row)

-- after j layers, the windows of those that are left lead to the minutes of all
pub record Sharing (sizes hours row : List ℕ) (w : Window) (start j : ℕ) : Type 0 where
  pub reached : Reached sizes start j
  pub same : within w (windows_from sizes hours row start j) ≡ hours_of sizes hours row

-- the first layer
pub first-there : (sizes row : List ℕ) → 1 ≤ length sizes → fits sizes row ≡ true → get_or row 0 0 < sum sizes
first-there [] row h e = absurd (omega arith)
first-there (n ∷ ns) row h e = omega (arith, fits-at (n ∷ ns) row 0 e h)

pub sharing-first : (sizes hours row : List ℕ) → 1 ≤ length sizes → fits sizes row ≡ true → (w : Window) → w ≡ window_at hours (get_or row 0 0) → Sharing sizes hours row w (get_or sizes 0 0) 1
sharing-first [] hours row h e w q = absurd (omega arith)
sharing-first (n ∷ ns) hours [] h e w q = clash e refl
sharing-first (n ∷ ns) hours (p ∷ row) h e w q = record {
  reached = record { within = h; sums = refl };
  same = ap (λ (v : Window). within v (windows_at (layer_hours ns (drop (2 * n) hours)) row)) q;
}

-- one layer more
module _ (sizes hours row : List ℕ) (w : Window) (start j : ℕ) (t : Sharing sizes hours row w start j) (e : fits sizes row ≡ true) (h : j < length sizes) where
  pub next-there : start + get_or row j 0 < sum sizes
  next-there = omega (arith, sum-next sizes start j t.reached h, fits-at sizes row j e h)

  windows-next : windows_from sizes hours row start j ≡ window_at hours (start + get_or row j 0) ∷ windows_from sizes hours row (start + get_or sizes j 0) (j + 1)
  windows-next =
      let q : 2 * start + 2 * get_or sizes j 0 ≡ 2 * (start + get_or sizes j 0) = omega arith in
      rw add-one
      (ap₂ (λ (ns ps : List ℕ). windows_at (layer_hours ns (drop (2 * start) hours)) ps) (drop-cons sizes j 0 h) (drop-cons row j 0 (omega (arith, fits-long sizes row e)))
      ∙ ap₂ (λ (z : Window) (cs : List ℕ). z ∷ windows_at (layer_hours (drop (suc j) sizes) cs) (drop (suc j) row)) (window-drop hours start (get_or row j 0)) (drop-drop (2 * get_or sizes j 0) (2 * start) hours ∙ ap (λ (n : ℕ). drop n hours) q))

  pub sharing-more : (v u : Window) → v ≡ window_at hours (start + get_or row j 0) → u ≡ both w v → Sharing sizes hours row u (start + get_or sizes j 0) (j + 1)
  sharing-more v u p q = record {
    reached = reached-next sizes start j t.reached h;
    same = ap (λ (z : Window). within z (windows_from sizes hours row (start + get_or sizes j 0) (j + 1))) (q ∙ ap (both w) p) ∙ (sym (ap (within w) windows-next) ∙ t.same);
  }

pub sharing-end : (sizes hours row : List ℕ) (w : Window) (start j : ℕ) → Sharing sizes hours row w start j → length sizes ≤ j → w ≡ hours_of sizes hours row
sharing-end sizes hours row w start j t h =
    sym (ap (λ (ns : List ℕ). within w (windows_at (layer_hours ns (drop (2 * start) hours)) (drop j row))) (drop_of_length-le sizes h)) ∙ t.same
