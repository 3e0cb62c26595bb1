-- Laws of the things that are wrong with well formed lines, one for each return of the code.
use mathlib.Core.Path.{◌≡◌, sym}
use mathlib.Core.List.{List, ◌++◌}
use mathlib.Core.Bool.{Bool, true, false, ◌&&◌, ◌||◌}
use Prim.Native.Nat.{ℕ, ◌-◌}
use lib.Dec.{T, eqb, ltb}
use lib.IntN.{ℤ, pos, neg_ℤ, nat_abs}
use lib.Signed.{le_z, non_neg}
use borrow.Author.Tests.{eq-eqb, ne_eqb}
use Rattle.geometry.specs.declared.Rect.{Rect}
use Rattle.geometry.specs.Rectangles.{reach, between}
use Rattle.geometry.proofs.Integers.{zarith, one_side, non_neg-law, size-law, sfits→}
use mir.Syntax.{w32}
use mir.Val.{SFits, Fits}
use Rattle.line.specs.declared.Line.{Line}
use Rattle.line.specs.declared.Line.TheVariants.{Plan, Layer, Rectangle}
use Rattle.outcomes.specs.Texts.{up_to, behind_first, text_part}
use Rattle.checking.specs.declared.Counts.{Counts}
use Rattle.checking.specs.declared.Pen.{Pen}
use Rattle.checking.specs.declared.reason.Reason.{Reason}
use Rattle.checking.specs.declared.reason.Reason.TheVariants as reason
use Rattle.checking.specs.Faults.{unless_note, is_from_to, size_of, count_rect, counted_with, missing, layer_faults, surplus, in_reach, side_faults, rect_faults, line_faults, plan_faults}
use Rattle.checking.specs.inner.Words.{reason_lines, reason_text}
use Rattle.checking.specs.inner.Notes.{PenIn, Noted}
use Rattle.checking.proofs.Notes.{noted-none, noted-then}

-- ---- numbers
module _ (low high z : ℤ) where
  pub within-above : le_z low z ≡ true → le_z z high ≡ is_from_to low high z
  unfolding is_from_to
  within-above h = rw h

  pub within-below : le_z low z ≡ false → false ≡ is_from_to low high z
  unfolding is_from_to
  within-below h = rw h

module _ (z : ℤ) where
  pub size_above : le_z (pos 0) z ≡ true → nat_abs z ≡ size_of z
  unfolding size_of
  size_above h = rw h

  pub size_below : le_z (pos 0) z ≡ false → 0 ≡ size_of z
  unfolding size_of
  size_below h = rw h

  pub not-below : le_z (pos 0) z ≡ true → T (non_neg z)
  not-below h = non_neg-law z (omega (zarith, h, one_side z))

pub size_fits : {z : ℤ} → SFits w32 z → Fits w32 (nat_abs z)
size_fits {z} f = omega (zarith, sfits→ w32 z f, size-law z, one_side z)

-- ---- what is counted
module _ (c : Counts) where
  pub counted-over : c.due ≡ 0
      → ◌≡◌ {A = Counts} (record { line = c.line; due = c.due; over = true }) (count_rect c)
  counted-over e = rw e

  pub counted-due : (c.due ≡ 0 → ⊥)
      → ◌≡◌ {A = Counts} (record { line = c.line; due = c.due - 1; over = false }) (count_rect c)
  counted-due n = rw (ne_eqb c.due 0 n)

  pub count-layer : (number : ℕ) (line : Line) (n m : ℤ) (due : ℕ) → line ≡ Layer n m → due ≡ size_of n
      → ◌≡◌ {A = Counts} (record { line = number; due = due; over = false }) (counted_with number c line)
  count-layer number line n m due e f = rw (e, f)

  pub count-rect : (number : ℕ) (line : Line) (r : Rect) (d : Counts) → line ≡ Rectangle r → d ≡ count_rect c → d ≡ counted_with number c line
  count-rect number line r d e f = rw e f

  pub enough-due : c.over ≡ false → ltb 0 c.due ≡ (c.over || ltb 0 c.due)
  enough-due e = rw e

  pub enough-over : c.over ≡ true → true ≡ (c.over || ltb 0 c.due)
  enough-over e = rw e

  -- ---- words
  pub surplus-before : c.line ≡ 0 → reason_text reason.EarlyRect ≡ surplus c
  unfolding surplus reason_text reason_lines text_part up_to behind_first
  surplus-before e = rw (eq-eqb c.line 0 e)

  pub surplus-more : (c.line ≡ 0 → ⊥) → reason_text reason.ManyRects ≡ surplus c
  unfolding surplus reason_text reason_lines text_part up_to behind_first
  surplus-more n = rw (ne_eqb c.line 0 n)

-- all four coordinates are in range
pub reach-is : (r : Rect) (a b c d : Bool) → a ≡ is_from_to (neg_ℤ reach) reach r.left → b ≡ is_from_to (neg_ℤ reach) reach r.bottom
    → c ≡ is_from_to (neg_ℤ reach) reach r.right → d ≡ is_from_to (neg_ℤ reach) reach r.top → (a && b && c && d) ≡ in_reach r
unfolding is_from_to between in_reach
reach-is r a b c d e f g h = rw (e, f, g, h)

-- ---- things told
module _ (buf last : List ℕ) (pen r : Pen) where
  pub missing-noted : (c : Counts) → Noted buf pen (unless_note (eqb c.due 0) c.line (reason_text reason.FewRects)) last r → Noted buf pen (missing c) last r
  unfolding reason_text reason_lines text_part up_to behind_first
  missing-noted c p = p

  module _ (mid : List ℕ) (q : Pen) where
    pub layer-noted : (number : ℕ) (n m : ℤ) (u v : Bool) → u ≡ is_from_to (pos 0) (pos 512) n → v ≡ is_from_to (pos 0) (pos 50000) m
        → Noted buf pen (unless_note u number (reason_text reason.WrongSize)) mid q → Noted mid q (unless_note v number (reason_text reason.WrongMargin)) last r → Noted buf pen (layer_faults number n m) last r
    unfolding reason_text reason_lines text_part up_to behind_first
    layer-noted number n m u v e f a b = rw (sym e, sym f) (noted-then buf mid last pen q r _ _ a b)

    pub rect-noted : (number : ℕ) (c : Counts) (x : Rect) (u : Bool) (i : Reason) → u ≡ (c.over || ltb 0 c.due) → reason_text i ≡ surplus c
        → Noted buf pen (unless_note u number (reason_text i)) mid q → Noted mid q (side_faults number x) last r → Noted buf pen (rect_faults number c x) last r
    rect-noted number c x u i e f a b = rw (sym e, sym f) (noted-then buf mid last pen q r _ _ a b)

    pub sides-noted : (number : ℕ) (x : Rect) (w : Bool) (late : List ℕ) (p : Pen) → w ≡ in_reach x
        → Noted buf pen (unless_note (le_z x.left x.right) number (reason_text reason.LeftAboveRight)) mid q → Noted mid q (unless_note (le_z x.bottom x.top) number (reason_text reason.BottomAboveTop)) late p
        → Noted late p (unless_note w number (reason_text reason.OutOfRange)) last r → Noted buf pen (side_faults number x) last r
    unfolding reason_text reason_lines text_part up_to behind_first
    sides-noted number x w late p e a b d = noted-then buf mid last pen q r _ _ a (rw (sym e) (noted-then mid late last q p r _ _ b d))

    pub layers-noted : (number : ℕ) (c : Counts) (n m : ℤ) → Noted buf pen (missing c) mid q → Noted mid q (layer_faults number n m) last r
        → Noted buf pen (missing c ++ layer_faults number n m) last r
    layers-noted number c n m a b = noted-then buf mid last pen q r _ _ a b

    pub plan-noted : (k : ℤ) (layers : ℕ) (v : Bool) (n : ℕ) → v ≡ is_from_to (pos 2) (pos 6) k → n ≡ size_of k → Noted buf pen (unless_note v 1 (reason_text reason.WrongLayerCount)) mid q
        → Noted mid q (unless_note (eqb n layers) 1 (reason_text reason.OtherLayerCount)) last r → Noted buf pen (plan_faults k layers) last r
    unfolding reason_text reason_lines text_part up_to behind_first
    plan-noted k layers v n e f a b = rw (sym e, sym f) (noted-then buf mid last pen q r _ _ a b)

-- ---- a line, by its word
module _ (buf : List ℕ) (pen : Pen) (number : ℕ) (c : Counts) (line : Line) where
  pub line-plan : (k : ℤ) → line ≡ Plan k → PenIn buf pen → Noted buf pen (line_faults number c line) buf pen
  line-plan k e p = rw e (noted-none buf pen p)

  module _ (last : List ℕ) (r : Pen) where
    pub line-layer : (n m : ℤ) → line ≡ Layer n m → Noted buf pen (missing c ++ layer_faults number n m) last r → Noted buf pen (line_faults number c line) last r
    line-layer n m e p = rw e p

    pub line-rect : (x : Rect) → line ≡ Rectangle x → Noted buf pen (rect_faults number c x) last r → Noted buf pen (line_faults number c line) last r
    line-rect x e p = rw e p
