-- A sound plan's lines give it back, and lines that agree are those of the plan that they give.
use mathlib.Core.Path.{◌≡◌, refl, ap, ap₂, ◌∙◌}
use mathlib.Core.List.{List, [], ◌∷◌, ◌++◌}
use mathlib.Core.Bool.{true, ◌&&◌}
use Prim.Native.Nat.{ℕ, zero, suc, ◌*◌, ◌^◌, ◌≤◌}
use native.Mathlib.Omega.{arith}
use lib.Dec.{eqb}
use lib.IntN.{ℤ, pos, negsuc}
use lib.ListN.{length, take, drop, length-drop, take-append-drop}
use lib.Seq.{length-take-le}
use borrow.Author.Tests.{eqb-true, eq-eqb, lt-ltb}
use Rattle.lists.specs.Lists.{sum, padded}
use Rattle.lists.proofs.Tests.{clash, both, and-true}
use Rattle.lists.proofs.Padding.{padded-front}
use Rattle.plan.specs.declared.Shape.{Shape}
use Rattle.plan.specs.Plan.{sizes_of, plan_cause, Sound}
use Rattle.plan.specs.Theorems.{Bounded}
use Rattle.plan.proofs.Plan.{Checked, checked, front-sum, count-is, few}
use Rattle.plan.proofs.Theorems.{plan-passed}
use Rattle.decimal.specs.Numerals.{most_digits}
use Rattle.decimal.proofs.Numerals.{size_below}
use Rattle.line.specs.declared.Line.{Line}
use Rattle.line.specs.declared.Line.TheVariants.{Plan, Layer, Rectangle}
use Rattle.line.proofs.Lengths.{plan-length, spell-length}
use Rattle.text.specs.Spelling.{spell, all_inner, headed, all_short}
use Rattle.text.specs.Plans.{rect_lines, layer_lines, plan_lines, layer_sizes, layer_margins, cells_in, shape_in, rects_agree, agrees}
use Rattle.text.proofs.Sound.{Inside, passed-sound, lines-inside}
use Rattle.text.proofs.Sizes.{lines-short, lines_long}

-- ---- from a plan to its lines
-- lines that give these sizes, margins and cells, where `due` RECT lines come first
pub record Gives (due : ℕ) (ns ms : List ℕ) (plan : List ℤ) (ls : List Line) : Type 0 where
  pub inner : all_inner ls ≡ true
  pub count : rects_agree due ls ≡ true
  pub sizes : layer_sizes ls ≡ ns
  pub margins : layer_margins ls ≡ ms
  pub cells : cells_in ls ≡ plan

gives-rects : (n : ℕ) (front : List ℤ) (ns ms : List ℕ) (back : List ℤ) (ls : List Line) → length front ≡ 4 * n → Gives 0 ns ms back ls → Gives n ns ms (front ++ back) (rect_lines front ++ ls)
gives-rects zero [] ns ms back ls e g = g
gives-rects zero (a ∷ front) ns ms back ls e g = absurd (omega arith)
gives-rects (suc n) [] ns ms back ls e g = absurd (omega arith)
gives-rects (suc n) (a ∷ []) ns ms back ls e g = absurd (omega arith)
gives-rects (suc n) (a ∷ b ∷ []) ns ms back ls e g = absurd (omega arith)
gives-rects (suc n) (a ∷ b ∷ c ∷ []) ns ms back ls e g = absurd (omega arith)
gives-rects (suc n) (a ∷ b ∷ c ∷ d ∷ front) ns ms back ls e g =
    let r = gives-rects n front ns ms back ls (omega arith) g in
    record { inner = r.inner; count = r.count; sizes = r.sizes; margins = r.margins; cells = ap (λ (l : List ℤ). a ∷ b ∷ c ∷ d ∷ l) r.cells }

pub gives-layers : (ns ms : List ℕ) (cells : List ℤ) → length ms ≡ length ns → length cells ≡ 4 * sum ns → Gives 0 ns ms cells (layer_lines ns ms cells)
gives-layers [] [] [] b e = record { inner = refl; count = refl; sizes = refl; margins = refl; cells = refl }
gives-layers [] [] (a ∷ cells) b e = absurd (omega arith)
gives-layers [] (m ∷ ms) cells b e = absurd (omega arith)
gives-layers (n ∷ ns) [] cells b e = absurd (omega arith)
gives-layers (n ∷ ns) (m ∷ ms) cells b e =
    let h : 4 * n ≤ length cells = omega arith in
    let r = gives-layers ns ms (drop (4 * n) cells) (omega arith) (omega (arith, length-drop (4 * n) cells)) in
    let g = gives-rects n (take (4 * n) cells) ns ms (drop (4 * n) cells) (layer_lines ns ms (drop (4 * n) cells)) (length-take-le (4 * n) cells h) r in
    record {
      inner = g.inner;
      count = g.count;
      sizes = ap (λ (l : List ℕ). n ∷ l) g.sizes;
      margins = ap (λ (l : List ℕ). m ∷ l) g.margins;
      cells = g.cells ∙ take-append-drop (4 * n) cells;
    }

-- ---- the text of a sound plan
module _ (s : Shape) (plan : List ℤ) (sound : Sound s plan) where
  fit : Checked s plan
  fit = checked s plan sound

  -- its sizes and margins are in range, and 0 past k
  right : Bounded 512 s.k s.sizes × Bounded 50000 s.k s.margins
  right = let c = (plan-passed s plan).0 sound.passed in (c.1, c.2)

  -- the margins of the layers
  abbrev margins : List ℕ
  margins = take s.k s.margins

  layers : length (sizes_of s) ≡ s.k
  layers = length-take-le s.k s.sizes (omega (arith, fit.high, sound.typed.sizes))

  beside : length margins ≡ s.k
  beside = length-take-le s.k s.margins (omega (arith, fit.high, sound.typed.margins))

  -- the lines behind the PLAN line
  abbrev behind : List Line
  behind = layer_lines (sizes_of s) margins plan

  gives : Gives 0 (sizes_of s) margins plan behind
  gives = gives-layers (sizes_of s) margins plan (omega (arith, layers, beside)) (omega (arith, fit.whole, front-sum s plan fit))

  pub plan-shape : shape_in (plan_lines s plan) ≡ s
  unfolding plan_lines shape_in
  plan-shape =
      let e : padded 6 (layer_sizes behind) ≡ s.sizes = ap (padded 6) gives.sizes ∙ padded-front 6 s.k s.sizes sound.typed.sizes (λ j. (right.0 j).1) in
      let f : padded 6 (layer_margins behind) ≡ s.margins = ap (padded 6) gives.margins ∙ padded-front 6 s.k s.margins sound.typed.margins (λ j. (right.1 j).1) in
      ap₂ (λ (ns ms : List ℕ). record { k = s.k; sizes = ns; margins = ms }) e f

  pub plan-cells : cells_in (plan_lines s plan) ≡ plan
  unfolding plan_lines
  plan-cells = gives.cells

  given_back : plan_cause (shape_in (plan_lines s plan)) (cells_in (plan_lines s plan)) ≡ 0
  given_back = ap₂ plan_cause plan-shape plan-cells ∙ sound.passed

  count : length (layer_sizes behind) ≡ s.k
  count = ap length gives.sizes ∙ layers

  pub plan-agrees : agrees (plan_lines s plan) ≡ true
  unfolding agrees plan_lines
  plan-agrees =
      and-true (eqb (length (layer_sizes behind)) s.k && rects_agree 0 behind) (eqb (plan_cause (shape_in (plan_lines s plan)) (cells_in behind)) 0)
      (and-true (eqb (length (layer_sizes behind)) s.k) (rects_agree 0 behind) (eq-eqb (length (layer_sizes behind)) s.k count) gives.count)
      (eq-eqb (plan_cause (shape_in (plan_lines s plan)) (cells_in behind)) 0 given_back)

  inside : Inside behind
  unfolding plan_lines shape_in
  inside =
      lines-inside s.k behind count fit.high gives.count
      (checked (shape_in (plan_lines s plan)) (cells_in (plan_lines s plan)) (passed-sound (plan_lines s plan) given_back))

  pub plan-short : all_short (plan_lines s plan) ≡ true
  unfolding plan_lines
  plan-short = rw (lt-ltb s.k (10 ^ most_digits) (omega (arith, fit.high))) (lines-short 0 behind gives.count inside)

  -- 7 bytes, six times 16, and 3,072 times 45
  pub plan-long : length (spell (plan_lines s plan)) ≤ 138343
  unfolding plan_lines
  plan-long =
      let n : sum (layer_sizes behind) ≤ 3072 = omega (arith, ap sum gives.sizes, front-sum s plan fit, count-is s plan fit, few s plan sound) in
      omega (
        arith,
        lines_long 0 behind gives.count inside,
        count,
        fit.high,
        spell-length (Plan (pos s.k)) (spell behind),
        plan-length s.k,
        size_below 0 s.k (omega arith) (omega (arith, fit.high)),
      )

  pub plan-headed : headed (plan_lines s plan) ≡ true
  unfolding plan_lines
  plan-headed = gives.inner

-- ---- from lines to a plan
pub lines_are : (due : ℕ) (ls : List Line) → rects_agree due ls ≡ true → ls ≡ rect_lines (take (4 * due) (cells_in ls)) ++ layer_lines (layer_sizes ls) (layer_margins ls) (drop (4 * due) (cells_in ls))
lines_are zero [] e = refl
lines_are (suc due) [] e = absurd (omega (arith, eqb-true (suc due) 0 e))
lines_are due (Plan k ∷ ls) e = clash e refl
lines_are due (Layer (negsuc n) m ∷ ls) e = clash e refl
lines_are due (Layer (pos n) (negsuc m) ∷ ls) e = clash e refl
lines_are zero (Layer (pos n) (pos m) ∷ ls) e = ap (λ (l : List Line). Layer (pos n) (pos m) ∷ l) (lines_are n ls e)
lines_are (suc due) (Layer (pos n) (pos m) ∷ ls) e = absurd (omega (arith, eqb-true (suc due) 0 (both (eqb (suc due) 0) (rects_agree n ls) e).0))
lines_are zero (Rectangle r ∷ ls) e = clash e refl
lines_are (suc due) (Rectangle r ∷ ls) e =
    let q : 4 * suc due ≡ suc (suc (suc (suc (4 * due)))) = omega arith in
    rw q (ap (λ (l : List Line). Rectangle r ∷ l) (lines_are due ls e))
