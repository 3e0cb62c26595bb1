-- The length of the text of a sound plan, and its RECT lines taken together.
use mathlib.Core.Path.{◌≡◌, refl, sym, ap, ◌∙◌}
use mathlib.Core.List.{List, [], ◌∷◌, ◌++◌}
use mathlib.Core.Bool.{true}
use Prim.Native.Nat.{ℕ, zero, suc, ◌+◌, ◌*◌, ◌≤◌, ◌<◌}
use native.Mathlib.Omega.{arith}
use lib.IntN.{ℤ, pos}
use lib.ListN.{length, take, drop, length-append, length-drop, take-append-drop}
use lib.Seq.{length-take-le}
use Rattle.lists.specs.Lists.{sum}
use Rattle.geometry.specs.Rectangles.{in_range}
use Rattle.plan.specs.declared.Shape.{Shape}
use Rattle.plan.specs.Plan.{rect_at, count, sizes_of, Sound}
use Rattle.plan.proofs.Plan.{checked, front-sum, few}
use Rattle.line.specs.declared.Line.{Line}
use Rattle.line.specs.declared.Line.TheVariants.{Plan, Layer, Rectangle}
use Rattle.line.specs.Lines.{spell_to}
use Rattle.text.specs.Spelling.{spell, all_short}
use Rattle.text.specs.Plans.{rect_lines, layer_lines, plan_lines, text_of}
use Rattle.text.specs.inner.Lengths.{layers_length}
use Rattle.text.proofs.Sound.{next-rect}
use Rattle.text.proofs.Spelling.{spell-++}
use Rattle.text.proofs.Sizes.{rect-short}
use Rattle.line.proofs.Lengths.{spell-length}
use Rattle.text.proofs.Lengths.{layers-few, rects-few}

rects-++ : (n : ℕ) (front back : List ℤ) → length front ≡ 4 * n → rect_lines (front ++ back) ≡ rect_lines front ++ rect_lines back
rects-++ zero [] back e = refl
rects-++ zero (a ∷ front) back e = absurd (omega arith)
rects-++ (suc n) [] back e = absurd (omega arith)
rects-++ (suc n) (a ∷ []) back e = absurd (omega arith)
rects-++ (suc n) (a ∷ b ∷ []) back e = absurd (omega arith)
rects-++ (suc n) (a ∷ b ∷ c ∷ []) back e = absurd (omega arith)
rects-++ (suc n) (a ∷ b ∷ c ∷ d ∷ front) back e =
    ap (λ (ls : List Line). Rectangle (record { left = a; bottom = b; right = c; top = d }) ∷ ls) (rects-++ n front back (omega arith))

layers-length : (ns ms : List ℕ) (cells : List ℤ) → length ms ≡ length ns → length cells ≡ 4 * sum ns → length (spell (layer_lines ns ms cells)) ≡ layers_length ns ms + length (spell (rect_lines cells))
layers-length [] ms [] b e = refl
layers-length [] ms (a ∷ cells) b e = absurd (omega arith)
layers-length (n ∷ ns) [] cells b e = absurd (omega arith)
layers-length (n ∷ ns) (m ∷ ms) cells b e =
    let front = take (4 * n) cells in
    let back = drop (4 * n) cells in
    let r : rect_lines cells ≡ rect_lines front ++ rect_lines back = sym (ap rect_lines (take-append-drop (4 * n) cells)) ∙ rects-++ n front back (length-take-le (4 * n) cells (omega arith)) in
    omega (
      arith,
      spell-length (Layer (pos n) (pos m)) (spell (rect_lines front ++ layer_lines ns ms back)),
      ap length (spell-++ (rect_lines front) (layer_lines ns ms back)),
      length-append (spell (rect_lines front)) (spell (layer_lines ns ms back)),
      layers-length ns ms back (omega arith) (omega (arith, length-drop (4 * n) cells)),
      ap (λ (ls : List Line). length (spell ls)) r,
      ap length (spell-++ (rect_lines front) (rect_lines back)),
      length-append (spell (rect_lines front)) (spell (rect_lines back)),
    )

rects-short : (n : ℕ) (cells : List ℤ) → length cells ≡ 4 * n → ((p : ℕ) → p < n → in_range (rect_at cells p) ≡ true) → all_short (rect_lines cells) ≡ true
rects-short zero [] e h = refl
rects-short zero (a ∷ cells) e h = absurd (omega arith)
rects-short (suc n) [] e h = absurd (omega arith)
rects-short (suc n) (a ∷ []) e h = absurd (omega arith)
rects-short (suc n) (a ∷ b ∷ []) e h = absurd (omega arith)
rects-short (suc n) (a ∷ b ∷ c ∷ []) e h = absurd (omega arith)
rects-short (suc n) (a ∷ b ∷ c ∷ d ∷ cells) e h =
    rw (rect-short (record { left = a; bottom = b; right = c; top = d }) (unfold rect_at in h 0 (omega arith)))
    (rects-short n cells (omega arith) (λ p l. sym (ap in_range (next-rect a b c d cells p)) ∙ h (suc p) (omega arith)))

-- ---- a sound plan
pub record Measured (s : Shape) (cells : List ℤ) : Type 0 where
  pub whole : length cells ≡ 4 * count cells
  pub few : count cells ≤ 3072
  pub short : all_short (rect_lines cells) ≡ true
  pub layers : layers_length (sizes_of s) (take s.k s.margins) ≤ 288
  pub rects : length (spell (rect_lines cells)) ≤ 285696
  pub text : length (text_of s cells) ≡ length (spell_to (Plan (pos s.k)) []) + layers_length (sizes_of s) (take s.k s.margins) + length (spell (rect_lines cells))

pub measured : (s : Shape) (cells : List ℤ) → Sound s cells → Measured s cells
unfolding text_of plan_lines
measured s cells h =
    let c = checked s cells h in
    let n = few s cells h in
    let w : length cells ≡ 4 * count cells = omega (arith, c.whole) in
    let ms = take s.k s.margins in
    let j = length-take-le s.k s.sizes (omega (arith, c.high, h.typed.sizes)) in
    let k = length-take-le s.k s.margins (omega (arith, c.high, h.typed.margins)) in
    record {
      whole = w;
      few = n;
      short = rects-short (count cells) cells w c.ranged;
      layers = omega (arith, layers-few (sizes_of s) ms, j, c.high);
      rects = omega (arith, rects-few (count cells) cells w);
      text = omega (arith, spell-length (Plan (pos s.k)) (spell (layer_lines (sizes_of s) ms cells)), layers-length (sizes_of s) ms cells (omega (arith, j, k)) (omega (arith, c.whole, front-sum s cells c)));
    }
