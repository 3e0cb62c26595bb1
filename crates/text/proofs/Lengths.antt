-- Laws of the lengths of RECT lines and of LAYER lines, from a place on.
use mathlib.Core.Path.{◌≡◌, refl, ap, ap₂, ◌∙◌}
use mathlib.Core.List.{List, [], ◌∷◌}
use mathlib.Core.Bool.{true}
use Prim.Native.Nat.{ℕ, zero, suc, ◌+◌, ◌*◌, ◌≤◌, ◌<◌}
use native.Mathlib.Omega.{arith}
use native.Mathlib.Numerals.{add-one}
use lib.IntN.{ℤ, pos}
use lib.ListN.{length, get_or, drop, drop_of_length-le}
use Rattle.lists.proofs.Tests.{both}
use Rattle.geometry.specs.declared.Rect.{Rect}
use Rattle.plan.specs.Plan.{rect_at}
use Rattle.decimal.proofs.Places.{at_byte}
use Rattle.line.specs.declared.Line.{Line}
use Rattle.line.specs.declared.Line.TheVariants.{Layer, Rectangle}
use Rattle.line.specs.Lines.{spell_to, short_rect}
use Rattle.text.specs.Spelling.{spell, all_short}
use Rattle.text.specs.Plans.{rect_lines}
use Rattle.text.specs.inner.Lengths.{layers_length}
use Rattle.line.proofs.Lengths.{spell-length, layer-most, rect-most}
use Rattle.text.proofs.Sound.{next-rect}

-- ---- RECT lines, from a place on
pub rects-next : (p : ℕ) (cells : List ℤ) → 4 * p + 4 ≤ length cells → rect_lines (drop (4 * p) cells) ≡ Rectangle (rect_at cells p) ∷ rect_lines (drop (4 * suc p) cells)
rects-next p [] h = absurd (omega arith)
rects-next p (a ∷ []) h = absurd (omega arith)
rects-next p (a ∷ b ∷ []) h = absurd (omega arith)
rects-next p (a ∷ b ∷ c ∷ []) h = absurd (omega arith)
rects-next zero (a ∷ b ∷ c ∷ d ∷ cells) h = unfold rect_at in refl
rects-next (suc p) (a ∷ b ∷ c ∷ d ∷ cells) h =
    let q : (n : ℕ) → 4 * suc n ≡ suc (suc (suc (suc (4 * n)))) = λ n. omega arith in
    rw (q (suc p), q p, next-rect a b c d cells p) (rects-next p cells (omega arith) ∙ rw (q p))

pub rects-none : (p : ℕ) (cells : List ℤ) → length cells ≤ 4 * p → rect_lines (drop (4 * p) cells) ≡ []
rects-none p cells h = ap rect_lines (drop_of_length-le cells {i = 4 * p} h)

-- ---- lengths are small
pub rects-few : (n : ℕ) (cells : List ℤ) → length cells ≡ 4 * n → length (spell (rect_lines cells)) ≤ 93 * n
rects-few zero [] e = omega arith
rects-few zero (a ∷ cells) e = absurd (omega arith)
rects-few (suc n) [] e = absurd (omega arith)
rects-few (suc n) (a ∷ []) e = absurd (omega arith)
rects-few (suc n) (a ∷ b ∷ []) e = absurd (omega arith)
rects-few (suc n) (a ∷ b ∷ c ∷ []) e = absurd (omega arith)
rects-few (suc n) (a ∷ b ∷ c ∷ d ∷ cells) e =
    let r : Rect = record { left = a; bottom = b; right = c; top = d } in
    omega (arith, spell-length (Rectangle r) (spell (rect_lines cells)), rect-most r, rects-few n cells (omega arith))

pub layers-few : (ns ms : List ℕ) → layers_length ns ms ≤ 48 * length ns
layers-few [] ms = omega arith
layers-few (n ∷ ns) [] = omega arith
layers-few (n ∷ ns) (m ∷ ms) = omega (arith, layer-most n m, layers-few ns ms)

-- ---- rectangle by rectangle
pub record Measuring (cells : List ℤ) (size p : ℕ) : Type 0 where
  pub short : all_short (rect_lines (drop (4 * p) cells)) ≡ true
  pub gives : size + length (spell (rect_lines (drop (4 * p) cells))) ≡ length (spell (rect_lines cells))

pub measuring-start : (cells : List ℤ) → all_short (rect_lines cells) ≡ true → Measuring cells 0 0
measuring-start cells h = record { short = h; gives = omega arith }

module _ (cells : List ℤ) (n size p : ℕ) (whole : length cells ≡ 4 * n) (m : Measuring cells size p) (h : p < n) where
  next : rect_lines (drop (4 * p) cells) ≡ Rectangle (rect_at cells p) ∷ rect_lines (drop (4 * (p + 1)) cells)
  next = rw add-one (rects-next p cells (omega arith))

  pub measuring-short : short_rect (rect_at cells p) ≡ true
  measuring-short = (both (short_rect (rect_at cells p)) (all_short (rect_lines (drop (4 * (p + 1)) cells))) (rw next at m.short)).0

  pub measuring-few : size + length (spell_to (Rectangle (rect_at cells p)) []) ≤ 93 * n
  measuring-few =
      omega (arith, m.gives, ap (λ (ls : List Line). length (spell ls)) next, spell-length (Rectangle (rect_at cells p)) (spell (rect_lines (drop (4 * (p + 1)) cells))), rects-few n cells whole)

  pub measuring-more : Measuring cells (size + length (spell_to (Rectangle (rect_at cells p)) [])) (p + 1)
  measuring-more =
      record {
        short = (both (short_rect (rect_at cells p)) (all_short (rect_lines (drop (4 * (p + 1)) cells))) (rw next at m.short)).1;
        gives = omega (arith, m.gives, ap (λ (ls : List Line). length (spell ls)) next, spell-length (Rectangle (rect_at cells p)) (spell (rect_lines (drop (4 * (p + 1)) cells))));
      }

pub measuring-end : (cells : List ℤ) (size p : ℕ) → length cells ≤ 4 * p → Measuring cells size p → size ≡ length (spell (rect_lines cells))
measuring-end cells size p h m = omega (arith, m.gives, ap (λ (ls : List Line). length (spell ls)) (rects-none p cells h))

-- ---- layer by layer
-- the sizes and margins from j on are left to be measured
pub record Layering (ns ms : List ℕ) (length₀ j : ℕ) : Type 0 where
  pub within : j ≤ length ns
  pub beside : length ms ≡ length ns
  pub gives : length₀ + layers_length (drop j ns) (drop j ms) ≡ layers_length ns ms

pub layering-start : (ns ms : List ℕ) → length ms ≡ length ns → Layering ns ms 0 0
layering-start ns ms b = record { within = omega arith; beside = b; gives = omega arith }

module _ (ns ms : List ℕ) (length₀ j : ℕ) (l : Layering ns ms length₀ j) (h : j < length ns) where
  -- the length of the next line
  abbrev long : ℕ
  long = length (spell_to (Layer (pos (get_or ns j 0)) (pos (get_or ms j 0))) [])

  next-layer : layers_length (drop j ns) (drop j ms) ≡ long + layers_length (drop (j + 1) ns) (drop (j + 1) ms)
  next-layer = ap₂ layers_length (at_byte ns j h) (at_byte ms j (omega (arith, l.beside)))

  pub layering-few : length₀ + long ≤ 48 * length ns
  layering-few = omega (arith, l.gives, next-layer, layers-few ns ms)

  pub layering-more : Layering ns ms (length₀ + long) (j + 1)
  layering-more = record { within = omega arith; beside = l.beside; gives = omega (arith, l.gives, next-layer) }

pub layering-end : (ns ms : List ℕ) (length₀ j : ℕ) → length ns ≤ j → Layering ns ms length₀ j → length₀ ≡ layers_length ns ms
layering-end ns ms length₀ j h l = omega (arith, l.gives, ap (λ (ks : List ℕ). layers_length ks (drop j ms)) (drop_of_length-le ns h))
