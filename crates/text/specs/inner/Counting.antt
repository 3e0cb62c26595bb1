-- What the reader's first pass counts, line after line; no public call's contract cites it.
use Rattle.std.specs.Prelude.{List, [], ◌∷◌, Bool, true, false, ◌&&◌, ℕ, ◌+◌, ◌-◌, ◌*◌, ◌≤◌, eqb, leb, ltb, ℤ, pos, nat_abs, set}
use Rattle.std.proofs.Math.Option.{Option, none, some}
use Rattle.std.specs.Int.Signed.{le_z}
use Rattle.geometry.specs.declared.Rect.{Rect}
use Rattle.geometry.specs.Rectangles.{in_range, most_margin}
use Rattle.plan.specs.Causes.{unless, ◌or_else◌}
use Rattle.plan.specs.Limits.{most_size}
use Rattle.text.specs.declared.Tally.{Tally}
use Rattle.line.specs.declared.Line.{Line}
use Rattle.line.specs.declared.Line.TheVariants.{Plan, Layer, Rectangle}
use Rattle.text.specs.Parsing.{all_lines}

-- nothing is counted yet
abbrev pub none_yet : Tally
none_yet = record {
  formed = true;
  good = true;
  due = 0;
  layers = 0;
  rects = 0;
  sizes = 0 ∷ 0 ∷ 0 ∷ 0 ∷ 0 ∷ 0 ∷ [];
  margins = 0 ∷ 0 ∷ 0 ∷ 0 ∷ 0 ∷ 0 ∷ [];
}

-- the text is not well formed
abbrev pub unformed : Tally
unformed = record {
  formed = false;
  good = false;
  due = 0;
  layers = 0;
  rects = 0;
  sizes = 0 ∷ 0 ∷ 0 ∷ 0 ∷ 0 ∷ 0 ∷ [];
  margins = 0 ∷ 0 ∷ 0 ∷ 0 ∷ 0 ∷ 0 ∷ [];
}

-- something is miscounted or out of range
abbrev pub spoilt : Tally → Tally
spoilt t = record { formed = t.formed; good = false; due = t.due; layers = t.layers; rects = t.rects; sizes = t.sizes; margins = t.margins }

-- the first where the test passed, else the second
abbrev pub pick : Bool → Tally → Tally → Tally
pick true a b = a
pick false a b = b

-- n is from 0 to `most`
unfoldable pub up_to : (most n : ℤ) → Bool
up_to most n = le_z (pos 0) n && le_z n most

-- a LAYER line of this size and margin may come
unfoldable pub layer_right : Tally → (n m : ℤ) → Bool
layer_right t n m = eqb t.due 0 && (ltb t.layers 6 && (up_to (pos most_size) n && up_to (pos most_margin) m))

-- the tally with a layer of n rectangles and the margin m more
abbrev pub with_layer : Tally → (n m : ℕ) → Tally
with_layer t n m =
    record {
      formed = t.formed;
      good = t.good;
      due = n;
      layers = t.layers + 1;
      rects = t.rects + n;
      sizes = set t.sizes t.layers n;
      margins = set t.margins t.layers m;
    }

-- one layer more, or a spoilt tally
unfoldable pub add_layer : Tally → (n m : ℤ) → Tally
add_layer t n m = pick (layer_right t n m) (with_layer t (nat_abs n) (nat_abs m)) (spoilt t)

-- the tally with a rectangle more
abbrev pub with_rect : Tally → Tally
with_rect t = record { formed = t.formed; good = t.good; due = t.due - 1; layers = t.layers; rects = t.rects; sizes = t.sizes; margins = t.margins }

-- one rectangle more, or a spoilt tally
unfoldable pub add_rect : Tally → Rect → Tally
add_rect t r = pick (leb 1 t.due && in_range r) (with_rect t) (spoilt t)

-- one line more behind the PLAN line
abbrev pub add_line : Tally → Line → Tally
add_line t (Plan k) = unformed
add_line t (Layer n m) = add_layer t n m
add_line t (Rectangle r) = add_rect t r

-- all the lines behind it
abbrev pub add_lines : Tally → List Line → Tally
add_lines t [] = t
add_lines t (Plan k ∷ ls) = unformed
add_lines t (Layer n m ∷ ls) = add_lines (add_layer t n m) ls
add_lines t (Rectangle r ∷ ls) = add_lines (add_rect t r) ls

-- the lines, where there are any
abbrev pub add_if : Tally → Option (List Line) → Tally
add_if t none = unformed
add_if t (some ls) = add_lines t ls

-- all the lines of a text
unfoldable pub tally_from : Tally → List ℕ → Tally
tally_from t s = add_if t (all_lines s)

-- no more layers than a plan may have, and no more rectangles than they may have
pub record Few (t : Tally) : Type 0 where
  pub layers : t.layers ≤ 6
  pub rects : t.rects ≤ most_size * t.layers

-- the PLAN line's k is from 2 to 6, and as many layers are counted
abbrev pub layers_right : ℤ → ℕ → Bool
layers_right k n = le_z (pos 2) k && (le_z k (pos 6) && eqb (nat_abs k) n)

-- 9 or 10, where the PLAN line says k
unfoldable pub tally_cause : ℤ → Tally → ℕ
tally_cause k t = unless t.formed 9 or_else unless (t.good && (eqb t.due 0 && layers_right k t.layers)) 10
