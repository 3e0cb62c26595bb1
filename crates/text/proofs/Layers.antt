-- Laws of layers that are written one behind the other.
use mathlib.Core.Path.{◌≡◌, sym, ap, ap₂, ◌∙◌, subst}
use mathlib.Core.List.{List, ◌∷◌, ◌++◌}
use Prim.Native.Nat.{ℕ, ◌+◌, ◌*◌, ◌≤◌, ◌<◌}
use native.Mathlib.Omega.{arith}
use lib.IntN.{ℤ, pos}
use lib.ListN.{length, get_or, take, drop, length-drop, drop_of_length-le}
use lib.Seq.{drop-drop, length-take-le}
use Rattle.lists.specs.Lists.{sum}
use Rattle.pens.specs.declared.Pen.{Pen}
use Rattle.pens.specs.Pens.{RoomFor, wrote}
use Rattle.pens.proofs.Pens.{Due, due-all, due-none}
use Rattle.decimal.proofs.Places.{at_byte}
use Rattle.line.specs.declared.Line.{Line}
use Rattle.line.specs.declared.Line.TheVariants.{Layer}
use Rattle.text.specs.Spelling.{spell}
use Rattle.text.specs.Plans.{rect_lines, layer_lines}
use Rattle.text.proofs.Spelling.{lines-room, lines-then}

-- the layers from j on, whose cells begin after `begin` rectangles, are left to be written
pub record Layers (first : Pen) (ns ms : List ℕ) (cells : List ℤ) (pen : Pen) (begin j : ℕ) : Type 0 where
  pub within : j ≤ length ns
  pub beside : length ms ≡ length ns
  pub whole : 4 * begin + 4 * sum (drop j ns) ≡ length cells
  pub left : Due first (spell (layer_lines ns ms cells)) pen (spell (layer_lines (drop j ns) (drop j ms) (drop (4 * begin) cells)))

pub layers-start : (pen : Pen) (ns ms : List ℕ) (cells : List ℤ) → length ms ≡ length ns → length cells ≡ 4 * sum ns → RoomFor pen (spell (layer_lines ns ms cells)) → Layers pen ns ms cells pen 0 0
layers-start pen ns ms cells b e h = record { within = omega arith; beside = b; whole = omega arith; left = due-all pen (spell (layer_lines ns ms cells)) h }

pub layers-end : (first : Pen) (ns ms : List ℕ) (cells : List ℤ) (pen : Pen) (begin j : ℕ) → length ns ≤ j → Layers first ns ms cells pen begin j → pen ≡ wrote first (spell (layer_lines ns ms cells))
layers-end first ns ms cells pen begin j h l =
    due-none first (spell (layer_lines ns ms cells)) pen
    (subst (λ (ks : List ℕ). Due first (spell (layer_lines ns ms cells)) pen (spell (layer_lines ks (drop j ms) (drop (4 * begin) cells)))) (drop_of_length-le ns h) l.left)

-- the next layer, of n rectangles in these cells and with the margin m
module _ (first : Pen) (ns ms : List ℕ) (cells : List ℤ) (pen : Pen) (begin j : ℕ) (l : Layers first ns ms cells pen begin j) (h : j < length ns) (n : ℕ) (e : n ≡ get_or ns j 0) (m : ℕ) (f : m ≡ get_or ms j 0) where
  abbrev part : List ℤ
  part = take (4 * n) (drop (4 * begin) cells)

  -- its lines, and those of the layers behind it
  abbrev these : List Line
  these = Layer (pos n) (pos m) ∷ rect_lines part

  abbrev others : List Line
  others = layer_lines (drop (j + 1) ns) (drop (j + 1) ms) (drop (4 * (begin + n)) cells)

  sizes : drop j ns ≡ n ∷ drop (j + 1) ns
  sizes = at_byte ns j h ∙ ap (λ (i : ℕ). i ∷ drop (j + 1) ns) (sym e)

  margins : drop j ms ≡ m ∷ drop (j + 1) ms
  margins = at_byte ms j (omega (arith, l.beside)) ∙ ap (λ (i : ℕ). i ∷ drop (j + 1) ms) (sym f)

  rest : layer_lines (drop j ns) (drop j ms) (drop (4 * begin) cells) ≡ these ++ others
  rest =
      let q : 4 * begin + 4 * n ≡ 4 * (begin + n) = omega arith in
      ap₂ (λ (ks is : List ℕ). layer_lines ks is (drop (4 * begin) cells)) sizes margins
      ∙ ap (λ (cs : List ℤ). these ++ layer_lines (drop (j + 1) ns) (drop (j + 1) ms) cs) (drop-drop (4 * n) (4 * begin) cells ∙ ap (λ (i : ℕ). drop i cells) q)

  left : Due first (spell (layer_lines ns ms cells)) pen (spell (these ++ others))
  left = subst (λ (ls : List Line). Due first (spell (layer_lines ns ms cells)) pen (spell ls)) rest l.left

  pub layers-inside : 4 * begin + 4 * n ≤ length cells
  layers-inside = omega (arith, l.whole, ap sum sizes)

  -- the cells p are those of this layer
  module _ (p : List ℤ) (q : p ≡ part) where
    pub layers-room : (length p ≡ 4 * n) × RoomFor pen (spell (Layer (pos n) (pos m) ∷ rect_lines p))
    layers-room =
        let w = length-take-le (4 * n) (drop (4 * begin) cells) (omega (arith, layers-inside, length-drop (4 * begin) cells)) in
        rw q (w, lines-room first (spell (layer_lines ns ms cells)) pen these others left)

    pub layers-more : (r : Pen) → r ≡ wrote pen (spell (Layer (pos n) (pos m) ∷ rect_lines p)) → Layers first ns ms cells r (begin + n) (j + 1)
    layers-more r w =
        record {
          within = omega arith;
          beside = l.beside;
          whole = omega (arith, l.whole, ap sum sizes);
          left = lines-then first (spell (layer_lines ns ms cells)) pen these others left r (rw q at w);
        }
