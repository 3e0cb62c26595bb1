-- Laws of the loop that counts the LAYER lines of a well formed text.
use mathlib.Core.Path.{◌≡◌, sym, ap, ◌∙◌}
use mathlib.Core.List.{List, [], ◌∷◌}
use mathlib.Core.Option.{some, none, some-injective, none-ne-some}
use Prim.Native.Nat.{ℕ, ◌+◌, ◌≤◌, ◌<◌}
use native.Mathlib.Omega.{arith}
use lib.ListN.{length, drop, length-drop, drop_of_length-le}
use Rattle.lists.specs.Lists.{list_in}
use Rattle.line.specs.declared.Line.{Line}
use Rattle.line.specs.declared.Line.TheVariants.{Plan, Layer, Rectangle}
use Rattle.line.specs.Parsing.{line}
use Rattle.line.specs.Places.{Line-at}
use Rattle.line.proofs.Lines.{next-some}
use Rattle.text.specs.Parsing.{all_lines}
use Rattle.text.proofs.Parsing.{first_then, first-none}
use Rattle.checking.specs.Faults.{one_if_layer, layer_lines}
use Rattle.checking.specs.inner.Notes.{LinesFrom}
use Rattle.checking.proofs.Noting.{some-list}

layer-few : (l : Line) → one_if_layer l ≤ 1
layer-few (Plan k) = omega arith
layer-few (Layer n m) = omega arith
layer-few (Rectangle r) = omega arith

-- the loop: what was counted, and the LAYER lines from a place on, make all
pub record Layering (s : List ℕ) (from at count : ℕ) : Type 0 where
  pub lines : List Line
  pub reads : all_lines (drop at s) ≡ some lines
  pub gives : count + layer_lines lines ≡ layer_lines (list_in (all_lines (drop from s)))
  pub inside : at ≤ length s
  pub short : length s ≤ 65536
  pub few : count ≤ at

pub layering-start : (s : List ℕ) (from : ℕ) → LinesFrom s from → Layering s from from 0
layering-start s from l =
    record { lines = list_in (all_lines (drop from s)); reads = some-list (all_lines (drop from s)) l.formed; gives = omega arith; inside = l.inside; short = l.short; few = omega arith }

module _ (s : List ℕ) (from at count : ℕ) (n : Layering s from at count) where
  -- a line is there
  pub layering-none : {X : Type 0} → at < length s → line (drop at s) ≡ none → X
  layering-none h e = absurd (none-ne-some n.lines (sym (first-none (drop at s) (simp length-drop (omega arith)) e) ∙ n.reads))

  -- the end
  pub layering-end : length s ≤ at → count ≡ layer_lines (list_in (all_lines (drop from s)))
  layering-end h =
      let e : [] ≡ n.lines = some-injective [] n.lines (sym (ap all_lines (drop_of_length-le s {i = at} h)) ∙ n.reads) in
      omega (arith, ap layer_lines e, n.gives)

  -- one line more
  pub layering-more : (l : Line) (i m : ℕ) → Line-at s at l i → m ≡ one_if_layer l → Layering s from i (count + m)
  layering-more l i m f e =
      let q = next-some (all_lines (drop i s)) _ n.lines (sym (first_then (drop at s) (l, drop i s) f.reads) ∙ n.reads) in
      let w : l ∷ q.0 ≡ n.lines = some-injective (l ∷ q.0) n.lines q.2 in
      record {
        lines = q.0;
        reads = q.1;
        gives = omega (arith, e, ap layer_lines w, n.gives);
        inside = f.inside;
        short = n.short;
        few = omega (arith, e, layer-few l, n.few, f.after);
      }

  -- what is counted stays small
  pub layering-small : (l : Line) (m : ℕ) → m ≡ one_if_layer l → count + m ≤ 65537
  layering-small l m e = omega (arith, e, layer-few l, n.few, n.inside, n.short)
