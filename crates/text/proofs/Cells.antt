-- Laws of the reader's second pass: the cells that are left to be filled give the whole.
use mathlib.Core.Path.{◌≡◌, refl, ap, ◌∙◌, subst}
use mathlib.Core.List.{List, [], ◌∷◌, ◌++◌}
use mathlib.Core.Option.{Option, none, some}
use mathlib.Core.Bool.{true}
use Prim.Native.Nat.{ℕ, ◌+◌, ◌≤◌, ◌<◌}
use native.Mathlib.Omega.{arith}
use lib.IntN.{ℤ}
use lib.ListN.{length, drop, length-drop, drop_of_length-le}
use Rattle.lists.proofs.Tests.{clash}
use Rattle.lists.specs.inner.Stores.{Put}
use Rattle.lists.proofs.Stores.{Left, left-all, left-put, left-none, left-room}
use Rattle.line.specs.declared.Line.{Line}
use Rattle.line.specs.declared.Line.TheVariants.{Plan, Layer, Rectangle}
use Rattle.line.specs.Parsing.{next, line}
use Rattle.text.specs.Parsing.{all_lines}
use Rattle.text.specs.Plans.{cells_in}
use Rattle.line.specs.Places.{Line-at}
use Rattle.text.specs.inner.Filling.{rest_cells, LinesFit}
use Rattle.text.proofs.Parsing.{first_then, first-none}
use Rattle.lists.specs.Lists.{is_some, list_in}

-- the cells of a line, and of those behind it
cells-first : (l : Line) (ls : List Line) → cells_in (l ∷ ls) ≡ cells_in (l ∷ []) ++ cells_in ls
cells-first (Plan k) ls = refl
cells-first (Layer n m) ls = refl
cells-first (Rectangle r) ls = refl

pub record Filling (s : List ℕ) (start : ℕ) (first cells : List ℤ) (at i : ℕ) : Type 0 where
  pub inside : at ≤ length s
  pub formed : is_some (all_lines (drop at s)) ≡ true
  pub left : Left first 0 (rest_cells (drop start s)) cells i (rest_cells (drop at s))

pub filling-start : (s : List ℕ) (start : ℕ) (cells : List ℤ) → LinesFit s start (length cells) → Filling s start cells cells start 0
filling-start s start cells r = record { inside = r.inside; formed = r.formed; left = left-all cells 0 (rest_cells (drop start s)) }

module _ (s : List ℕ) (start : ℕ) (first cells : List ℤ) (at i : ℕ) (f : Filling s start first cells at i) where
  pub filling-bad : {X : Type 0} → at < length s → line (drop at s) ≡ none → X
  filling-bad h e =
      clash f.formed (ap is_some (first-none (drop at s) (simp length-drop (omega arith)) e))

  pub filling-end : length s ≤ at → Put first 0 (rest_cells (drop start s)) cells i
  unfolding rest_cells
  filling-end h =
      left-none first 0 (rest_cells (drop start s)) cells i
      (subst (λ (r : List ℤ). Left first 0 (rest_cells (drop start s)) cells i r) (ap rest_cells (drop_of_length-le s h)) f.left)

  module _ (l : Line) (j : ℕ) (p : Line-at s at l j) where
    -- the lines behind l
    record Rest : Type 0 where
      formed : is_some (all_lines (drop j s)) ≡ true
      split : rest_cells (drop at s) ≡ cells_in (l ∷ []) ++ rest_cells (drop j s)

    rest : Rest
    unfolding rest_cells
    rest = go (all_lines (drop j s)) refl
      where
        e : all_lines (drop at s) ≡ next (all_lines (drop j s)) (λ ls. some (l ∷ ls))
        e = first_then (drop at s) (l, drop j s) p.reads

        go : (o : Option (List Line)) → all_lines (drop j s) ≡ o → Rest
        go none q = let w : all_lines (drop at s) ≡ none = e ∙ rw q in clash f.formed (ap is_some w)
        go (some ls) q =
            let w : all_lines (drop at s) ≡ some (l ∷ ls) = e ∙ rw q in
            record { formed = ap is_some q; split = ap (λ (o : Option (List Line)). cells_in (list_in o)) w ∙ (cells-first l ls ∙ rw q) }

    pub filling-room : length (rest_cells (drop start s)) ≤ length first → i + length (cells_in (l ∷ [])) ≤ length cells
    filling-room h =
        left-room first 0 (rest_cells (drop start s)) cells i (cells_in (l ∷ [])) (rest_cells (drop j s)) (omega arith)
        (subst (λ (r : List ℤ). Left first 0 (rest_cells (drop start s)) cells i r) rest.split f.left)

    pub filling-more : (last : List ℤ) (r : ℕ) → Put cells i (cells_in (l ∷ [])) last r → Filling s start first last j r
    filling-more last r q =
        record {
          inside = p.inside;
          formed = rest.formed;
          left =
              left-put first 0 (rest_cells (drop start s)) cells i (cells_in (l ∷ [])) (rest_cells (drop j s)) last r q
              (subst (λ (r : List ℤ). Left first 0 (rest_cells (drop start s)) cells i r) rest.split f.left);
        }
