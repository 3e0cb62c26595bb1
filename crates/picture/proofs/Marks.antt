-- Laws of the rows, drawn: what a row's ground tells, and row after row.
use mathlib.Core.Path.{◌≡◌, refl, ap, sym, ◌∙◌}
use mathlib.Core.List.{List, [], ◌∷◌, ◌++◌}
use Prim.Native.Nat.{ℕ, ◌+◌, ◌≤◌}
use lib.IntN.{ℤ, pos}
use lib.ListN.{length}
use Rattle.std.specs.Prelude.{Option, Some}
use Rattle.geometry.specs.declared.Rect.{Rect}
use Rattle.geometry.specs.declared.Kind.{Kind}
use Rattle.geometry.specs.declared.Kind.TheVariants.{Ground, Edge, Point}
use Rattle.plan.specs.Plan.{Layer}
use Rattle.join.specs.Join.{common_in, kind_in}
use Rattle.rows.specs.declared.Ground as G
use Rattle.rows.specs.inner.Grounds.{ground_of}
use Rattle.rows.proofs.Answers.{ground-some}
use Rattle.listing.specs.inner.Parts.{each_row}
use Rattle.picture.specs.Templates.{fill}
use Rattle.picture.specs.Texts.{ground_text, edge_text, point_text, row_text}
use Rattle.picture.specs.Pictures.{corners, mark, row_part, row_parts}

-- ---- a row's mark, by its kind
module _ (u : ℕ) (kind : Kind) (r : Rect) (text : List ℕ) (zs : List ℤ) where
  pub mark-ground : kind ≡ Ground → text ≡ ground_text → zs ≡ corners r → mark u kind r ≡ fill text zs
  unfolding mark
  mark-ground e f g = rw (e, f, g)

  pub mark-edge : kind ≡ Edge → text ≡ edge_text → zs ≡ corners r → mark u kind r ≡ fill text zs
  unfolding mark
  mark-edge e f g = rw (e, f, g)

  pub mark-point : kind ≡ Point → text ≡ point_text → zs ≡ r.left ∷ r.bottom ∷ pos u ∷ [] → mark u kind r ≡ fill text zs
  unfolding mark
  mark-point e f g = rw (e, f, g)

-- what its ground tells
pub mark-told : (u : ℕ) (ls : List Layer) (row : List ℕ) (s : Option G.Ground) (g : G.Ground) → s ≡ ground_of ls row → s ≡ Some g
    → mark u (kind_in ls row) (common_in ls row) ≡ mark u g.kind g.common
unfolding kind_in
mark-told u ls row s g e f = let q = (ground-some ls row g (sym f ∙ e)).1 in rw q

-- ---- rows are drawn row by row
pub parts_each : (u : ℕ) (ls : List Layer) (rows : List (List ℕ)) → each_row (row_part u ls) rows ≡ row_parts u ls rows
parts_each u ls [] = refl
parts_each u ls (row ∷ rows) = ap (λ (l : List ℕ). row_part u ls row ++ l) (parts_each u ls rows)
