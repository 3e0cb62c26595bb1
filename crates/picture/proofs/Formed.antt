-- A picture is well-formed markup: each of its texts is, whatever stands in its holes.
use mathlib.Core.Path.{◌≡◌, refl, ap, ◌∙◌}
use mathlib.Core.List.{List, [], ◌∷◌, ◌++◌, map}
use mathlib.Core.Bool.{Bool, true, false, cond}
use mathlib.Core.Logic.{inl, inr}
use Prim.Native.Nat.{ℕ, zero, suc}
use native.Mathlib.Omega.{arith}
use lib.Dec.{eqb}
use lib.IntN.{ℤ, pos}
use lib.ListN.{length, get_or}
use Rattle.lists.specs.Lists.{All, none_left, ◌and◌, each}
use Rattle.geometry.specs.declared.Rect.{Rect}
use Rattle.geometry.specs.declared.Kind.{Kind}
use Rattle.geometry.specs.declared.Kind.TheVariants.{Ground, Edge, Point}
use Rattle.geometry.specs.Rectangles.{grown_by, letter_of}
use Rattle.decimal.specs.Numerals.{decimal}
use Rattle.plan.specs.Plan.{Layer}
use Rattle.join.specs.Join.{common_in, kind_in}
use Rattle.printing.specs.Lines.{ROW, fields_end, line_of, row_fields, row_line}
use Rattle.picture.specs.declared.Frame.{Frame}
use Rattle.picture.specs.Templates.{fill}
use Rattle.picture.specs.Texts.{head_text, open_text, title_text, outline_text, hatch_text, end_text, margin_text, close_text, legend_text}
use Rattle.picture.specs.Texts.{rows_text, row_text, ground_text, edge_text, point_text, tail_text}
use Rattle.picture.specs.Markup.{State, start, text, end, step, scan}
use Rattle.picture.specs.Pictures.{corners, outlined, shape_at, shapes_of, moved, sample, legend_place, legend_says, legend}
use Rattle.picture.specs.Pictures.{layer_part, layer_parts, mark, row_part, row_parts, seen, scale, picture_of}
use Rattle.picture.proofs.Plain.{Plain, text-plain, byte-plain, plain-append, decimal-plain}
use Rattle.picture.proofs.Markup.{scan-append, fill-scan}

-- the names of elements
abbrev g : List ℕ
g = 103 ∷ []

abbrev svg : List ℕ
svg = 115 ∷ 118 ∷ 103 ∷ []

abbrev name-title : List ℕ
name-title = 116 ∷ 105 ∷ 116 ∷ 108 ∷ 101 ∷ []

-- one part after the other
then-scan : (s t u : State) (a b : List ℕ) → scan s a ≡ t → scan t b ≡ u → scan s (a ++ b) ≡ u
then-scan s t u a b p q = scan-append s a b ∙ (ap (λ (y : State). scan y b) p ∙ q)

outline-scan : (o : List ℕ) (os : List (List ℕ)) (u j : ℕ) (r : Rect) → scan (text (o ∷ os)) (outlined u j r) ≡ text (o ∷ os)
unfolding outlined step outline_text hatch_text
outline-scan o os u j r =
    let here : State = text (o ∷ os) in
    then-scan _ _ _ (fill outline_text (corners r)) _ (fill-scan outline_text _ here here refl refl) (fill-scan hatch_text _ here here refl refl)

module _ (o : List ℕ) (os : List (List ℕ)) where
  abbrev here : State
  here = text (o ∷ os)

  -- after a rectangle's title
  abbrev in-shape : State
  in-shape = text (g ∷ o ∷ os)

  shape-open : (zs : List ℤ) → scan here (fill title_text zs) ≡ in-shape
  unfolding step title_text
  shape-open zs = fill-scan title_text zs here in-shape refl refl

  shape-close : (t : Bool) (zs : List ℤ) → scan in-shape (fill (cond t end_text margin_text) zs) ≡ here
  unfolding step end_text margin_text
  shape-close true zs = fill-scan end_text zs in-shape here refl refl
  shape-close false zs = fill-scan margin_text zs in-shape here refl refl

  shape-scan : (u j m p : ℕ) (r : Rect) → scan here (shape_at u j m p r) ≡ here
  unfolding shape_at
  shape-scan u j m p r =
      then-scan _ _ _ (fill title_text (pos j ∷ pos p ∷ [])) _ (shape-open (pos j ∷ pos p ∷ []))
      (then-scan _ _ _ (outlined u j r) _ (outline-scan g (o ∷ os) u j r) (shape-close (eqb m 0) (corners (grown_by m r))))

  each-scan : (f : ℕ → List ℕ) → ((p : ℕ) → scan here (f p) ≡ here) → (p n : ℕ) → scan here (each f p n) ≡ here
  each-scan f h p zero = refl
  each-scan f h p (suc n) = scan-append here (f p) (each f (suc p) n) ∙ (ap (λ (s : State). scan s (each f (suc p) n)) (h p) ∙ each-scan f h (suc p) n)

  -- after a row's title
  abbrev in-title : State
  in-title = text (name-title ∷ g ∷ o ∷ os)

  mark-scan : (u : ℕ) (kind : Kind) (r : Rect) → scan in-title (mark u kind r) ≡ here
  unfolding mark step ground_text edge_text point_text
  mark-scan u Ground r = fill-scan ground_text (corners r) in-title here refl refl
  mark-scan u Edge r = fill-scan edge_text (corners r) in-title here refl refl
  mark-scan u Point r = fill-scan point_text (r.left ∷ r.bottom ∷ pos u ∷ []) in-title here refl refl

  row_open : scan here row_text ≡ in-title
  unfolding step row_text
  row_open = refl

-- ---- a layer
layer-open : (o : List ℕ) (os : List (List ℕ)) (zs : List ℤ) → scan (text (o ∷ os)) (fill open_text zs) ≡ text (g ∷ g ∷ o ∷ os)
unfolding step open_text
layer-open o os zs = fill-scan open_text zs (text (o ∷ os)) (text (g ∷ g ∷ o ∷ os)) refl refl

legend-open : (o : List ℕ) (os : List (List ℕ)) (zs : List ℤ) → scan (text (g ∷ g ∷ o ∷ os)) (fill close_text zs) ≡ text (g ∷ g ∷ g ∷ o ∷ os)
unfolding step close_text
legend-open o os zs = fill-scan close_text zs (text (g ∷ g ∷ o ∷ os)) (text (g ∷ g ∷ g ∷ o ∷ os)) refl refl

legend-close : (o : List ℕ) (os : List (List ℕ)) (zs : List ℤ) → scan (text (g ∷ g ∷ g ∷ o ∷ os)) (fill legend_text zs) ≡ text (o ∷ os)
unfolding step legend_text
legend-close o os zs = fill-scan legend_text zs (text (g ∷ g ∷ g ∷ o ∷ os)) (text (o ∷ os)) refl refl

legend-scan : (o : List ℕ) (os : List (List ℕ)) (f : Frame) (j m n : ℕ) → scan (text (g ∷ g ∷ o ∷ os)) (legend f j m n) ≡ text (o ∷ os)
unfolding legend
legend-scan o os f j m n =
    then-scan _ _ _ (fill close_text (legend_place f j)) _ (legend-open o os (legend_place f j))
    (then-scan _ _ _ (outlined f.unit j (sample f.unit)) _ (outline-scan g (g ∷ g ∷ o ∷ os) f.unit j (sample f.unit))
    (legend-close o os (legend_says f j m n)))

layer-scan : (o : List ℕ) (os : List (List ℕ)) (f : Frame) (j m : ℕ) (l : Layer) → scan (text (o ∷ os)) (layer_part f j m l) ≡ text (o ∷ os)
unfolding layer_part
layer-scan o os f j m l =
    let u = f.unit in
    then-scan _ _ _ (fill open_text (pos j ∷ moved f)) _ (layer-open o os (pos j ∷ moved f))
    (then-scan _ _ _ (shapes_of u j m l) _ (each-scan g (g ∷ o ∷ os) (λ p. shape_at u j m p (l.rect p)) (λ p. shape-scan g (g ∷ o ∷ os) u j m p (l.rect p)) 0 l.size)
    (legend-scan o os f j m l.size))

layers-scan : (o : List ℕ) (os : List (List ℕ)) (f : Frame) (ms : List ℕ) (j : ℕ) (ls : List Layer) → scan (text (o ∷ os)) (layer_parts f ms j ls) ≡ text (o ∷ os)
layers-scan o os f ms j [] = refl
layers-scan o os f ms j (l ∷ ls) = then-scan _ _ _ (layer_part f (suc j) (get_or ms j 0) l) _ (layer-scan o os f (suc j) (get_or ms j 0) l) (layers-scan o os f ms (suc j) ls)

-- ---- a row
fields-plain : (fs : List (List ℕ)) → All (All Plain) fs → All Plain (fields_end fs)
fields-plain [] none_left = ◌and◌ (byte-plain 10 (inl (omega arith)) refl) none_left
fields-plain (f ∷ fs) (◌and◌ h hs) = ◌and◌ (byte-plain 9 (inl (omega arith)) refl) (plain-append f (fields_end fs) h (fields-plain fs hs))

letter-plain : (k : Kind) → All Plain (letter_of k ∷ [])
letter-plain Ground = ◌and◌ (byte-plain 71 (inr (omega arith)) refl) none_left
letter-plain Edge = ◌and◌ (byte-plain 69 (inr (omega arith)) refl) none_left
letter-plain Point = ◌and◌ (byte-plain 80 (inr (omega arith)) refl) none_left

places-plain : (ps : List ℕ) (fs : List (List ℕ)) → All (All Plain) fs → All (All Plain) (map decimal ps ++ fs)
places-plain [] fs h = h
places-plain (p ∷ ps) fs h = ◌and◌ (decimal-plain p) (places-plain ps fs h)

line_plain : (ls : List Layer) (row : List ℕ) → All Plain (row_line ls row)
unfolding line_of row_fields
line_plain ls row =
    let r = ◌and◌ (byte-plain 82 (inr (omega arith)) refl) (◌and◌ (byte-plain 79 (inr (omega arith)) refl) (◌and◌ (byte-plain 87 (inr (omega arith)) refl) none_left)) in
    plain-append ROW _ r
    (fields-plain _ (◌and◌ (decimal-plain _) (places-plain row _ (◌and◌ (decimal-plain _) (◌and◌ (letter-plain (kind_in ls row)) none_left)))))

row-scan : (o : List ℕ) (os : List (List ℕ)) (u : ℕ) (ls : List Layer) (row : List ℕ) → scan (text (o ∷ os)) (row_part u ls row) ≡ text (o ∷ os)
unfolding row_part
row-scan o os u ls row =
    then-scan _ _ _ row_text _ (row_open o os)
    (then-scan _ _ _ (row_line ls row) _ (text-plain _ (row_line ls row) (line_plain ls row)) (mark-scan o os u (kind_in ls row) (common_in ls row)))

rows-scan : (o : List ℕ) (os : List (List ℕ)) (u : ℕ) (ls : List Layer) (rows : List (List ℕ)) → scan (text (o ∷ os)) (row_parts u ls rows) ≡ text (o ∷ os)
rows-scan o os u ls [] = refl
rows-scan o os u ls (row ∷ rows) = then-scan _ _ _ (row_part u ls row) _ (row-scan o os u ls row) (rows-scan o os u ls rows)

-- ---- the whole
head-scan : (zs : List ℤ) → scan start (fill head_text zs) ≡ text (svg ∷ [])
unfolding step head_text
head-scan zs = fill-scan head_text zs start (text (svg ∷ [])) refl refl

top-scan : (zs : List ℤ) → scan (text (svg ∷ [])) (fill rows_text zs) ≡ text (g ∷ svg ∷ [])
unfolding step rows_text
top-scan zs = fill-scan rows_text zs (text (svg ∷ [])) (text (g ∷ svg ∷ [])) refl refl

tail-scan : (zs : List ℤ) → scan (text (g ∷ svg ∷ [])) (fill tail_text zs) ≡ end
unfolding step tail_text
tail-scan zs = fill-scan tail_text zs (text (g ∷ svg ∷ [])) end refl refl

pub formed : (f : Frame) (ms : List ℕ) (drawn whole : List Layer) (rows : List (List ℕ)) → scan start (picture_of f ms drawn whole rows) ≡ end
unfolding picture_of
formed f ms drawn whole rows =
    then-scan _ _ _ (fill head_text (seen f)) _ (head-scan (seen f))
    (then-scan _ _ _ (layer_parts f ms 0 drawn) _ (layers-scan svg [] f ms 0 drawn)
    (then-scan _ _ _ (fill rows_text (moved f)) _ (top-scan (moved f))
    (then-scan _ _ _ (row_parts f.unit whole rows) _ (rows-scan g (svg ∷ []) f.unit whole rows) (tail-scan (scale f (length rows))))))
