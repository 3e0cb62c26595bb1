-- Proofs of specs/Theorems.antt.
use mathlib.Core.Path.{◌≡◌, refl, ap, subst}
use mathlib.Core.List.{List, ◌++◌, flat_map}
use mathlib.Core.Logic.{◌⊎◌, inl, inr}
use Prim.Native.Nat.{ℕ, zero, suc, ◌*◌, ◌<◌, ◌≤◌}
use native.Mathlib.Omega.{arith}
use lib.Signed.{◌≤ℤ◌}
use borrow.Author.Tests.{ne_eqb}
use Rattle.lists.specs.Lists.{upto, each}
use Rattle.geometry.specs.declared.Rect.{Rect}
use Rattle.geometry.specs.declared.Kind.TheVariants.{Ground, Edge}
use Rattle.geometry.specs.Rectangles.{grown_by}
use Rattle.geometry.proofs.Integers.{zarith}
use Rattle.geometry.proofs.Rectangles.{max-law, min-law}
use Rattle.lists.proofs.Tests.{total}
use Rattle.decimal.specs.Numerals.{numeral}
use Rattle.plan.specs.Plan.{Layer, rect_at, count}
use Rattle.join.specs.Join.{common_in, kind_in}
use Rattle.outcomes.specs.Texts.{ascii}
use Rattle.printing.specs.Lines.{row_line}
use Rattle.picture.specs.Templates.{piece, later}
use Rattle.picture.specs.Texts.{title_text, outline_text, hatch_text, end_text, margin_text, row_text, ground_text, edge_text}
use Rattle.picture.specs.Frames.{around, hull, frame_of}
use Rattle.picture.specs.Pictures.{outlined, shape_at, mark, row_part}
use Rattle.picture.specs.Hatchings.{hatching_of, beyond, points}
use Rattle.picture.specs.Theorems.{PicturesHold, path_then, line_then, title_of}
use Rattle.picture.proofs.Formed.{formed}
use Rattle.picture.proofs.Hatchings.{stroke-within, spread_none, spot_is, pen-few}
use Rattle.picture.proofs.Whole.{said_of, layer_is, point_at, whole_is, view-is, longer-first, sides-are}

-- ---- each once, in its order
each-flat : (f : ℕ → List ℕ) (p n : ℕ) → each f p n ≡ flat_map f (upto (λ q. q) p n)
unfolding flat_map
each-flat f p zero = refl
each-flat f p (suc n) = ap (λ (l : List ℕ). f p ++ l) (each-flat f (suc p) n)

-- ---- where they lie
drawn-at : (u j p : ℕ) (r : Rect) → shape_at u j 0 p r ≡ title_of j p ++ (outlined u j r ++ ascii "</g>\n")
unfolding shape_at title_text end_text piece later numeral
drawn-at u j p r = refl

grown-at : (u j m p : ℕ) (r : Rect) → 0 < m
    → shape_at u j m p r ≡ title_of j p ++ (outlined u j r ++ (ascii "<path class='m' d='" ++ path_then (grown_by m r) (ascii "'/></g>\n")))
unfolding shape_at title_text margin_text piece later numeral
grown-at u j m p r h = rw (ne_eqb m 0 (λ e. omega arith)) refl

outline-at : (u j : ℕ) (r : Rect) → outlined u j r
    ≡ (ascii "<path d='" ++ path_then r (ascii "'/>")) ++ (ascii "<path class='h' d='" ++ line_then (points (beyond u r) r (hatching_of j)) (ascii "'/>"))
unfolding outlined outline_text hatch_text piece later
outline-at u j r = refl

titled-at : (u : ℕ) (ls : List Layer) (row : List ℕ) → row_part u ls row ≡ ascii "<g><title>" ++ (row_line ls row ++ mark u (kind_in ls row) (common_in ls row))
unfolding row_part row_text
titled-at u ls row = refl

ground-at : (u : ℕ) (r : Rect) → mark u Ground r ≡ ascii "</title><path class='g' d='" ++ path_then r (ascii "'/></g>\n")
unfolding mark ground_text piece later
ground-at u r = refl

edge_at : (u : ℕ) (r : Rect) → mark u Edge r ≡ ascii "</title><path class='e' d='" ++ path_then r (ascii "'/></g>\n")
unfolding mark edge_text piece later
edge_at u r = refl

-- ---- what is seen
abbrev Around : Rect → Rect → Type 0
Around a r = (a.left ≤ℤ r.left) × (a.bottom ≤ℤ r.bottom) × (r.right ≤ℤ a.right) × (r.top ≤ℤ a.top)

around-first : (a b r : Rect) → Around a r → Around (around a b) r
unfolding around
around-first a b r h = (
  omega (zarith, h.0, min-law a.left b.left),
  omega (zarith, h.1, min-law a.bottom b.bottom),
  omega (zarith, h.2, max-law a.right b.right),
  omega (zarith, h.3, max-law a.top b.top),
)

around-second : (a b : Rect) → Around (around a b) b
unfolding around
around-second a b = (
  omega (zarith, min-law a.left b.left),
  omega (zarith, min-law a.bottom b.bottom),
  omega (zarith, max-law a.right b.right),
  omega (zarith, max-law a.top b.top),
)

hull-around : (rect : ℕ → Rect) (n i : ℕ) → i < n → Around (hull rect n) (rect i)
hull-around rect zero i h = absurd (omega arith)
hull-around rect (suc n) i h = go (total (suc i) n) (hull-around rect n i)
  where
    go : (suc i ≤ n) ⊎ (n < suc i) → (i < n → Around (hull rect n) (rect i)) → Around (hull rect (suc n)) (rect i)
    go (inl k) f = around-first (hull rect n) (rect n) (rect i) (f k)
    go (inr k) f = let e : n ≡ i = omega arith in subst (λ (m : ℕ). Around (hull rect (suc n)) (rect m)) e (around-second (hull rect n) (rect n))

unit-some : (r : Rect) → 0 < (frame_of r).unit
unfolding frame_of
unit-some r = omega arith

pub pictures : PicturesHold
pictures =
    record {
      said = said_of;
      whole = whole_is;
      layer = layer_is;
      formed = formed;
      shapes = λ u j m l. each-flat (λ p. shape_at u j m p (l.rect p)) 0 l.size;
      drawn = drawn-at;
      grown = grown-at;
      outline = outline-at;
      strokes = stroke-within;
      spread = spread_none;
      spot = spot_is;
      titled = titled-at;
      ground = ground-at;
      edge = edge_at;
      point = point_at;
      view = view-is;
      pens = pen-few;
      enough = λ f. longer-first f.height (30 * f.unit);
      sides = sides-are;
      inside = λ cells i h. hull-around (rect_at cells) (count cells) i h;
      unit = unit-some;
    }
