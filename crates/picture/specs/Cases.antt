-- Theorem: a small plan, and all bytes of its picture: a layer with a margin, a point, a line, and one row, which is a point; and the hatchings of the layers
-- that it has not. Proved in proofs/Cases.antt.
use Rattle.std.specs.Prelude.{◌≡◌, List, [], ◌∷◌, ◌++◌, ℕ, ℤ, pos}
use Rattle.geometry.specs.declared.Rect.{Rect}
use Rattle.plan.specs.declared.Shape.{Shape}
use Rattle.outcomes.specs.Texts.{ascii}
use Rattle.picture.specs.Pictures.{outlined, picture}

-- two layers of two rectangles each, the first with a margin of 100
abbrev pub small_shape : Shape
small_shape = record { k = 2; sizes = 2 ∷ 2 ∷ 0 ∷ 0 ∷ 0 ∷ 0 ∷ []; margins = 100 ∷ 0 ∷ 0 ∷ 0 ∷ 0 ∷ 0 ∷ [] }

-- a square and a point; a rectangle at the corner of the grown square, and a line
abbrev pub small_cells : List ℤ
small_cells =
    pos 0 ∷ pos 0 ∷ pos 1000 ∷ pos 1000 ∷ pos 1500 ∷ pos 2000 ∷ pos 1500 ∷ pos 2000
    ∷ pos 1100 ∷ pos 1100 ∷ pos 2000 ∷ pos 1500 ∷ pos 2000 ∷ pos 0 ∷ pos 2000 ∷ pos 3000 ∷ []

-- what is drawn of it
abbrev pub small_picture : List ℕ
small_picture = ascii "<svg xmlns='http://www.w3.org/2000/svg' viewBox='-135 -135 3855 3370'>\n<style>\n"
    ++ ascii "path{stroke-width:8.1px;stroke-linecap:round;stroke-linejoin:round;fill-opacity:.1}\n"
    ++ ascii "text{font-family:sans-serif;font-size:2px;fill:#000;stroke:none}\n.l1{stroke:#0072b2;fill:#0072b2}\n"
    ++ ascii ".l2{stroke:#d55e00;fill:#d55e00}\n.l3{stroke:#009e73;fill:#009e73}\n.l4{stroke:#cc79a7;fill:#cc79a7}\n"
    ++ ascii ".l5{stroke:#56b4e9;fill:#56b4e9}\n.l6{stroke:#e69f00;fill:#e69f00}\n.h{stroke-width:5.4px;fill:none}\n"
    ++ ascii ".m{fill:none;stroke-dasharray:21.6 16.2}\n.g{stroke:#000;fill:#000;fill-opacity:.5}\n.e{stroke:#000;stroke-width:16.2px;fill:none}\n"
    ++ ascii ".p{stroke:#000;stroke-width:.6px;fill:none}\n.k{stroke-width:.3px}\n</style>\n<rect x='-135' y='-135' width='3855' height='3370' fill='#fff'/>\n"
    ++ ascii "<g class='l1'><g transform='scale(1 -1) translate(100 -3000)'>\n"
    ++ ascii "<g><title>layer 1, place 0</title><path d='M0 0H1000V1000H0Z'/>"
    ++ ascii "<path class='h' d='M0 250L1000 250 1000 500 0 500 0 750 1000 750'/><path class='m' d='M-100 -100H1100V1100H-100Z'/></g>\n"
    ++ ascii "<g><title>layer 1, place 1</title><path d='M1500 2000H1500V2000H1500Z'/>"
    ++ ascii "<path class='h' d='M1473 1986L1527 1986 1527 2000 1473 2000 1473 2013 1527 2013'/><path class='m' d='M1400 1900H1600V2100H1400Z'/></g>\n"
    ++ ascii "</g><g transform='translate(2235 135)'><g transform='scale(1 -1)'><path d='M0 0H108V54H0Z'/>"
    ++ ascii "<path class='h' d='M0 13L108 13 108 27 0 27 0 40 108 40'/></g><g transform='scale(27)'><text x='5' y='-.3'>"
    ++ ascii "layer 1, rectangles: 2, margin: 100 mm</text></g></g></g>\n<g class='l2'><g transform='scale(1 -1) translate(100 -3000)'>\n"
    ++ ascii "<g><title>layer 2, place 0</title><path d='M1100 1100H2000V1500H1100Z'/>"
    ++ ascii "<path class='h' d='M1325 1100L1325 1500 1550 1500 1550 1100 1775 1100 1775 1500'/></g>\n"
    ++ ascii "<g><title>layer 2, place 1</title><path d='M2000 0H2000V3000H2000Z'/>"
    ++ ascii "<path class='h' d='M2000 0L2000 3000 2000 3000 2000 0 2000 0 2000 3000'/></g>\n"
    ++ ascii "</g><g transform='translate(2235 216)'><g transform='scale(1 -1)'><path d='M0 0H108V54H0Z'/>"
    ++ ascii "<path class='h' d='M27 0L27 54 54 54 54 0 81 0 81 54'/></g><g transform='scale(27)'><text x='5' y='-.3'>"
    ++ ascii "layer 2, rectangles: 2, margin: 0 mm</text></g></g></g>\n<g transform='scale(1 -1) translate(100 -3000)'>\n"
    ++ ascii "<g><title>ROW\t2\t0\t0\t0\tP\n</title><path class='p' transform='translate(1100 1100) scale(27)' d='M-1 -1L1 1M-1 1L1 -1'/></g>\n"
    ++ ascii "</g><g transform='translate(2235 0) scale(27)'><path class='g k' d='M0 -3h4v2H0Z'/><text x='5' y='-1.3'>all layers meet: 1</text>"
    ++ ascii "<path class='p' d='M0 1h4'/><text x='5' y='1.7'>all meet in a line</text><path class='p' d='M27 0l2 2m0 -2l-2 2'/><text x='30' y='1.7'>"
    ++ ascii "all meet in a point</text></g>\n"
    ++ ascii "<g transform='translate(2235 648)'><path class='e' d='M0 0h1000'/><g transform='scale(27)'><text y='3'>1.000 m</text></g></g>\n"
    ++ ascii "</svg>\n"

-- a square of four millimetres
abbrev pub square : Rect
square = record { left = pos 0; bottom = pos 0; right = pos 4; top = pos 4 }

-- its outline, and a hatching in it
abbrev pub hatched : List ℕ → List ℕ
hatched strokes = ascii "<path d='M0 0H4V4H0Z'/><path class='h' d='" ++ (strokes ++ ascii "'/>")

pub record Cases : Type 0 where
  pub small : picture small_shape small_cells ≡ small_picture
  -- layer 1 three level strokes, 2 three upright ones, 3 three that rise, 4 three that fall, 5 both diagonals, 6 one of each through the middle
  pub first : outlined 1 1 square ≡ hatched (ascii "M0 1L4 1 4 2 0 2 0 3 4 3")
  pub second : outlined 1 2 square ≡ hatched (ascii "M1 0L1 4 2 4 2 0 3 0 3 4")
  pub third : outlined 1 3 square ≡ hatched (ascii "M0 2L2 4 4 4 0 0 2 0 4 2")
  pub fourth : outlined 1 4 square ≡ hatched (ascii "M0 2L2 0 4 0 0 4 2 4 4 2")
  pub fifth : outlined 1 5 square ≡ hatched (ascii "M0 0L4 4 4 0 0 4 0 2 0 0")
  pub sixth : outlined 1 6 square ≡ hatched (ascii "M2 0L2 4 4 4 4 2 0 2 0 0")
