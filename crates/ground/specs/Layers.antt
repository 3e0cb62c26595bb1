-- A test of the squares that every layer covers, those of all rows' common ground (specs/Theorems.antt, `layers`); no public call's contract cites it.
use Rattle.std.specs.Prelude.{List, [], ◌∷◌, map, Bool, true, ◌&&◌, ℤ}
use Rattle.lists.specs.Lists.{numbers}
use Rattle.geometry.specs.declared.Rect.{Rect}
use Rattle.plan.specs.Plan.{Layer}
use Rattle.ground.specs.Union.{covered}

-- the rectangles of a layer
abbrev pub rects_in : Layer → List Rect
rects_in l = map l.rect (numbers l.size)

-- the square lies in at least one rectangle of each layer
abbrev pub every_covers : List Layer → ℤ → ℤ → Bool
every_covers [] x y = true
every_covers (l ∷ ls) x y = covered (rects_in l) x y && every_covers ls x y
