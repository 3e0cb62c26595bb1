-- `put_line` goes by the word of the line.
use mathlib.Core.Path.{refl, ap}
use mathlib.Core.List.{[], ◌∷◌}
use native.Mathlib.Omega.{arith}
use lib.ListN.{length}
use Rattle.line.specs.declared.Line.{Line}
use Rattle.text.specs.Plans.{cells_in}
use Rattle.reader.proofs.fill.put_line.Goals as goal

pub put_rect-requires : goal.put_rect-requires
put_rect-requires c = omega (arith, c.requires, ap (λ (l : Line). length (cells_in (l ∷ []))) c.in-Rectangle.is)

pub returns-in-Plan : goal.returns-in-Plan
returns-in-Plan c = rw c.in-Plan.is (record { place = omega arith; stored = refl })

pub returns-in-Layer : goal.returns-in-Layer
returns-in-Layer c = rw c.in-Layer.is (record { place = omega arith; stored = refl })

pub returns-in-Rectangle : goal.returns-in-Rectangle
returns-in-Rectangle c = rw c.in-Rectangle.is c.put_rect.ensures
