-- Where no layer has a margin, the cells as drawn are those of the grown plan.
use mathlib.Core.Path.{◌≡◌, sym, subst, ◌∙◌}
use mathlib.Core.Bool.{Bool, true}
use mathlib.Core.List.{List}
use lib.IntN.{ℤ}
use Rattle.plan.specs.declared.Shape.{Shape}
use Rattle.plan.specs.Plan.{sizes_of, grown, all_fit, Sound}
use Rattle.plan.specs.Frames.{Framed}
use Rattle.plan.proofs.Growing.{framed, drawn-grown}
use Rattle.plan_code.specs.Copies.{GrownCells}

-- cells that are equal to those of the grown plan
pub as-grown : (s : Shape) (cells here : List ℤ) → Sound s cells → here ≡ grown s cells → GrownCells s cells here
as-grown s cells here h e = let f = framed s cells h in record { is = e; framed = (f.0, subst (Framed (sizes_of s)) (sym e) f.1) }

-- the answer of `is_drawn` is yes
pub drawn : (s : Shape) (cells : List ℤ) (t : Bool) → Sound s cells → t ≡ all_fit 0 6 0 s.margins → t ≡ true → GrownCells s cells cells
drawn s cells t h e y = as-grown s cells cells h (drawn-grown s cells h (sym e ∙ y))
