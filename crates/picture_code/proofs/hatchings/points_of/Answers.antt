-- `points_of`: the layer's hatching, by how far it goes beyond.
use mathlib.Core.Path.{ap₂, ◌∙◌}
use mathlib.Core.List.{List}
use Prim.Native.Nat.{ℕ}
use Rattle.picture.specs.Hatchings.{points}
use Rattle.picture_code.proofs.hatchings.points_of.Goals as goal

pub returns : goal.returns
returns c = c.points_in.ensures ∙ ap₂ (λ (e : ℕ) (l : List ℕ). points e c.args.r l) c.beyond_of.ensures c.hatching_of-h.ensures
