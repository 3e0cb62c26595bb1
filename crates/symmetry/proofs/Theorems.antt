-- The laws of layers in any order hold.
use mathlib.Core.Path.{sym, ap, ◌∙◌}
use Rattle.geometry.specs.Rectangles.{common}
use Rattle.geometry.proofs.Rectangles.{common-comm, common-assoc, common-same}
use Rattle.plan.specs.Plan.{Layer}
use Rattle.symmetry.specs.Plans.{exchanging}
use Rattle.symmetry.specs.Theorems.{TakingGround, LayersInAnyOrder}
use Rattle.symmetry.proofs.Sheets.{drawn-of}
use Rattle.symmetry.proofs.Exchanges.{exchange-is}
use Rattle.symmetry.proofs.Arrangements.{column-at, arrange-holds}
use Rattle.symmetry.proofs.Cutting.{cut_holds}
use Rattle.symmetry.proofs.Runs.{runs-rearranged, runs_cut, runs-too}
use Rattle.symmetry.proofs.Counted.{counted-here, counted-else}

taking-ground : TakingGround
taking-ground = record { commutative = common-comm; associative = common-assoc; same = common-same; again = λ a b. common-assoc a b b ∙ ap (common a) (common-same b) }

pub layers-in-any-order : LayersInAnyOrder
layers-in-any-order = record {
  arrange = arrange-holds;
  columns = column-at;
  exchange = λ i j p a hi hj.
      let e = exchange-is p.shape.k i j hi hj in
      (e, arrange-holds (exchanging p.shape.k i j) p a e.arrangement);
  cut = λ j m n p a hj e. cut_holds j m n p a hj (sym (ap (λ (l : Layer). l.size) (drawn-of p.shape p.cells a j hj)) ∙ e);
  counted = λ j m row. (counted-here j m row, counted-else j m row);
  ground = taking-ground;
  runs = runs-rearranged;
  runs_cut = runs_cut;
  fits = runs-too;
}
