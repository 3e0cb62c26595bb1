-- `tell_pairs` lists the rows and their number, where the plan has the layer.
use native.Mathlib.Omega.{arith}
use Rattle.outcomes.proofs.Outcomes.{told_same}
use Rattle.asking_runs_code.proofs.PairsTold.{no-layer-told, all-listable, count_room, pairs-told}
use Rattle.pens.specs.Pens.{place, capacity, wrote}
use borrow.Author.Rules.{rules}
use Rattle.asking_runs_code.proofs.pairing.tell_pairs.Goals as goal

pub returns-then-shape-layer : goal.returns-then-shape-layer
returns-then-shape-layer c = search (rules, told_same, no-layer-told)

pub list_all-listed-requires : goal.list_all-listed-requires
list_all-listed-requires c =
    record {
      sound = search (rules, all-listable);
      listable = search (rules, all-listable);
    }

pub put_count-requires : goal.put_count-requires
unfolding place capacity
put_count-requires c = search (rules, count_room)

pub returns : goal.returns
unfolding wrote
returns c = rw c.done.ensures (pairs-told _ _ _ c.requires.1 _ _ c.requires.0 _ _ c.list_all-listed.ensures _ _ (omega arith) (search rules))
