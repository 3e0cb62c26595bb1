-- `tell_nearest` puts the lines of what the call answers, or its refusal.
use Rattle.std.proofs.Common.{refl, ap}
use Rattle.plan.proofs.Causes.{number-above}
use Rattle.nearest.specs.Nearest.{nearest_values}
use borrow.Author.Rules.{rules}
use Rattle.pens.specs.Pens.{place, capacity, wrote}
use Rattle.outcomes.proofs.Outcomes.{told_same}
use Rattle.asking_code.proofs.Answers.{near-refused, near-told, nears-room, six-layers, measured}
use Rattle.asking_code.proofs.near.tell_nearest.Goals as goal

pub returns-in-Err : goal.returns-in-Err
returns-in-Err c = told_same _ _ _ _ _ _ _ c.put_refusal.ensures (near-refused _ _ _ _ (ap nearest_values c.in-Err.ensures) (number-above _))

pub put_nears-requires : goal.put_nears-requires
unfolding place capacity
put_nears-requires c =
    let e = ap nearest_values c.in-Ok.ensures in
    record {
      k_bound = (six-layers _ _ _ _ e refl c.requires.1, measured _ _ _ _ e refl c.requires.1);
      room = nears-room _ _ _ _ e refl c.requires.1 _ _ c.requires.0;
    }

pub returns-in-Ok : goal.returns-in-Ok
unfolding wrote
returns-in-Ok c = rw c.done.ensures (near-told _ _ _ _ (ap nearest_values c.in-Ok.ensures) refl c.requires.1 _ _ _ _ c.requires.0 (search rules))
