-- `tell_apart` writes what the pair call answers.
use Rattle.std.proofs.Common.{refl, ap}
use Rattle.std.specs.Prelude.{Ok}
use Rattle.pens.specs.Pens.{place, capacity, wrote}
use Rattle.outcomes.proofs.Outcomes.{told_same}
use Rattle.asking_code.proofs.Answers.{share-room, apart-room, pair-refused, share-told, apart-told}
use borrow.Author.Rules.{rules}
use Rattle.asking_code.proofs.pair.tell_apart.Goals as goal

pub put_share-requires : goal.put_share-requires
unfolding place capacity
put_share-requires c = share-room _ _ c.requires

pub put_apart-requires : goal.put_apart-requires
unfolding place capacity
put_apart-requires c = apart-room _ _ c.requires _ _

pub returns-in-Err : goal.returns-in-Err
returns-in-Err c = told_same _ _ _ _ _ _ _ c.put_refusal.ensures (pair-refused _ _ c.in-Err.ensures.answer _ refl)

pub returns-in-Ok-None : goal.returns-in-Ok-None
unfolding wrote
returns-in-Ok-None c = rw c.done.ensures (share-told _ _ c.in-Ok-None.ensures.answer _ _ _ _ c.requires (ap Ok c.in-Ok-None.field-0-is) (search rules))

pub returns-in-Ok-Some : goal.returns-in-Ok-Some
unfolding wrote
returns-in-Ok-Some c = rw c.done-in-Ok-Some.ensures (apart-told _ _ c.in-Ok-Some.ensures.answer _ _ _ _ c.requires c.in-Ok-Some.pair.lower c.in-Ok-Some.pair.higher (ap Ok c.in-Ok-Some.field-0-is) (search rules))
