-- `put_two` puts the one part behind the other.
use Rattle.asking_runs_code.proofs.Copies.{second-room, both-put}
use borrow.Author.Rules.{rules}
use Rattle.asking_runs_code.proofs.two.put_two.Goals as goal

pub put_part-requires : goal.put_part-requires
put_part-requires c =
    record {
      layer_there = search (rules, second-room);
      i_in_bounds = search (rules, second-room);
    }

pub returns : goal.returns
returns c = search (rules, both-put)
