-- `whole_root`: std's root is the one.
use native.Mathlib.Numerals.{add-one}
use Rattle.asking.proofs.Roots.{root_is}
use Rattle.asking_code.proofs.roots.whole_root.Goals as goal

pub returns : goal.returns
returns c = root_is c.args.n c.isqrt.result c.isqrt.ensures.square_le (rw add-one at c.isqrt.ensures.next_square_gt)
