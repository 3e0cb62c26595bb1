-- `floats::taken_apart`: a float near 0 is no NaN, and its exponent is small.
use borrow.Author.Rules.{rules}
use lib.Dec.{T}
use lib.Ieee.{fits, binary64}
use Rattle.floats.proofs.Patterns.{near-not-nan, near-field, parts-of-cut}
use Rattle.floats.proofs.taken_apart.Goals as goal

pub float_to_bits-x : goal.float_to_bits-x
float_to_bits-x c = near-not-nan c.args.x c.requires

pub apart_by_bits-requires : goal.apart_by_bits-requires
apart_by_bits-requires c =
    let fits-x : T (fits binary64 c.args.x) = search rules in
    near-field c.args.x fits-x c.requires

pub returns : goal.returns
returns c =
    let fits-x : T (fits binary64 c.args.x) = search rules in
    parts-of-cut c.args.x _ _ _ fits-x c.requires c.apart_by_bits.ensures
