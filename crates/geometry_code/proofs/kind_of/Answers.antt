-- `geometry_code::kind_of`: the sides compare as numbers do.
use borrow.Author.Rules.{rules}
use mathlib.Core.Bool.{true, false}
use Rattle.geometry.proofs.Machine.{Fitting, read-lt, kind-is}
use Rattle.geometry_code.proofs.kind_of.Goals as goal

pub returns-in-true-true : goal.returns-in-true-true
returns-in-true-true c =
    let fits-r : Fitting c.args.r = search rules in
    let f = fits-r in
    kind-is _ true true (read-lt f.left f.right c.in-true-true.is-0) (read-lt f.bottom f.top c.in-true-true.is-1)

pub returns-in-true-false : goal.returns-in-true-false
returns-in-true-false c =
    let fits-r : Fitting c.args.r = search rules in
    let f = fits-r in
    kind-is _ true false (read-lt f.left f.right c.in-true-false.is-0) (read-lt f.bottom f.top c.in-true-false.is-1)

pub returns-in-true-false-2 : goal.returns-in-true-false-2
returns-in-true-false-2 c =
    let fits-r : Fitting c.args.r = search rules in
    let f = fits-r in
    kind-is _ false true (read-lt f.left f.right c.in-true-false.is-0) (read-lt f.bottom f.top c.in-true-false.is-1)

pub returns-in-false-false : goal.returns-in-false-false
returns-in-false-false c =
    let fits-r : Fitting c.args.r = search rules in
    let f = fits-r in
    kind-is _ false false (read-lt f.left f.right c.in-false-false.is-0) (read-lt f.bottom f.top c.in-false-false.is-1)
