-- `crossings_code::is_segment`: the numbers compare as they do.
use borrow.Author.Rules.{rules}
use mathlib.Core.Path.{◌∙◌}
use Rattle.geometry.proofs.Machine.{Fitting}
use Rattle.crossings.specs.ClassCall.{lies}
use Rattle.crossings.proofs.Reading.{read_same}
use Rattle.crossings_code.proofs.is_segment.Goals as goal

pub returns-in-Level : goal.returns-in-Level
unfolding lies
returns-in-Level c =
    let f : Fitting c.args.r = search rules in
    read_same f.bottom f.top ∙ rw c.in-Level.is

pub returns-in-Upright : goal.returns-in-Upright
unfolding lies
returns-in-Upright c =
    let f : Fitting c.args.r = search rules in
    read_same f.left f.right ∙ rw c.in-Upright.is
