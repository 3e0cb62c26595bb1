-- `rounds_code::serving::serve_one`: a page call with parts of both buffers.
use borrow.Author.Rules.{rules}
use mathlib.Core.Path.{◌≡◌}
use Prim.Native.Nat.{◌+◌, ◌-◌, ◌*◌}
use native.Mathlib.Omega.{arith}
use lib.ListN.{length}
use Rattle.rounds_code.proofs.Pages.{one-served}
use Rattle.rounds_code.proofs.serving.serve_one.Goals as goal

pub returns : goal.returns
returns c =
    let sixteen : length c.args.tickets ≡ 16 = search rules in
    let at = c.args.at in
    let start = at * c.args.size in
    let x : at + 1 - at ≡ 1 = omega arith in
    let y : start + c.args.size - start ≡ c.args.size = omega arith in
    one-served _ c.args.tickets at c.args.size c.args.budget c.args.counters.now c.args.table.now _ (at + 1 - at) (start + c.args.size - start) (omega (arith, sixteen)) x y _ _ _ c.plain_page.ensures
