-- `check_text` goes by what the reader answers.
use Rattle.std.proofs.Common.{◌≡◌, refl, ap}
use Rattle.plan.proofs.Causes.{number-above}
use Rattle.text.specs.Reader.{read_values}
use Rattle.outcomes.proofs.Outcomes.{refused-room}
use Rattle.checking.proofs.Check.{told-plan, told-why}
use Rattle.checking.proofs.Heads.{most-cause}
use borrow.Author.Rules.{rules}
use Rattle.checking_code.proofs.check_text.Goals as goal

pub returns-in-Ok : goal.returns-in-Ok
returns-in-Ok c =
    let r = c.in-Ok.ensures in
    rw c.done.ensures (told-plan _ _ c.requires.0 _ c.requires.1 (ap read_values r.answer) r.number _ _ c.requires.2 _ _ refl c.put_plan.ensures)

pub put_refused-m-requires : goal.put_refused-m-requires
put_refused-m-requires c = rw c.from.ensures (search (rules, refused-room))

pub put_why-n-requires : goal.put_why-n-requires
put_why-n-requires c = (most-cause _ _ _ c.in-Err.ensures.number c.requires.1, c.requires.0, search rules)

pub returns-in-Err : goal.returns-in-Err
returns-in-Err c =
    let r = c.in-Err.ensures in
    rw c.refused.ensures (told-why _ _ c.requires.0 _ c.requires.1 (ap read_values r.answer) r.number _ _ c.requires.2 _ _ _ _ (number-above _) (rw c.from.ensures at c.put_refused-m.ensures) c.put_why-n.ensures)
