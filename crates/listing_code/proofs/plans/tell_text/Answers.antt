-- `tell_text` refuses a text that has no plan, and has the plan of any other told of.
use Rattle.std.proofs.Common.{refl}
use Rattle.plan.proofs.Causes.{number-above}
use Rattle.outcomes.proofs.Outcomes.{told_same}
use Rattle.listing.proofs.Plans.{said-refused, said-plan}
use Rattle.listing_code.proofs.plans.tell_text.Goals as goal

pub returns-in-Err : goal.returns-in-Err
returns-in-Err g c = told_same _ _ _ _ _ _ _ c.put_refusal.ensures (said-refused (g.C.PlanCommand.say c.args.command.now) c.args.text.now _ c.in-Err.ensures.cause (number-above _))

pub tell_lent-requires : goal.tell_lent-requires
tell_lent-requires g c = (c.in-Ok.ensures.ready refl, c.requires.2)

pub returns-in-Ok : goal.returns-in-Ok
returns-in-Ok g c = told_same _ _ _ _ _ _ _ c.tell_lent.ensures (said-plan (g.C.PlanCommand.say c.args.command.now) c.args.text.now _ _ _ c.in-Ok.ensures refl)
