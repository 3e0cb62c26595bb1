-- `put_why` goes by the cause.
use Rattle.std.proofs.Common.{◌≡◌, ap, ◌∙◌, sym}
use Rattle.plan.specs.declared.cause.Cause.TheVariants.{MalformedText, WrongPlanText}
use Rattle.plan.specs.Causes.{number_of}
use Rattle.plan.proofs.Causes.{number-one}
use Rattle.checking.proofs.Check.{why-bad, why-faults, why-other}
use Rattle.checking.proofs.Heads.{ten-formed}
use borrow.Author.Rules.{rules}
use Rattle.checking_code.proofs.put_why.Goals as goal

pub returns-in-MalformedText : goal.returns-in-MalformedText
returns-in-MalformedText c = why-bad _ _ _ _ _ (ap number_of c.in-MalformedText.is) c.put_bad.ensures

pub put_faults-requires : goal.put_faults-requires
put_faults-requires c = let e : number_of c.args.cause ≡ 10 = ap number_of c.in-WrongPlanText.is in search (rules, ten-formed)

pub returns-in-WrongPlanText : goal.returns-in-WrongPlanText
returns-in-WrongPlanText c = why-faults _ _ _ _ _ (ap number_of c.in-WrongPlanText.is) c.put_faults.ensures

pub returns-in_default : goal.returns-in_default
returns-in_default c =
    why-other _ _ _ _ _ (λ e. c.in_default.not-MalformedText (number-one _ MalformedText e)) (λ e. c.in_default.not-WrongPlanText (number-one _ WrongPlanText e)) c.put_cause.ensures
