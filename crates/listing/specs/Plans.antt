-- What a command says that is given a plan text.
use Rattle.std.specs.Prelude.{List, ℕ, leb, ℤ, length}
use Rattle.plan.specs.declared.Shape.{Shape}
use Rattle.plan.specs.Causes.{unless, ◌or_else◌, on_cause}
use Rattle.plan.specs.Limits.{most_cells}
use Rattle.text.specs.Reader.{read_cause, text_shape, text_cells}
use Rattle.outcomes.specs.Outcomes.{Outcome, refused}

-- as the report has it: 13, "input above 65,536 bytes", "before all others"; then the reader's causes, where it is lent cells for any plan
unfoldable pub text_cause : List ℕ → ℕ
text_cause t = unless (leb (length t) 65536) 13 or_else read_cause most_cells t

-- what is said of the plan of a text, or why there is none
unfoldable pub on_plan : (say : Shape → List ℤ → Outcome) → List ℕ → Outcome
on_plan say t = on_cause (text_cause t) (say (text_shape t) (text_cells t)) refused
