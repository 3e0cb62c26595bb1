-- Theorem: which answer each command gives, for all texts: `t` is the text, and `u` the second one. Proved in proofs/Answered.antt.
use Rattle.std.specs.Prelude.{◌≡◌, List, [], ◌∷◌, ◌++◌, ℕ, pos, negsuc}
use Prim.Native.String.{String}
use Rattle.plan.specs.Causes.{on_cause}
use Rattle.reporting.specs.Report.{report_cause, report_of}
use Rattle.outcomes.specs.Texts.{ascii}
use Rattle.outcomes.specs.Outcomes.{Outcome, done, refused}
use Rattle.checking.specs.Check.{check_of}
use Rattle.asking.specs.Answers.{apart_of, nearest_said, pairs_of}
use Rattle.listing.specs.Plans.{on_plan}
use Rattle.listing.specs.Classes.{plan_classes}
use Rattle.listing.specs.Hours.{plan_hours}
use Rattle.listing.specs.Cover.{cover_said}
use Rattle.picture.specs.Pictures.{plan_picture}
use Rattle.commands.specs.Commands.{usage, help_text}
use Rattle.commands.specs.Outcomes.{command_of}

-- with these arguments the program says this, whatever the texts are
abbrev pub Says : (arguments : String) → (List ℕ → List ℕ → Outcome) → Type 0
Says arguments said = (t u : List ℕ) → command_of (ascii arguments) t u ≡ said t u

-- it says only that something else is wanted of the command
abbrev pub Wants : (arguments : String) → (command : ℕ) → Type 0
Wants arguments command = Says arguments (λ t u. record { status = 2; out = []; err = ascii "overlay: " ++ (usage command ++ 10 ∷ []) })

-- with a file and without one
pub record Answered : Type 0 where
  pub report : Says "report\0" (λ t u. on_cause (report_cause t) (done (report_of t)) refused)
  pub report_file : Says "report\0a\0" (λ t u. on_cause (report_cause t) (done (report_of t)) refused)
  pub check : Says "check\0" (λ t u. check_of t)
  pub check_file : Says "check\0a\0" (λ t u. check_of t)
  -- 0 asks for all; a layer that is given, for those with it
  pub pairs : Says "pairs\0" (λ t u. pairs_of t 0)
  pub pairs_layer : Says "pairs\03\0a\0" (λ t u. pairs_of t 3)
  -- left, bottom, right, top
  pub nearest : Says "nearest\01\0-2\03\04\0" (λ t u. nearest_said t (record { left = pos 1; bottom = negsuc 1; right = pos 3; top = pos 4 }))
  -- the places, layer after layer
  pub apart : Says "apart\05\00\07\0a\0" (λ t u. apart_of t (5 ∷ 0 ∷ 7 ∷ []))
  pub classes : Says "classes\0a\0" (λ t u. on_plan plan_classes t)
  -- the text is the plan's, the second one has the windows
  pub hours : Says "hours\0w\0" (λ t u. on_plan (plan_hours u) t)
  pub hours_file : Says "hours\0w\0a\0" (λ t u. on_plan (plan_hours u) t)
  -- the stops, and which of them are given: 1 left, 2 bottom, 4 right, 8 top
  pub cover : Says "cover\05\0-\0-6\0-\0a\0" (λ t u. cover_said (record { left = pos 5; bottom = pos 0; right = negsuc 5; top = pos 0 }) 5 t)
  pub picture : Says "picture\0a\0" (λ t u. on_plan plan_picture t)
  -- of all, of one, and of a word that is no command's
  pub help : Says "help\0" (λ t u. done (help_text 11))
  pub help_check : Says "help\0check\0" (λ t u. done (help_text 1))
  pub help_rows : Wants "help\0rows\0" 11
  pub version : Says "version\0" (λ t u. done (ascii "overlay 14\n"))
  -- wrong arguments, and a word that is no command's
  pub two_files : Wants "report\0a\0b\0" 0
  pub no_windows : Wants "hours\0" 6
  pub no_command : Wants "rows\0a\0" 11
  pub nothing : Wants "" 11
