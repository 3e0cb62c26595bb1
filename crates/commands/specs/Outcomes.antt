-- What each command says, and what the program says, for every input.
use Rattle.std.specs.Prelude.{List, [], ◌∷◌, cond, ◌&&◌, ℕ, leb, ltb, get_or}
use Rattle.plan.specs.Causes.{on_cause}
use Rattle.reporting.specs.Report.{report_cause, report_of}
use Rattle.outcomes.specs.Outcomes.{Outcome, done, refused, misused}
use Rattle.checking.specs.Check.{check_of}
use Rattle.asking.specs.Answers.{apart_of, nearest_said, pairs_of}
use Rattle.listing.specs.Classes.{classes_said}
use Rattle.listing.specs.Hours.{hours_said}
use Rattle.listing.specs.Cover.{cover_said}
use Rattle.picture.specs.Pictures.{picture_said}
use Rattle.commands.specs.Commands.{most_commands, usage, help_text, version_line}
use Rattle.commands.specs.Arguments.{CallValues, argument, box_of, layer_in, places_from, given_in, command_number, command_call, takes_all}

-- `report`: what the report program prints for the text
unfoldable pub report_outcome : (text : List ℕ) → Outcome
report_outcome text = on_cause (report_cause text) (done (report_of text)) refused

-- `help` of a command by its number; of all where no name is given; a name that is no command's is misuse
unfoldable pub help_outcome : (names command : ℕ) → Outcome
help_outcome names command = cond (ltb 0 names && leb most_commands command) (misused (usage most_commands)) (done (help_text command))

-- what each command says, in the order of their numbers
abbrev pub answers : (call : CallValues) (arguments text second : List ℕ) → List Outcome
answers call arguments text second =
    report_outcome text
    ∷ check_of text
    ∷ pairs_of text (layer_in call.numbers arguments)
    ∷ nearest_said text (box_of arguments)
    ∷ apart_of text (places_from arguments 1 call.numbers)
    ∷ classes_said text
    ∷ hours_said text second
    ∷ cover_said (box_of arguments) (given_in arguments) text
    ∷ picture_said text
    ∷ help_outcome call.names (command_number (argument 1 arguments))
    ∷ done version_line
    ∷ []

-- what is wanted
abbrev pub wanted : CallValues → Outcome
wanted call = misused (usage call.command)

-- what the program says: wrong arguments are told what is wanted
unfoldable pub command_of : (arguments text second : List ℕ) → Outcome
command_of arguments text second =
    let call = command_call arguments in
    cond (takes_all call) (get_or (answers call arguments text second) call.command (wanted call)) (wanted call)
