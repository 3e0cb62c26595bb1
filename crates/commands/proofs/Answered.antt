-- Each command gives its answer, as the definitions compute it.
use mathlib.Core.Path.{refl}
use Rattle.lists.specs.Lists.{same}
use Rattle.decimal.specs.Reading.{number}
use Rattle.outcomes.specs.Texts.{up_to, behind_first, text_part}
use Rattle.outcomes.specs.Outcomes.{done, misused}
use Rattle.commands.specs.Commands.{command_words, limits, version_line}
use Rattle.commands.specs.Arguments.{argument_count, is_number, is_taken, argument_value, box_of, places_from, leading_numbers, command_from, looked, limit_or, numbers_in, command_call, takes_all}
use Rattle.commands.specs.Outcomes.{report_outcome, help_outcome, command_of}
use Rattle.commands.specs.Answered.{Answered}

pub answered : Answered
unfolding argument_value box_of places_from version_line done misused report_outcome help_outcome command_of up_to behind_first text_part same number command_words limits argument_count is_number is_taken leading_numbers command_from looked limit_or numbers_in command_call takes_all
answered =
    record {
      report = λ t u. refl;
      report_file = λ t u. refl;
      check = λ t u. refl;
      check_file = λ t u. refl;
      pairs = λ t u. refl;
      pairs_layer = λ t u. refl;
      nearest = λ t u. refl;
      apart = λ t u. refl;
      classes = λ t u. refl;
      hours = λ t u. refl;
      hours_file = λ t u. refl;
      cover = λ t u. refl;
      picture = λ t u. refl;
      help = λ t u. refl;
      help_check = λ t u. refl;
      help_rows = λ t u. refl;
      version = λ t u. refl;
      two_files = λ t u. refl;
      no_windows = λ t u. refl;
      no_command = λ t u. refl;
      nothing = λ t u. refl;
    }
