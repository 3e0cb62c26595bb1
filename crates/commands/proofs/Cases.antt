-- The cases hold, as the definitions compute them.
use mathlib.Core.Path.{refl}
use Rattle.lists.specs.Lists.{same}
use Rattle.decimal.specs.Reading.{number}
use Rattle.commands.specs.Commands.{command_words, limits, usage_lines, help_texts, version_line}
use Rattle.commands.specs.Arguments.{argument_count, is_number, is_taken, argument_value, box_of, places_from, leading_numbers, command_from, looked, limit_or, numbers_in, command_call, takes_all, text_source, second_source}
use Rattle.outcomes.specs.Texts.{up_to, behind_first, text_part}
use Rattle.outcomes.specs.Outcomes.{cause_lines, cause_text, done, misused}
use Rattle.commands.specs.Outcomes.{command_of}
use Rattle.commands.specs.Cases.{Cases}

pub cases : Cases
unfolding argument_value box_of places_from usage_lines help_texts version_line cause_lines cause_text done misused command_of up_to behind_first text_part same number command_words limits argument_count is_number is_taken leading_numbers command_from looked limit_or numbers_in command_call takes_all text_source second_source
cases =
    record {
      none = record { call = refl; fitting = refl; text_from = refl; second_from = refl };
      unknown = record { call = refl; fitting = refl; text_from = refl; second_from = refl };
      report = record { call = refl; fitting = refl; text_from = refl; second_from = refl };
      report_file = record { call = refl; fitting = refl; text_from = refl; second_from = refl };
      report_number = record { call = refl; fitting = refl; text_from = refl; second_from = refl };
      report_two = record { call = refl; fitting = refl; text_from = refl; second_from = refl };
      check_file = record { call = refl; fitting = refl; text_from = refl; second_from = refl };
      pairs = record { call = refl; fitting = refl; text_from = refl; second_from = refl };
      pairs_layer = record { call = refl; fitting = refl; text_from = refl; second_from = refl };
      pairs_file = record { call = refl; fitting = refl; text_from = refl; second_from = refl };
      nearest = record { call = refl; fitting = refl; text_from = refl; second_from = refl };
      nearest_number = record { call = refl; fitting = refl; text_from = refl; second_from = refl };
      nearest_three = record { call = refl; fitting = refl; text_from = refl; second_from = refl };
      apart = record { call = refl; fitting = refl; text_from = refl; second_from = refl };
      classes = record { call = refl; fitting = refl; text_from = refl; second_from = refl };
      hours_none = record { call = refl; fitting = refl; text_from = refl; second_from = refl };
      hours_one = record { call = refl; fitting = refl; text_from = refl; second_from = refl };
      hours_two = record { call = refl; fitting = refl; text_from = refl; second_from = refl };
      cover = record { call = refl; fitting = refl; text_from = refl; second_from = refl };
      cover_file = record { call = refl; fitting = refl; text_from = refl; second_from = refl };
      cover_three = record { call = refl; fitting = refl; text_from = refl; second_from = refl };
      cover_word = record { call = refl; fitting = refl; text_from = refl; second_from = refl };
      nearest_dash = record { call = refl; fitting = refl; text_from = refl; second_from = refl };
      picture_file = record { call = refl; fitting = refl; text_from = refl; second_from = refl };
      help = record { call = refl; fitting = refl; text_from = refl; second_from = refl };
      version = record { call = refl; fitting = refl; text_from = refl; second_from = refl };
      box = refl;
      layer = (refl, refl, refl);
      given = (refl, refl);
      stops = refl;
      places = refl;
      usages = (refl, refl, refl, refl, refl, refl, refl, refl, refl, refl, refl, refl);
      helps = (refl, refl, refl, refl, refl, refl, refl, refl, refl, refl, refl);
      help_version = refl;
      causes = (refl, refl, refl, refl, refl, refl, refl, refl, refl, refl, refl, refl, refl, refl, refl, refl, refl, refl, refl, refl, refl, refl, refl, refl, refl);
      misused_version = refl;
      done_version = refl;
    }
