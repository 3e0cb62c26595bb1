-- The cases hold, as the definitions compute them.
use mathlib.Core.Path.{refl}
use Rattle.geometry.specs.Rectangles.{nonempty, between, held}
use Rattle.plan.specs.Plan.{rect_at, fits_at, plan_cause}
use Rattle.decimal.specs.Numerals.{size, decimal}
use Rattle.decimal.specs.Reading.{number}
use Rattle.line.specs.Parsing.{line}
use Rattle.text.specs.Parsing.{lines_of}
use Rattle.text.specs.Plans.{shape_in, agrees}
use Rattle.text.specs.Reader.{read_cause, text_shape}
use Rattle.printing.specs.Lines.{line_of}
use Rattle.outcomes.specs.Outcomes.{done, refused_with}
use Rattle.checking.specs.Lines.{well_formed, bad_line}
use Rattle.checking.specs.Reasons.{digit, zero_leads, run_on, worded, spaced, one_number, count_reason, number_reason, worded_reason, field_reason, place_reason, reason_of}
use Rattle.checking.specs.Faults.{is_from_to, size_of, surplus, in_reach}
use Rattle.checking.specs.Check.{check_cause, plan_found, line_error, bad_error, more_error, fault_errors, why_lines, check_of}
use Rattle.checking.specs.Cases.{Cases}

pub cases : Cases
unfolding nonempty between held rect_at fits_at plan_cause size decimal number line lines_of shape_in agrees read_cause text_shape line_of done refused_with well_formed bad_line digit zero_leads run_on worded spaced one_number count_reason number_reason worded_reason field_reason place_reason reason_of is_from_to size_of surplus in_reach check_cause plan_found line_error bad_error more_error fault_errors why_lines check_of
cases =
    record {
      plan = record { output = refl; error = refl };
      empty = record { output = refl; error = refl };
      mark = record { output = refl; error = refl };
      return = record { output = refl; error = refl };
      blank = record { output = refl; error = refl };
      no_plan = record { output = refl; error = refl };
      second_plan = record { output = refl; error = refl };
      space = record { output = refl; error = refl };
      word = record { output = refl; error = refl };
      one_number = record { output = refl; error = refl };
      plus = record { output = refl; error = refl };
      point = record { output = refl; error = refl };
      leading_zero = record { output = refl; error = refl };
      minus_zero = record { output = refl; error = refl };
      nine_digits = record { output = refl; error = refl };
      no_line = record { output = refl; error = refl };
      third = refl;
      tab_behind = refl;
      letter = refl;
      no_number = refl;
      letters = refl;
      plus_alone = refl;
      space_first = refl;
      space_behind = refl;
      plan_space = refl;
      comment = refl;
      zone = refl;
      word_alone = refl;
      no_end = record { output = refl; error = refl };
      few_layers = record { output = refl; error = refl };
      layers = record { output = refl; error = refl };
      size = record { output = refl; error = refl };
      margin = record { output = refl; error = refl };
      fewer = record { output = refl; error = refl };
      more = record { output = refl; error = refl };
      before = record { output = refl; error = refl };
      order = record { output = refl; error = refl };
      range = record { output = refl; error = refl };
      upright = refl;
      several = refl;
      enough = refl;
      one_more = refl;
      many = refl;
      all_sides = refl;
    }
