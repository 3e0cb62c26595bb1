-- The choices and the boundaries hold, as the definitions compute them.
use mathlib.Core.Path.{refl}
use Rattle.geometry.specs.Rectangles.{nonempty, between, held}
use Rattle.plan.specs.Plan.{rect_at, fits_at, plan_cause}
use Rattle.decimal.specs.Numerals.{size, decimal}
use Rattle.decimal.specs.Reading.{number}
use Rattle.line.specs.Parsing.{line}
use Rattle.text.specs.Parsing.{lines_of}
use Rattle.text.specs.Plans.{shape_in, agrees}
use Rattle.text.specs.Reader.{read_cause, text_shape}
use Rattle.printing.specs.Lines.{line_of}
use Rattle.outcomes.specs.Outcomes.{done, refused_with}
use Rattle.checking.specs.Lines.{well_formed, bad_line}
use Rattle.checking.specs.Reasons.{digit, zero_leads, run_on, worded, spaced, one_number, count_reason, number_reason, worded_reason, field_reason, place_reason, reason_of}
use Rattle.checking.specs.Faults.{is_from_to, size_of, surplus, in_reach}
use Rattle.checking.specs.Check.{check_cause, plan_found, line_error, bad_error, more_error, fault_errors, why_lines, check_of}
use Rattle.checking.specs.Choices.{Choices, Boundaries}

pub choices : Choices
unfolding nonempty between held rect_at fits_at plan_cause size decimal number line lines_of shape_in agrees read_cause text_shape line_of done refused_with well_formed bad_line digit zero_leads run_on worded spaced one_number count_reason number_reason worded_reason field_reason place_reason reason_of is_from_to size_of surplus in_reach check_cause plan_found line_error bad_error more_error fault_errors why_lines check_of
choices =
    record {
      mark_return = refl;
      return_blank = refl;
      return_space = refl;
      return_end = refl;
      place_first = refl;
      fields_first = refl;
      word_plus = refl;
      word_end = refl;
      space_plus = refl;
      plus_point = refl;
      point_zero = refl;
      zero_nine = refl;
      zero_one = refl;
      nine_one = refl;
      nine_end = refl;
      one_end = refl;
      eight_digits = refl;
      zeros = refl;
      zero = refl;
    }

pub boundaries : Boundaries
unfolding between is_from_to size_of in_reach
boundaries =
    record {
      least = refl;
      most = refl;
      size_above = refl;
      size_below = refl;
      margin_above = refl;
      margin_below = refl;
      two = refl;
      six = refl;
      one = refl;
      seven = refl;
      another = refl;
      widest = refl;
      point = refl;
      left_below = refl;
      bottom_below = refl;
      right_above = refl;
      top_above = refl;
      left_above = refl;
      bottom_above = refl;
    }
