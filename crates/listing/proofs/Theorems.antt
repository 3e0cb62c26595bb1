-- The numbers behind the report's ROW lines are what the calls answer, and small texts are read as stated.
use Rattle.std.specs.Prelude.{Some, Ok}
use mathlib.Core.Path.{◌≡◌, refl}
use mathlib.Core.List.{List}
use mathlib.Core.Option.{some}
use Prim.Native.Nat.{ℕ}
use lib.IntN.{ℤ}
use Rattle.lists.specs.Lists.{All}
use Rattle.lists.proofs.Lists.{all_map, all-of-mem}
use Rattle.lists.proofs.Kept.{all_keep}
use Rattle.decimal.specs.Numerals.{decimal, size}
use Rattle.decimal.specs.Reading.{number}
use Rattle.plan.specs.declared.Shape.{Shape}
use Rattle.plan.specs.Plan.{sizes_of, layers, grown, Typed, Sound}
use Rattle.plan.proofs.Growing.{framed}
use Rattle.join.specs.Table.{table_of, plan_table}
use Rattle.join.proofs.Theorems.{tables}
use Rattle.rows.proofs.Theorems as Row
use Rattle.crossings.specs.Crossings.{class_in}
use Rattle.crossings.specs.ClassCall.{crossing_cause, class_call}
use Rattle.crossings.proofs.Theorems as Crossing
use Rattle.windows.specs.Windows.{is_window, hours_of, shares_minute}
use Rattle.windows.specs.HoursCall.{hours_cause, hours_call}
use Rattle.timed.specs.Timed.{timed_table_of}
use Rattle.printing.specs.Lines.{line_of}
use Rattle.listing.specs.Lines.{class_line}
use Rattle.listing.specs.Cover.{float_at}
use Rattle.outcomes.specs.Texts.{up_to, behind_first, text_part}
use Rattle.checking.specs.Reasons.{digit, zero_leads, run_on}
use Rattle.listing.specs.Reasons.{window_reasons, window_words, numbers_reason, fields_reason, word_reason, line_reason}
use Rattle.listing.specs.Windows.{window_due, fault_line}
use Rattle.listing.specs.Theorems.{Listings}
use Rattle.listing.proofs.Lines.{front, row-front, with-front}

classes : (s : Shape) (cells : List ℤ) → Typed s → crossing_cause s cells ≡ 0 → All (λ row. class_call s cells row ≡ Ok (Some (class_in (layers s cells) row))) (plan_table s cells)
classes s cells typed passed = all-of-mem (plan_table s cells) (λ row m. (Crossing.row-class s cells typed passed row m).0)

minutes : (s : Shape) (cells : List ℤ) (hours : List ℕ) → Sound s cells → hours_cause (some hours) s cells ≡ 0
    → All (λ row. hours_call s cells hours row ≡ Ok (Some (hours_of (sizes_of s) hours row))) (timed_table_of (sizes_of s) (grown s cells) hours)
unfolding timed_table_of hours_call
minutes s cells hours sound e =
    let t = tables.tables (sizes_of s) (grown s cells) (framed s cells sound).1 in
    let all = all-of-mem (table_of (sizes_of s) (grown s cells)) (λ row m. (((Row.rows).rows s cells sound).names row).1 (t.is.sound row m)) in
    all_map (λ row p. rw (e, p.0, p.1)) (all_keep (shares_minute (sizes_of s) hours) all)

pub listings : Listings
unfolding class_line line_of decimal size float_at window_due number is_window fault_line window_words window_reasons numbers_reason fields_reason word_reason line_reason text_part up_to behind_first digit zero_leads run_on
listings = record {
  rows = λ more ls row. (front ls row, row-front ls row, with-front more ls row (row) 0);
  classes = classes;
  minutes = minutes;
  counts = refl;
  floats = refl;
  all_bytes = refl;
  good = (refl, refl);
  formed = refl;
  stated = refl;
  ended = refl;
  more = refl;
  more_bad = refl;
  more_blank = refl;
  more_space = refl;
  more_word = refl;
  more_open = refl;
  more_numbers = refl;
  fewer = refl;
  negative = refl;
  told = refl;
  spaced = refl;
  leading_space = refl;
  space_in = refl;
  return = refl;
  blank = refl;
  word = refl;
  plus = refl;
  point = refl;
  zero = refl;
  nine = refl;
  no_end = refl;
  numbers = refl;
  mark = refl;
}
