-- What the call answers (02, Q-9): "The kept records' covers form a layer, in their order, in the first cells of a lent buffer; the other cells keep their
-- contents, and the number kept is returned."
use Rattle.std.specs.Prelude.{List, ◌++◌, ◌&&◌, ℕ, ◌*◌, ◌%◌, eqb, leb, ℤ, length, drop, Float, Result, Ok, Err}
use Rattle.lists.specs.Lists.{keep}
use Rattle.plan.specs.Causes.{unless, ◌or_else◌, on_cause}
use Rattle.plan.specs.Limits.{most_size}
use Rattle.survey.specs.declared.Corners.{Corners}
use Rattle.survey.specs.declared.Strip.{Strip}
use Rattle.survey.specs.Strips.{sound_strip}
use Rattle.survey.specs.Records.{records, all_sound, kept_by, cover_cells}

module _ (across upward : Strip) (corners : List Float) where
  -- "Checks, 21 first": the strips, then 20: "corners not four a record", or a record that is not sound, kept or not
  unfoldable pub input_cause : ℕ
  input_cause = unless (sound_strip across && sound_strip upward) 21 or_else unless (eqb (length corners % 4) 0 && all_sound (records corners)) 20

  -- the records that are kept, in their order
  abbrev pub kept : List Corners
  kept = keep (kept_by across upward) (records corners)

  -- "then more than 512 kept, 2, and too few cells, 11", where `room` cells are lent
  unfoldable pub cover_cause : ℕ → ℕ
  cover_cause room = input_cause or_else unless (leb (length kept) most_size) 2 or_else unless (leb (4 * length kept) room) 11

  -- the layer
  abbrev pub layer_of : List ℤ
  layer_of = cover_cells kept

  -- what the call answers: how many are kept
  unfoldable pub cover_answer : ℕ → Result ℕ ℕ
  cover_answer room = on_cause (cover_cause room) (Ok (length kept)) Err

  -- the lent cells afterwards; a refusal keeps all
  unfoldable pub cover_after : List ℤ → List ℤ
  cover_after cells = on_cause (cover_cause (length cells)) (layer_of ++ drop (length layer_of) cells) (λ n. cells)

-- 02's number and value of each answer: the cause or 0, how many are kept. 01: "A refusal returns its number and 0 for all else"
pub record CoverValues : Type 0 where
  pub number : ℕ
  pub kept : ℕ

abbrev pub cover_values : Result ℕ ℕ → CoverValues
cover_values (Ok n) = record { number = 0; kept = n }
cover_values (Err cause) = record { number = cause; kept = 0 }
