-- Things that are wrong, put into the buffer for standard error one behind the other; no public call's contract cites it.
use Rattle.std.specs.Prelude.{◌≡◌, List, true, ℕ, ◌+◌, ◌-◌, ◌*◌, ◌≤◌, length, take, drop, ℤ}
use Rattle.lists.specs.Lists.{is_some}
use Rattle.lists.specs.inner.Stores.{Put}
use Rattle.line.specs.declared.Line.TheVariants.{Plan}
use Rattle.line.specs.Places.{Line-at}
use Rattle.text.specs.Parsing.{all_lines, lines_of}
use Rattle.outcomes.specs.inner.Rooms.{room_for_words}
use Rattle.checking.specs.declared.Pen.{Pen}
use Rattle.checking.specs.Faults.{Note}
use Rattle.checking.specs.Check.{note_errors, most_notes}

-- a number of things, or one more than may be told where there are more
abbrev pub counted : ℕ → ℕ
counted things = 65 - (65 - things)

-- there is room for each line that may still come: none is longer than 1,000 bytes
pub record PenIn (buf : List ℕ) (pen : Pen) : Type 0 where
  pub long : room_for_words ≤ length buf
  pub few : pen.told ≤ 65
  pub at : pen.at ≤ 1000 * pen.told

-- as many of the things as may still be told are put behind those before them
pub record Noted (buf : List ℕ) (pen : Pen) (notes : List Note) (last : List ℕ) (r : Pen) : Type 0 where
  pub put : Put buf pen.at (note_errors (take (most_notes - pen.told) notes)) last r.at
  pub told : r.told ≡ counted (pen.told + length notes)
  pub within : PenIn last r

-- lines stand from a place to the end of a text that is not too long; a line stands before it
pub record LinesFrom (s : List ℕ) (from : ℕ) : Type 0 where
  pub formed : is_some (all_lines (drop from s)) ≡ true
  pub behind : 1 ≤ from
  pub inside : from ≤ length s
  pub short : length s ≤ 65536

-- the text is well formed, and its PLAN line says k and ends there
pub record Headed (s : List ℕ) (k : ℤ) (next : ℕ) : Type 0 where
  pub formed : is_some (lines_of s) ≡ true
  pub first : Line-at s 0 (Plan k) next
