-- What the writer answers (01, "Causes and their numbers", 1 to 4 and 12; 02, Q-4, 17).
use Rattle.std.specs.Prelude.{List, ◌++◌, ℕ, leb, ℤ, length, drop, Result, Ok, Err}
use Rattle.plan.specs.declared.Shape.{Shape}
use Rattle.plan.specs.Causes.{unless, ◌or_else◌, on_cause}
use Rattle.plan.specs.Plan.{plan_cause}
use Rattle.text.specs.Plans.{text_of}

-- the cause that refuses to write a plan into `room` bytes
unfoldable pub write_cause : Shape → List ℤ → ℕ → ℕ
write_cause s cells room = plan_cause s cells or_else unless (leb (length (text_of s cells)) room) 12

-- what the writer answers where `room` bytes are lent: the length of the text
abbrev pub write_answer : Shape → List ℤ → ℕ → Result ℕ ℕ
write_answer s cells room = on_cause (write_cause s cells room) (Ok (length (text_of s cells))) Err

-- 01's number of each answer
abbrev pub number_said : Result ℕ ℕ → ℕ
number_said (Ok size) = 0
number_said (Err cause) = cause

-- the length of each answer, 0 for a refusal
abbrev pub length_of : Result ℕ ℕ → ℕ
length_of (Ok size) = size
length_of (Err cause) = 0

-- the lent buffer afterwards. 01: "puts the one text of a plan at the start of its buffer, returns the length and keeps the rest"; a refusal keeps all
abbrev pub buffer_after : Shape → List ℤ → List ℕ → List ℕ
buffer_after s cells buf = on_cause (write_cause s cells (length buf)) (text_of s cells ++ drop (length (text_of s cells)) buf) (λ n. buf)
