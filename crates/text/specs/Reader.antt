-- What the reader answers (01, "Causes and their numbers", 9 to 11).
use Rattle.std.specs.Prelude.{List, [], ◌∷◌, ◌++◌, ℕ, leb, ℤ, length, drop, Result, Ok, Err}
use Rattle.std.proofs.Math.Option.{Option, none, some}
use Rattle.plan.specs.declared.Shape.{Shape}
use Rattle.plan.specs.Causes.{unless, ◌or_else◌, on_cause}
use Rattle.line.specs.declared.Line.{Line}
use Rattle.text.specs.Parsing.{lines_of}
use Rattle.text.specs.Plans.{shape_in, cells_in, agrees}
use Rattle.lists.specs.Lists.{list_in}

-- 9 where there are no lines, then 10, then 11: "text accepted, cells fewer than 4n"
abbrev pub lines_cause : ℕ → Option (List Line) → ℕ
lines_cause room none = 9
lines_cause room (some ls) = unless (agrees ls) 10 or_else unless (leb (length (cells_in ls)) room) 11

-- the cause that refuses a text where `room` cells are lent
unfoldable pub read_cause : ℕ → List ℕ → ℕ
read_cause room t = lines_cause room (lines_of t)

-- the shape that an accepted text gives
unfoldable pub text_shape : List ℕ → Shape
text_shape t = shape_in (list_in (lines_of t))

-- the cells that it gives
unfoldable pub text_cells : List ℕ → List ℤ
text_cells t = cells_in (list_in (lines_of t))

-- k, all sizes and all margins 0
abbrev pub no_shape : Shape
no_shape = record { k = 0; sizes = 0 ∷ 0 ∷ 0 ∷ 0 ∷ 0 ∷ 0 ∷ []; margins = 0 ∷ 0 ∷ 0 ∷ 0 ∷ 0 ∷ 0 ∷ [] }

-- what the reader answers where `room` cells are lent. 01: "returns k and the sizes"; 02, Q-4, of margins: "reading returns them too"
abbrev pub read_answer : ℕ → List ℕ → Result Shape ℕ
read_answer room t = on_cause (read_cause room t) (Ok (text_shape t)) Err

-- the number and the shape of each answer. 01: "A refusal returns its number and 0 for all else"
pub record ReadValues : Type 0 where
  pub number : ℕ
  pub shape : Shape

abbrev pub read_values : Result Shape ℕ → ReadValues
read_values (Ok shape) = record { number = 0; shape = shape }
read_values (Err cause) = record { number = cause; shape = no_shape }

-- the lent cells afterwards. 01: "fills the first 4n cells, keeps the others"; a refusal keeps all
abbrev pub cells_after : List ℕ → List ℤ → List ℤ
cells_after t cells = on_cause (read_cause (length cells) t) (text_cells t ++ drop (length (text_cells t)) cells) (λ n. cells)
