-- Theorem: what the numbers are that the commands `classes` and `hours` put behind the report's ROW lines, and small texts and what is said of them. Proved in
-- proofs/Theorems.antt.
use Rattle.std.specs.Prelude.{◌≡◌, List, [], ◌∷◌, ◌++◌, map, ℕ, ℤ, Some, Ok}
use Rattle.std.proofs.Math.Option.{some}
use Prim.Native.String.{String}
use Rattle.std.specs.Float.{binary64, nan}
use Rattle.std.specs.Float.Ieee.{of_bits}
use Rattle.lists.specs.Lists.{All}
use Rattle.decimal.specs.Numerals.{decimal}
use Rattle.plan.specs.declared.Shape.{Shape}
use Rattle.plan.specs.Plan.{Layer, sizes_of, layers, grown, Typed, Sound}
use Rattle.join.specs.Table.{plan_table}
use Rattle.crossings.specs.Crossings.{class_in}
use Rattle.crossings.specs.ClassCall.{crossing_cause, class_call}
use Rattle.windows.specs.Windows.{hours_of}
use Rattle.windows.specs.HoursCall.{hours_cause, hours_call}
use Rattle.timed.specs.Timed.{timed_table_of}
use Rattle.printing.specs.Lines.{fields_end, row_line}
use Rattle.outcomes.specs.Texts.{ascii}
use Rattle.listing.specs.Lines.{row_line_with, class_lines}
use Rattle.listing.specs.Cover.{floats_in}
use Rattle.listing.specs.Windows.{fault_from, hours_from, fault_line}

-- what is said of a windows text of two rectangles that is wrong
abbrev pub Tells : (windows words : String) → Type 0
Tells windows words = fault_line (fault_from 2 1 (ascii windows)) ≡ ascii "overlay: windows, " ++ (ascii words ++ 10 ∷ [])

pub record Listings : Type 0 where
  -- a ROW line with more numbers is the report's line, where they stand before the byte that ends it
  pub rows : (more : List ℕ → List ℕ) (ls : List Layer) (row : List ℕ)
      → (front : List ℕ) × (row_line ls row ≡ front ++ 10 ∷ []) × (row_line_with more ls row ≡ front ++ fields_end (map decimal (more row)))
  -- the class behind each row of the table is what the class call answers for it
  pub classes : (s : Shape) (cells : List ℤ) → Typed s → crossing_cause s cells ≡ 0
      → All (λ row. class_call s cells row ≡ Ok (Some (class_in (layers s cells) row))) (plan_table s cells)
  -- the minutes behind each row of the timed table are what the call for a row's hours answers for it
  pub minutes : (s : Shape) (cells : List ℤ) (hours : List ℕ) → Sound s cells → hours_cause (some hours) s cells ≡ 0
      → All (λ row. hours_call s cells hours row ≡ Ok (Some (hours_of (sizes_of s) hours row)))
      (timed_table_of (sizes_of s) (grown s cells) hours)
  -- classes without rows have no line
  pub counts : class_lines 0 (0 ∷ 3 ∷ 0 ∷ 12 ∷ []) ≡ ascii "CLASS\t1\t3\nCLASS\t3\t12\n"
  -- the little end first: a half and bytes that are left over, and a float whose eight bytes all differ
  pub floats : floats_in (0 ∷ 0 ∷ 0 ∷ 0 ∷ 0 ∷ 0 ∷ 224 ∷ 63 ∷ 1 ∷ []) ≡ of_bits binary64 0x3fe0_0000_0000_0000 ∷ nan ∷ []
  pub all_bytes : floats_in (8 ∷ 7 ∷ 6 ∷ 5 ∷ 4 ∷ 3 ∷ 2 ∷ 1 ∷ []) ≡ of_bits binary64 0x0102_0304_0506_0708 ∷ []
  -- windows texts of two rectangles, and what is wrong in others
  pub good : let t = ascii "WINDOW\t0\t60\nWINDOW\t30\t10080\n" in ((fault_from 2 1 t).reason ≡ 0) × (hours_from 2 t ≡ 0 ∷ 60 ∷ 30 ∷ 10080 ∷ [])
  pub formed : fault_from 2 1 (ascii "WINDOW\t0\t60\nWINDOW\t30\n") ≡ record { reason = 1; line = 2 }
  pub stated : fault_from 2 1 (ascii "WINDOW\t60\t60\nWINDOW\t30\t90\n") ≡ record { reason = 2; line = 1 }
  pub ended : fault_from 2 1 (ascii "WINDOW\t0\t60\nWINDOW\t30\t10081\n") ≡ record { reason = 2; line = 2 }
  pub more : fault_from 2 1 (ascii "WINDOW\t0\t60\nWINDOW\t30\t90\nWINDOW\t1\t2\n") ≡ record { reason = 3; line = 3 }
  -- behind the last window: a window that is not as stated is one too many; of any other line its own fault is told
  pub more_bad : Tells "WINDOW\t0\t60\nWINDOW\t30\t90\nWINDOW\t2\t2\n" "line 3: more windows than rectangles"
  pub more_blank : Tells "WINDOW\t0\t60\nWINDOW\t30\t90\n\n" "line 3: a blank line"
  pub more_space : Tells "WINDOW\t0\t60\nWINDOW\t30\t90\n WINDOW\t1\t2\n" "line 3: a space: fields are parted by one tab and nothing else"
  pub more_word : Tells "WINDOW\t0\t60\nWINDOW\t30\t90\n# end\n" "line 3: a word that is not WINDOW, or no tab behind it"
  pub more_open : Tells "WINDOW\t0\t60\nWINDOW\t30\t90\nWINDOW\t1\t2" "line 3: no line end at the end of the text"
  pub more_numbers : Tells "WINDOW\t0\t60\nWINDOW\t30\t90\nWINDOW\t1\n" "line 3: not the two numbers that WINDOW takes, each behind one tab"
  pub fewer : fault_from 2 1 (ascii "WINDOW\t0\t60\n") ≡ record { reason = 4; line = 2 }
  pub negative : Tells "WINDOW\t-5\t60\n" "line 1: from is less than 0 or not less than to, or to is greater than 10080"
  pub told : fault_line (record { reason = 4; line = 2 }) ≡ ascii "overlay: windows, line 2: fewer windows than rectangles\n"
  -- a line that is not well formed, by the first of the usual things that it has
  pub spaced : Tells "WINDOW\t0\t60\nWINDOW 30 90\n" "line 2: a space: fields are parted by one tab and nothing else"
  pub leading_space : Tells " WINDOW\t0\t60\n" "line 1: a space: fields are parted by one tab and nothing else"
  pub space_in : Tells "WINDOW\t0\t +60\n" "line 1: a space: fields are parted by one tab and nothing else"
  pub return : Tells "WINDOW\t0\t60\r\n" "line 1: a carriage return"
  pub blank : Tells "\n" "line 1: a blank line"
  pub word : Tells "WINDOWS\t0\t60\n" "line 1: a word that is not WINDOW, or no tab behind it"
  pub plus : Tells "WINDOW\t+0.5\t60\n" "line 1: a number with a plus"
  pub point : Tells "WINDOW\t00.5\t60\n" "line 1: a number with a point"
  pub zero : Tells "WINDOW\t00\t123456789\n" "line 1: a number with a leading zero"
  pub nine : Tells "WINDOW\t0\t123456789" "line 1: a number of nine digits or more"
  pub no_end : Tells "WINDOW\t0\t60" "line 1: no line end at the end of the text"
  pub numbers : Tells "WINDOW\t0\t60\t\n" "line 1: not the two numbers that WINDOW takes, each behind one tab"
  pub mark : fault_from 2 1 (239 ∷ 187 ∷ 191 ∷ ascii "WINDOW\t0\t60\r\n") ≡ record { reason = 5; line = 1 }
