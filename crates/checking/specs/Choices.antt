-- Theorem: which of two things `check` tells of a line, and the numbers where each thing begins. Proved in proofs/Choices.antt.
use Rattle.std.specs.Prelude.{◌≡◌, List, [], ◌∷◌, ◌++◌, ℕ, ℤ, pos, neg_ℤ}
use Prim.Native.String.{String}
use Rattle.geometry.specs.declared.Rect.{Rect}
use Rattle.outcomes.specs.Texts.{ascii}
use Rattle.checking.specs.Reasons.{byte_order_mark}
use Rattle.checking.specs.Faults.{Note, layer_faults, side_faults, plan_faults}
use Rattle.checking.specs.Cases.{Errs, not_the_numbers, a_space, other_word}

-- 9: the first of the usual things that a line has
pub record Choices : Type 0 where
  -- the first of two things that a line has
  pub mark_return : Errs (byte_order_mark ++ ascii "PLAN\t2\r\n") (ascii "line 1: a byte order mark")
  pub return_blank : Errs (ascii "\r\n") (ascii "line 1: a carriage return")
  pub return_space : Errs (ascii "PLAN 2\r\n") (ascii "line 1: a carriage return")
  pub return_end : Errs (ascii "PLAN\t2\r") (ascii "line 1: a carriage return")
  -- a line in the wrong place is told of where it is well formed
  pub place_first : Errs (ascii "RECT\t0\t0\t1\t1\n") (ascii "line 1: the first line is no PLAN line")
  pub fields_first : Errs (ascii "LAYER\t0\n") (ascii "line 1: a LAYER line with one number")
  -- the word, a space, a plus, a point, a leading zero, nine digits, one number, no line end
  pub word_plus : Errs (ascii "ZONE\t+1\n") (ascii "line 1: " ++ other_word)
  pub word_end : Errs (ascii "ZONE") (ascii "line 1: " ++ other_word)
  pub space_plus : Errs (ascii "PLAN\t+2 \n") (ascii "line 1: " ++ a_space)
  pub plus_point : Errs (ascii "PLAN\t1.5+\n") (ascii "line 1: a number with a plus")
  pub point_zero : Errs (ascii "PLAN\t00.5\n") (ascii "line 1: a number with a point")
  pub zero_nine : Errs (ascii "PLAN\t0123456789\n") (ascii "line 1: a number with a leading zero")
  pub zero_one : Errs (ascii "PLAN\t2\nLAYER\t07\n") (ascii "line 2: a number with a leading zero")
  pub nine_one : Errs (ascii "PLAN\t2\nLAYER\t123456789\n") (ascii "line 2: a number of nine digits or more")
  pub nine_end : Errs (ascii "PLAN\t123456789") (ascii "line 1: a number of nine digits or more")
  pub one_end : Errs (ascii "PLAN\t2\nLAYER\t5") (ascii "line 2: no line end at the end of the text")
  -- eight digits are a number, 0 and 10 have no leading zero
  pub eight_digits : Errs (ascii "PLAN\t12345678x\n") (ascii "line 1: " ++ not_the_numbers)
  pub zeros : Errs (ascii "PLAN\t10x\n") (ascii "line 1: " ++ not_the_numbers)
  pub zero : Errs (ascii "PLAN\t0x\n") (ascii "line 1: " ++ not_the_numbers)

-- one thing, told of a line
abbrev pub note : (number : ℕ) → String → List Note
note number words = record { number = number; words = ascii words } ∷ []

abbrev pub out_of_range : String
out_of_range = "a coordinate above 10000000 or below -10000000"

-- a rectangle by its sides
abbrev pub rect : (left bottom right top : ℤ) → Rect
rect left bottom right top = record { left = left; bottom = bottom; right = right; top = top }

-- 10: what is told of a line's numbers
pub record Boundaries : Type 0 where
  -- 02, Q-4: sizes 0 to 512, margins 0 to 50,000
  pub least : layer_faults 2 (pos 0) (pos 0) ≡ []
  pub most : layer_faults 2 (pos 512) (pos 50000) ≡ []
  pub size_above : layer_faults 2 (pos 513) (pos 0) ≡ note 2 "a layer of more than 512 rectangles, or fewer than 0"
  pub size_below : layer_faults 2 (neg_ℤ (pos 1)) (pos 0) ≡ note 2 "a layer of more than 512 rectangles, or fewer than 0"
  pub margin_above : layer_faults 2 (pos 0) (pos 50001) ≡ note 2 "a margin above 50000 or below 0"
  pub margin_below : layer_faults 2 (pos 0) (neg_ℤ (pos 1)) ≡ note 2 "a margin above 50000 or below 0"
  -- 2 to 6 layers, and as many LAYER lines
  pub two : plan_faults (pos 2) 2 ≡ []
  pub six : plan_faults (pos 6) 6 ≡ []
  pub one : plan_faults (pos 1) 1 ≡ note 1 "a plan of fewer than 2 layers, or more than 6"
  pub seven : plan_faults (pos 7) 7 ≡ note 1 "a plan of fewer than 2 layers, or more than 6"
  pub another : plan_faults (pos 6) 7 ≡ note 1 "the PLAN line says another number of LAYER lines"
  -- 02, Q-13: coordinates up to 10,000,000 either way of 0; equal sides are in order
  pub widest : side_faults 3 (rect (neg_ℤ (pos 10000000)) (neg_ℤ (pos 10000000)) (pos 10000000) (pos 10000000)) ≡ []
  pub point : side_faults 3 (rect (pos 5) (pos 6) (pos 5) (pos 6)) ≡ []
  pub left_below : side_faults 3 (rect (neg_ℤ (pos 10000001)) (pos 0) (pos 0) (pos 0)) ≡ note 3 out_of_range
  pub bottom_below : side_faults 3 (rect (pos 0) (neg_ℤ (pos 10000001)) (pos 0) (pos 0)) ≡ note 3 out_of_range
  pub right_above : side_faults 3 (rect (pos 0) (pos 0) (pos 10000001) (pos 0)) ≡ note 3 out_of_range
  pub top_above : side_faults 3 (rect (pos 0) (pos 0) (pos 0) (pos 10000001)) ≡ note 3 out_of_range
  pub left_above : side_faults 3 (rect (pos 1) (pos 0) (pos 0) (pos 0)) ≡ note 3 "left above right"
  pub bottom_above : side_faults 3 (rect (pos 0) (pos 1) (pos 0) (pos 0)) ≡ note 3 "bottom above top"
