-- The kinds of bytes that the code tells apart where it reads a number; no public call's contract cites them. 01: "minus, zero, 1 to 9, tab, line end,
-- anything else"
use Rattle.std.specs.Prelude.{Bool, true, false, cond, ◌&&◌, ℕ, eqb, leb}
use Rattle.decimal.specs.declared.Kind.{Kind}
use Rattle.decimal.specs.declared.Kind.TheVariants.{Minus, Zero, Digit, Tab, End, Other}

-- the kind of a byte, by its range
unfoldable pub kind_of : ℕ → Kind
kind_of b =
    cond (eqb b 45) Minus
    (cond (eqb b 48) Zero
    (cond (leb 49 b && leb b 57) Digit
    (cond (eqb b 9) Tab
    (cond (eqb b 10) End Other))))

-- a digit 0 to 9
abbrev pub is_digit : Kind → Bool
is_digit Minus = false
is_digit Zero = true
is_digit Digit = true
is_digit Tab = false
is_digit End = false
is_digit Other = false
