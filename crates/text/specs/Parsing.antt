-- The lines of a whole text, read from its start.
use Rattle.std.specs.Prelude.{List, [], ◌∷◌, cond, ℕ, zero, suc, length}
use Rattle.std.proofs.Math.Option.{Option, none, some}
use Rattle.line.specs.declared.Line.{Line}
use Rattle.line.specs.Parsing.{next, line}
use Rattle.text.specs.Spelling.{headed}

-- a text is at its end, or it has a line, and g reads on behind it
abbrev pub lines_by : (List ℕ → Option (List Line)) → List ℕ → Option (List Line)
lines_by g [] = some []
lines_by g (b ∷ t) = next (line (b ∷ t)) (λ l. next (g l.1) (λ ls. some (l.0 ∷ ls)))

-- the lines of a whole text that has at most f of them
abbrev pub lines_in : ℕ → List ℕ → Option (List Line)
lines_in zero = lines_by (λ r. none)
lines_in (suc f) = lines_by (lines_in f)

-- the lines of a whole text: there are no more of them than bytes
abbrev pub all_lines : List ℕ → Option (List Line)
all_lines t = lines_in (length t) t

-- 01: "The text is well formed when it is a PLAN line followed by any LAYER and RECT lines so spelled": its lines, where it is (specs/Theorems.antt, `Formed`)
unfoldable pub lines_of : List ℕ → Option (List Line)
lines_of t = next (all_lines t) (λ ls. cond (headed ls) (some ls) none)
