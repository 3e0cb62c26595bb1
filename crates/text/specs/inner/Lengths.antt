-- The length of the LAYER lines of a text; no public call's contract cites it.
use Rattle.std.specs.Prelude.{List, [], ◌∷◌, ℕ, ◌+◌, pos, length}
use Rattle.line.specs.declared.Line.TheVariants.{Layer}
use Rattle.line.specs.Lines.{spell_to}

-- the length of the LAYER lines of these sizes and margins
abbrev pub layers_length : (sizes margins : List ℕ) → ℕ
layers_length [] ms = 0
layers_length (n ∷ ns) [] = 0
layers_length (n ∷ ns) (m ∷ ms) = length (spell_to (Layer (pos n) (pos m)) []) + layers_length ns ms
