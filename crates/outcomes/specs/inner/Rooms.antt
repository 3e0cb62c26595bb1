-- What the functions that put outcomes ask of their callers; no public call's contract cites it.
use Rattle.std.specs.Prelude.{List, ℕ, ◌≤◌, length}

-- room for every answer: 15 pairs of layers, 262,144 rows each, at most 42 bytes a line, and the total
abbrev pub room_for_all : ℕ
room_for_all = 167772160

-- room for every line on standard error
abbrev pub room_for_words : ℕ
room_for_words = 65536

-- the two buffers have room for every outcome
pub record Room (out err : List ℕ) : Type 0 where
  pub answer : room_for_all ≤ length out
  pub words : room_for_words ≤ length err
