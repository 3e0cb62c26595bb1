-- What a pen writes: bytes from its place on, and nothing else; no public call's contract cites this.
use Rattle.std.specs.Prelude.{List, ℕ, ◌+◌, ◌≤◌, length}
use Rattle.std.proofs.lemmas.List.Edits.{sets}
use Rattle.pens.specs.declared.Pen.{Pen}

-- where the next byte goes
unfoldable pub place : Pen → ℕ
place p = p.at

-- how many bytes its buffer has
unfoldable pub capacity : Pen → ℕ
capacity p = length p.buf.now

-- there is room for bytes
abbrev pub RoomFor : Pen → List ℕ → Type 0
RoomFor p bytes = place p + length bytes ≤ capacity p

-- the pen once bytes are written
unfoldable pub wrote : Pen → List ℕ → Pen
wrote p bytes = record p { buf = record p.buf { now = sets p.buf.now p.at bytes }; at = p.at + length bytes }
