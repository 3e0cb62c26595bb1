-- Runs of cells, or of bytes, put into a buffer; no public call's contract cites this.
use Rattle.std.specs.Prelude.{◌≡◌, List, ℕ, ◌+◌, length}
use Rattle.std.proofs.lemmas.List.Edits.{sets}

-- `cells` put into `buf` from `at` on, and nothing else: `last` is the buffer then, and r the place behind them
pub record Put {A : Type 0} (buf : List A) (at : ℕ) (cells last : List A) (r : ℕ) : Type 0 where
  pub place : r ≡ at + length cells
  pub stored : last ≡ sets buf at cells
