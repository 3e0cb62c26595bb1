-- The first line at a place of a text, as the code finds it; no public call's contract cites it.
use Rattle.std.specs.Prelude.{◌≡◌, List, [], ◌∷◌, cond, ℕ, suc, ◌-◌, ◌≤◌, eqb, length, take, drop}
use Rattle.lists.specs.inner.Stores.{Put}
use Rattle.outcomes.specs.inner.Rooms.{room_for_words}
use Rattle.checking.specs.declared.Spot.{Spot}
use Rattle.checking.specs.Lines.{bad_line}

-- the first line of a text, with the byte 10 that ends it, if it has one
abbrev pub first_line : List ℕ → List ℕ
first_line [] = []
first_line (b ∷ t) = cond (eqb b 10) (b ∷ []) (b ∷ first_line t)

-- the bytes behind it
abbrev pub after_line : List ℕ → List ℕ
after_line [] = []
after_line (b ∷ t) = cond (eqb b 10) t (after_line t)

-- the first line that is not well formed stands there
pub record Spotted (s : List ℕ) (r : Spot) : Type 0 where
  pub line : bad_line s ≡ record { number = r.number; bytes = first_line (drop r.at s) }
  pub inside : r.at ≤ length s
  pub few : r.number ≤ suc r.at

-- the line at a place ends at r
pub record EndsAt (s : List ℕ) (at r : ℕ) : Type 0 where
  pub bytes : take (r - at) (drop at s) ≡ first_line (drop at s)
  pub after : at ≤ r
  pub inside : r ≤ length s

-- lines are put at the start of the buffer for standard error, which has room for them
pub record PutWords (err lines last : List ℕ) (r : ℕ) : Type 0 where
  pub put : Put err 0 lines last r
  pub few : length lines ≤ room_for_words
