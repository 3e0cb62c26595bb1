-- Laws of what `pairs` answers: the room for it, and which outcome it is.
use mathlib.Core.Path.{◌≡◌, sym, ap}
use mathlib.Core.List.{List, [], ◌∷◌, ◌++◌, flat_map}
use Prim.Native.Nat.{ℕ, ◌+◌, ◌*◌, ◌≤◌, ◌<◌}
use native.Mathlib.Omega.{arith}
use lib.IntN.{ℤ}
use lib.ListN.{length, take, length-append}
use borrow.Author.Tests.{le-leb, lt-leb}
use Rattle.lists.specs.Lists.{sum}
use Rattle.lists.specs.inner.Stores.{Put}
use Rattle.lists.proofs.Stores.{put-length}
use Rattle.decimal.specs.Numerals.{decimal}
use Rattle.plan.specs.declared.Shape.{Shape}
use Rattle.plan.specs.Plan.{Sound}
use Rattle.text.specs.Reader.{ReadValues}
use Rattle.printing.specs.Lines.{line_of}
use Rattle.printing.proofs.Puts.{put_both}
use Rattle.outcomes.specs.declared.Reply.{Reply}
use Rattle.outcomes.specs.Texts.{ascii}
use Rattle.outcomes.specs.Outcomes.{Told, misused, done_reply}
use Rattle.outcomes.specs.inner.Rooms.{Room}
use Rattle.outcomes.proofs.Outcomes.{told_same, told-done}
use Rattle.asking.specs.Pairs.{pair_rows}
use Rattle.asking.specs.Lines.{two_line, count_line, pair_lines}
use Rattle.asking.specs.Answers.{pairs_outcome, pairs_of}
use Rattle.asking_runs_code.specs.declared.Listed.{Listed}
use Rattle.asking_code.specs.Parts.{TextRead}
use Rattle.asking_runs_code.specs.Listing.{Listable, Lists}
use Rattle.asking_code.proofs.Texts.{read-plan}
use Rattle.asking_code.proofs.NearLines.{few}
use Rattle.asking_runs_code.proofs.PairTotals.{rows_few, lines-few}

-- the number of a layer past k
pub no-layer-told : (s : Shape) (cells : List ℤ) (layer : ℕ) (words : List ℕ) → s.k < layer → words ≡ ascii "the plan has no layer of this number" → pairs_outcome s cells layer ≡ misused words
unfolding pairs_outcome
no-layer-told s cells layer words h e = rw (lt-leb layer s.k h, e)

count-few : (n : ℕ) → length (count_line n) ≤ 30
unfolding count_line line_of
count-few n = omega (arith, few n, length-append (decimal n) (10 ∷ []))

-- nothing is listed yet
abbrev start : Listed
start = record { at = 0; rows = 0 }

module _ (s : Shape) (cells : List ℤ) (layer : ℕ) (sound : Sound s cells) (out err : List ℕ) (room : Room out err) where
  pub all-listable : Listable (two_line s cells) (pair_rows s cells layer) out start
  all-listable = record {
    fits = record { fits = omega (arith, room.answer, lines-few s cells sound layer) };
    few = omega (arith, rows_few s cells sound layer);
  }

  module _ (mid : List ℕ) (r : Listed) (l : Lists (two_line s cells) (pair_rows s cells layer) out start mid r) where
    pub count_room : r.at + length (count_line r.rows) ≤ length mid
    count_room = omega (
      arith,
      room.answer,
      l.put.place,
      lines-few s cells sound layer,
      count-few r.rows,
      put-length out mid _ 0 r.at l.put,
    )

    pub pairs-told : (last : List ℕ) (n : ℕ) → layer ≤ s.k → Put mid r.at (count_line r.rows) last n
        → Told (pairs_outcome s cells layer) out err last err (done_reply n)
    unfolding pairs_outcome
    pairs-told last n h p =
        let rows = pair_rows s cells layer in
        let lines = flat_map (two_line s cells) rows in
        let c : r.rows ≡ length rows = omega (arith, l.count) in
        let few_bytes : length (pair_lines s cells layer) ≤ length out =
        omega (arith, room.answer, lines-few s cells sound layer, count-few (length rows), length-append lines (count_line (length rows))) in
        rw (le-leb layer s.k h)
        (told-done out err (pair_lines s cells layer) last n few_bytes (put_both out 0 lines (count_line r.rows) mid r.at (pair_lines s cells layer) last n l.put p (ap (λ (m : ℕ). lines ++ count_line m) (sym c))))

-- what is told of a plan that was read is told of its text
pub pairs-read : (t : List ℕ) (r : ReadValues) (lent : List ℤ) → TextRead t r lent → r.number ≡ 0 → (n : ℕ) → n ≡ sum r.shape.sizes → (out err out_after errAfter : List ℕ) (reply : Reply)
    (layer : ℕ) → Told (pairs_outcome r.shape (take (4 * n) lent) layer) out err out_after errAfter reply → Told (pairs_of t layer) out err out_after errAfter reply
pairs-read t r lent read h n e out err out_after errAfter reply layer k =
    told_same _ out err out_after errAfter reply _ k (read-plan t r lent read h n e (λ s cells. pairs_outcome s cells layer))
