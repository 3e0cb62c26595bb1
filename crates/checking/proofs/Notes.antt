-- Laws of things told one behind the other.
use mathlib.Core.Path.{◌≡◌, refl, ap, ◌∙◌}
use mathlib.Core.List.{List, [], ◌∷◌, ◌++◌, append-nil}
use mathlib.Core.Bool.{Bool, true, false, cond}
use mathlib.Core.Logic.{◌⊎◌, inl, inr}
use Prim.Native.Nat.{ℕ, suc, ◌+◌, ◌-◌, ◌≤◌, ◌<◌}
use native.Mathlib.Omega.{arith}
use lib.Dec.{leb}
use lib.ListN.{length, take, length-append}
use borrow.Author.Tests.{le-leb, lt-leb}
use Rattle.lists.specs.inner.Stores.{Put}
use Rattle.lists.proofs.Stores.{put-length}
use Rattle.lists.proofs.Tests.{total}
use Rattle.printing.specs.inner.Parts.{FitsAt}
use Rattle.printing.proofs.Puts.{put_same, put_both}
use Rattle.outcomes.specs.Texts.{ascii}
use Rattle.outcomes.specs.Outcomes.{error_line}
use Rattle.checking.specs.declared.Pen.{Pen}
use Rattle.checking.specs.declared.reason.Reason.{Reason}
use Rattle.checking.specs.Faults.{Note, unless_note}
use Rattle.checking.specs.Check.{line_error, note_errors, more_error}
use Rattle.checking.specs.inner.Words.{reason_text}
use Rattle.checking.specs.inner.Notes.{counted, PenIn, Noted}
use Rattle.checking.proofs.Words.{error-few}
use Rattle.checking.proofs.Taking.{errors-join, take_none, take-join, take-few, told-left, counted-both}

-- ---- nothing is told
module _ (buf : List ℕ) (pen : Pen) (p : PenIn buf pen) where
  pub noted-none : Noted buf pen [] buf pen
  noted-none = record { put = rw (take_none (64 - pen.told)) (record { place = omega arith; stored = refl }); told = omega (arith, p.few); within = p }

  module _ (right : Bool) (number : ℕ) (words : List ℕ) where
    pub noted-right : right ≡ true → Noted buf pen (unless_note right number words) buf pen
    noted-right e = rw e noted-none

    -- no more is told, but that there is more
    pub noted-full : right ≡ false → 64 ≤ pen.told → Noted buf pen (unless_note right number words) buf (record { at = pen.at; told = 65 })
    noted-full e h =
        let z : 64 - pen.told ≡ 0 = omega arith in
        rw e
        (record {
          put = rw z (record { place = omega arith; stored = refl });
          told = omega arith;
          within = record { long = p.long; few = omega arith; at = omega (arith, p.at, p.few) };
        })

  -- ---- one is told
  pub note-room : (number : ℕ) (reason : Reason) → pen.told < 64 → FitsAt buf pen.at (line_error number (reason_text reason))
  note-room number reason h = record { fits = omega (arith, p.long, p.at, error-few number reason) }

  pub noted_one : (right : Bool) (number : ℕ) (reason : Reason) (last : List ℕ) (at : ℕ) → right ≡ false → pen.told < 64 → Put buf pen.at (line_error number (reason_text reason)) last at
      → Noted buf pen (unless_note right number (reason_text reason)) last (record { at = at; told = pen.told + 1 })
  noted_one right number reason last at e h q =
      let m : ℕ = 63 - pen.told in
      let z : 64 - pen.told ≡ suc m = omega arith in
      let x : Note = record { number = number; words = reason_text reason } in
      let t : take (64 - pen.told) (x ∷ []) ≡ x ∷ [] = rw z (ap (λ (l : List Note). x ∷ l) (take_none m)) in
      let w : note_errors (take (64 - pen.told) (x ∷ [])) ≡ line_error number (reason_text reason) = ap note_errors t ∙ append-nil (line_error number (reason_text reason)) in
      rw e
      (record {
        put = put_same buf pen.at _ _ last at q w;
        told = omega arith;
        within = record {
          long = omega (arith, p.long, put-length buf last _ pen.at at q);
          few = omega arith;
          at = omega (arith, q.place, p.at, error-few number reason);
        };
      })

  -- ---- a last line
  pub more-none : pen.told ≤ 64 → Put buf pen.at (more_error pen.told) buf pen.at
  unfolding more_error
  more-none h = rw (le-leb pen.told 64 h) (record { place = omega arith; stored = refl })

  pub more_room : FitsAt buf pen.at (error_line (ascii "more is wrong"))
  more_room = record { fits = omega (arith, p.long, p.at, p.few) }

  pub more-put : (last : List ℕ) (r : ℕ) → 64 < pen.told → Put buf pen.at (error_line (ascii "more is wrong")) last r → Put buf pen.at (more_error pen.told) last r
  unfolding more_error
  more-put last r h q = rw (lt-leb pen.told 64 h) q

-- ---- one behind the other
pub noted-then : (buf mid last : List ℕ) (pen q r : Pen) (xs ys : List Note) → Noted buf pen xs mid q → Noted mid q ys last r → Noted buf pen (xs ++ ys) last r
noted-then buf mid last pen q r xs ys a b =
    let m : ℕ = 64 - pen.told in
    let n : m - length (take m xs) ≡ 64 - q.told = told-left pen.told (length xs) q.told _ (take-few m xs) a.told in
    let t : take m (xs ++ ys) ≡ take m xs ++ take (64 - q.told) ys = take-join m xs ys ∙ ap (λ (k : ℕ). take m xs ++ take k ys) n in
    let e : note_errors (take m (xs ++ ys)) ≡ note_errors (take m xs) ++ note_errors (take (64 - q.told) ys) = ap note_errors t ∙ errors-join (take m xs) (take (64 - q.told) ys) in
    record {
      put = put_both buf pen.at _ _ mid q.at _ last r.at a.put b.put e;
      told =
          let x : pen.told + length xs + length ys ≡ pen.told + length (xs ++ ys) = omega (arith, length-append xs ys) in
          b.told ∙ ap (λ (n : ℕ). counted (n + length ys)) a.told ∙ counted-both (pen.told + length xs) (length ys) ∙ ap counted x;
      within = b.within;
    }

-- all are told, from the start
pub noted-all : (buf mid last : List ℕ) (pen : Pen) (xs : List Note) (r : ℕ) → Noted buf (record { at = 0; told = 0 }) xs mid pen → Put mid pen.at (more_error pen.told) last r
    → Put buf 0 (note_errors (take 64 xs) ++ more_error (length xs)) last r
unfolding more_error
noted-all buf mid last pen xs r a b = put_both buf 0 _ _ mid pen.at _ last r a.put b (ap (λ (l : List ℕ). note_errors (take 64 xs) ++ l) (go (total (length xs) 64)))
  where
    go : (length xs ≤ 64) ⊎ (64 < length xs) → more_error (length xs) ≡ more_error pen.told
    go (inl h) = rw (le-leb (length xs) 64 h, le-leb pen.told 64 (omega (arith, a.told)))
    go (inr h) = rw (lt-leb (length xs) 64 h, lt-leb pen.told 64 (omega (arith, a.told)))

-- a last line is short
pub more-few : (things : ℕ) → length (more_error things) ≤ 23
unfolding more_error
more-few things = go (leb things 64)
  where
    go : (v : Bool) → length (cond v [] (error_line (ascii "more is wrong"))) ≤ 23
    go true = omega arith
    go false = omega arith
