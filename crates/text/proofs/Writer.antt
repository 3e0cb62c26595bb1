-- What the writer's answer says of its buffer.
use mathlib.Core.Path.{◌≡◌, refl, sym}
use mathlib.Core.List.{List}
use Prim.Native.Nat.{ℕ, zero, suc, ◌≤◌, ◌<◌}
use native.Mathlib.Omega.{arith}
use lib.IntN.{ℤ}
use lib.ListN.{length}
use borrow.Author.Tests.{le-leb, lt-leb}
use Rattle.plan.specs.declared.Shape.{Shape}
use Rattle.plan.specs.Plan.{plan_cause}
use Rattle.lists.specs.inner.Stores.{Put}
use Rattle.lists.proofs.Stores.{put-start}
use Rattle.std.specs.Prelude.{Result, Ok, Err}
use Rattle.text.specs.Plans.{text_of}
use Rattle.text.specs.Writer.{write_cause, write_answer, number_said, buffer_after}

module _ (s : Shape) (cells : List ℤ) (buf : List ℕ) where
  -- what the contract says of an answer and of the buffer afterwards
  abbrev Answered : Result ℕ ℕ → List ℕ → Type 0
  Answered w after =
      (w ≡ write_answer s cells (length buf)) × ((number_said w ≡ write_cause s cells (length buf)) × (after ≡ buffer_after s cells buf))

  refused : (cause : ℕ) → (cause ≡ 0 → ⊥) → write_cause s cells (length buf) ≡ cause → Answered (Err cause) buf
  refused zero n e = absurd (n refl)
  refused (suc cause) n e = rw e (refl, (refl, refl))

  pub unsound : (cause : ℕ) → (cause ≡ 0 → ⊥) → cause ≡ plan_cause s cells → Answered (Err cause) buf
  unfolding write_cause
  unsound zero n e = absurd (n refl)
  unsound (suc cause) n e = refused (suc cause) n (rw (sym e))

  module _ (sound : 0 ≡ plan_cause s cells) (size : ℕ) (long : size ≡ length (text_of s cells)) where
    pub too_long : length buf < size → Answered (Err 12) buf
    unfolding write_cause
    too_long h = refused 12 (λ z. omega arith) (rw (sym sound, lt-leb (length (text_of s cells)) (length buf) (omega arith)))

    pub written : (last : List ℕ) (r : ℕ) → size ≤ length buf → Put buf 0 (text_of s cells) last r → Answered (Ok size) last
    unfolding write_cause
    written last r h p =
        let e : write_cause s cells (length buf) ≡ 0 = rw (sym sound, le-leb (length (text_of s cells)) (length buf) (omega arith)) in
        let w = put-start buf last (text_of s cells) r (omega arith) p in
        rw (e, long) (refl, (refl, w))
