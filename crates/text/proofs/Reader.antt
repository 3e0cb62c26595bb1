-- What the reader's answer says of its buffer.
use mathlib.Core.Path.{◌≡◌, refl, sym, ap, ◌∙◌}
use mathlib.Core.List.{List, ◌++◌}
use Prim.Native.Nat.{ℕ, zero, suc}
use lib.IntN.{ℤ}
use lib.ListN.{length, drop}
use Rattle.std.specs.Prelude.{Ok, Err}
use Rattle.lists.specs.inner.Stores.{Put}
use Rattle.lists.proofs.Stores.{put-start}
use Rattle.text.specs.declared.Decision.{Decision}
use Rattle.text.specs.Reader.{read_cause, text_cells, read_answer, cells_after}
use Rattle.text.specs.inner.Filling.{rest_cells, Taken}

module _ (t : List ℕ) (cells : List ℤ) where
  pub read-refused : (n : ℕ) → (n ≡ 0 → ⊥) → n ≡ read_cause (length cells) t
      → (Err n ≡ read_answer (length cells) t) × (cells ≡ cells_after t cells)
  read-refused zero h e = absurd (h refl)
  read-refused (suc n) h e = rw (← e) (refl, refl)

  pub read-accepted : (d : Decision) (last : List ℤ) (r : ℕ) → Taken t (length cells) d → Put cells 0 (rest_cells (drop d.next t)) last r
      → (Ok d.shape ≡ read_answer (length cells) t) × ((0 ≡ read_cause (length cells) t) × (last ≡ cells_after t cells))
  read-accepted d last r p q =
      let w = put-start cells last (rest_cells (drop d.next t)) r p.room.fits q in
      let x : last ≡ text_cells t ++ drop (length (text_cells t)) cells = w ∙ ap (λ (l : List ℤ). l ++ drop (length l) cells) p.cells in
      (rw (p.passed, p.shape), (sym p.passed, rw p.passed x))
