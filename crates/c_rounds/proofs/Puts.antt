-- Parts of one size that are put into a buffer one behind the other, and read from it.
use mathlib.Core.Path.{◌≡◌, refl, sym, ap, ap₂, ◌∙◌}
use mathlib.Core.List.{List, [], ◌∷◌, ◌++◌, map, append-nil}
use mathlib.Core.Bool.{cond}
use mathlib.Core.Logic.{◌⊎◌, inl, inr}
use borrow.Author.Tests.{lt-ltb, le-ltb, le-leb, lt-leb}
use Prim.Native.Nat.{ℕ, zero, suc, ◌+◌, ◌-◌, ◌*◌, ◌≤◌, ◌<◌}
use native.Mathlib.Numerals.{towards_suc}
use native.Mathlib.Omega.{arith}
use Rattle.std.proofs.lemmas.List.{append_assoc}
use lib.Dec.{leb, ltb}
use lib.ListN.{length, get_or, get_or-map, set, take, drop, length-append, length-map, length-take, length-drop, drop_of_length-le}
use lib.Seq.{drop-cons, take_all, take_at, sets-eq}
use Rattle.lists.specs.Lists.{each, upto}
use Rattle.lists.proofs.Tests.{total}
use Rattle.paging.specs.Cursors.{ended_cursor}
use Rattle.rounds.specs.Rounds.{idle_page}
use Rattle.paging.specs.declared.Page.{Page}
use Rattle.paging.specs.Answers.{PageValues, page_told}
use Rattle.paging.specs.declared.Ticket.{Ticket}
use Rattle.rounds.proofs.Parts.{get_d_any, each-split}
use Rattle.c_cells.specs.Cells.{ticket_cells}
use Rattle.c_rounds.specs.RoundCells.{twelve_of, page_in, tickets_after}

module _ {A : Type 0} where
  -- ---- all parts
  module _ (size n : ℕ) (f : ℕ → List A) where
    -- the first i parts stand at the start
    pub record Filled (buf : List A) (i : ℕ) : Type 0 where
      pub long : length buf ≡ n * size
      pub same : take (i * size) buf ≡ each f 1 i

    pub filled_none : (buf : List A) → length buf ≡ n * size → Filled buf 0
    filled_none buf h = let z : 0 * size ≡ 0 = omega arith in record { long = h; same = rw z }

    pub filled_more : (buf : List A) (i : ℕ) → Filled buf i → (part : List A) → part ≡ f (1 + i) → length part ≡ size → i * size + size ≤ length buf
        → Filled (take (i * size) buf ++ (part ++ drop (i * size + size - i * size) (drop (i * size) buf))) (i + 1)
    filled_more buf i w part e l h =
        let x : (i + 1) * size ≡ i * size + size = omega arith in
        let rest = drop (i * size + size - i * size) (drop (i * size) buf) in
        let front : length (take (i * size) buf) ≡ i * size = length-take (i * size) buf ∙ omega arith in
        let both : length (take (i * size) buf ++ part) ≡ (i + 1) * size = length-append (take (i * size) buf) part ∙ omega arith in
        let joined = sym (append_assoc (take (i * size) buf) part rest) in
        record {
          long = ap length joined ∙ length-append (take (i * size) buf ++ part) rest ∙ omega (arith, both, length-drop (i * size + size - i * size) (drop (i * size) buf), length-drop (i * size) buf, w.long, h);
          same = ap (take ((i + 1) * size)) joined ∙ take_at (take (i * size) buf ++ part) rest ((i + 1) * size) both ∙ ap₂ ◌++◌ w.same e ∙ sym (each-split f 1 i 0 ∙ ap (λ (l : List A). each f 1 i ++ l) (append-nil (f (1 + i))));
        }

    pub filled-all : (buf : List A) (i : ℕ) → n ≡ i → Filled buf i → buf ≡ each f 1 n
    filled-all buf i h w = sym (take_all (i * size) buf (omega (arith, w.long, ap (λ (j : ℕ). j * size) h))) ∙ w.same ∙ ap (each f 1) (sym h)

  -- ---- reading
  pub read-cells : (d : A) (n start : ℕ) (l : List A) → start + n ≤ length l → upto (λ j. get_or l j d) start n ≡ take n (drop start l)
  read-cells d zero start l h = sym (take-zero (drop start l))
    where
      take-zero : (k : List A) → take 0 k ≡ []
      take-zero k = refl
  read-cells d (suc n) start l h = rw (drop-cons l start d (omega arith)) (ap (λ (r : List A). get_or l start d ∷ r) (read-cells d n (suc start) l (omega arith)))

-- twelve cells, read one by one
pub twelve-read : (l : List ℕ) (at : ℕ) → at + 12 ≤ length l
    → get_or l at 0 ∷ get_or l (at + 1) 0 ∷ get_or l (at + 2) 0 ∷ get_or l (at + 3) 0 ∷ get_or l (at + 4) 0 ∷ get_or l (at + 5) 0 ∷ get_or l (at + 6) 0 ∷ get_or l (at + 7) 0 ∷ get_or l (at + 8) 0 ∷ get_or l (at + 9) 0 ∷ get_or l (at + 10) 0 ∷ get_or l (at + 11) 0 ∷ []
    ≡ take 12 (drop at l)
twelve-read l at h =
    let e₉ : at + 9 ≡ suc (suc (suc (suc (suc (suc (suc (suc (suc (at))))))))) = omega arith in
    let e₁₀ : at + 10 ≡ suc (suc (suc (suc (suc (suc (suc (suc (suc (suc (at)))))))))) = omega arith in
    let e₁₁ : at + 11 ≡ suc (suc (suc (suc (suc (suc (suc (suc (suc (suc (suc (at))))))))))) = omega arith in
    simp (towards_suc, e₉, e₁₀, e₁₁) (read-cells 0 12 at l h)

-- ---- the parts of a round
-- the page at a place, from 0
pub page-at : (pages : List PageValues) (i : ℕ) (d : PageValues) → i < length pages → get_or pages i d ≡ page_in pages (1 + i)
page-at pages i d h = let z : 1 + i - 1 ≡ i = omega arith in get_d_any pages i d _ h ∙ ap (λ (j : ℕ). get_or pages j (idle_page (record { cursor = ended_cursor; count = 0 }))) (sym z)

-- the same of the code's pages
pub page-told : (pages : List Page) (i : ℕ) (d : Page) → i < length pages → page_told (get_or pages i d) ≡ page_in (map page_told pages) (1 + i)
page-told pages i d h = sym (get_or-map page_told pages i d) ∙ page-at (map page_told pages) i (page_told d) (omega (arith, length-map pages page_told))

-- the ticket's cells at a place, from 0
pub twelve-at : (cells : List ℕ) (i : ℕ) → take 12 (drop (i * 12) cells) ≡ twelve_of cells (1 + i)
twelve-at cells i = let z : 1 + i - 1 ≡ i = omega arith in ap (λ (j : ℕ). take 12 (drop (j * 12) cells)) (sym z)

pub twelve-after : (given : List ℕ) (m i : ℕ) (due : Ticket) (pages : List PageValues) → due ≡ (page_in pages (1 + i)).ticket
    → cond (ltb i m) (ticket_cells due) (take 12 (drop (i * 12) given)) ≡ cond (leb (1 + i) m) (ticket_cells (page_in pages (1 + i)).ticket) (twelve_of given (1 + i))
twelve-after given m i due pages e = go (total (1 + i) m)
  where
    go : (1 + i ≤ m) ⊎ (m < 1 + i) → cond (ltb i m) (ticket_cells due) (take 12 (drop (i * 12) given)) ≡ cond (leb (1 + i) m) (ticket_cells (page_in pages (1 + i)).ticket) (twelve_of given (1 + i))
    go (inl h) = rw (lt-ltb i m (omega arith), le-leb (1 + i) m h) (ap ticket_cells e)
    go (inr h) = rw (le-ltb i m (omega arith), lt-leb (1 + i) m h) (twelve-at given i)

-- the tickets' cells after a refusal, and after a round
pub after-refused : (given : List ℕ) (m number : ℕ) (pages : List PageValues) → (number ≡ 0 → ⊥) → given ≡ tickets_after given m number pages
unfolding tickets_after
after-refused given m zero pages h = absurd (h refl)
after-refused given m (suc n) pages h = refl

pub after-given : (given : List ℕ) (m number : ℕ) (pages : List PageValues) → number ≡ 0 → (cells : List ℕ) → cells ≡ each (λ t. cond (leb t m) (ticket_cells (page_in pages t).ticket) (twelve_of given t)) 1 16 → cells ≡ tickets_after given m number pages
unfolding tickets_after
after-given given m number pages z cells e = rw z e
