-- The pages of an array, made and set one by one.
use mathlib.Core.Path.{◌≡◌, refl, sym, ap, ap₂, ◌∙◌, subst}
use mathlib.Core.List.{List, [], ◌∷◌, ◌++◌, map}
use mathlib.Core.Bool.{Bool, true, false}
use Prim.Native.Nat.{ℕ, suc, ◌+◌, ◌-◌, ◌*◌, ◌≤◌, ◌<◌}
use native.Mathlib.Omega.{arith}
use native.Mathlib.Numerals.{add-one}
use lib.ListN.{length, take, drop, get_or, set, length-set}
use lib.Seq.{take-suc, take-suc-set, take_all, ext_get_or, get_or-set_same, get_or-set_other}
use lib.Dec.{eqb}
use borrow.Author.Tests.{eqb-true, eqb-false}
use Rattle.lists.specs.Lists.{upto}
use Rattle.lists.proofs.Kept.{map-++, length-upto, get_d-upto}
use Rattle.search.specs.Stops.{Stop}
use Rattle.paging.specs.Answers.{PageValues}
use Rattle.paging.specs.declared.Ticket.{Ticket}
use Rattle.geometry.specs.declared.Rect.{Rect}
use Rattle.paging.specs.Overlays.{Overlay}
use Rattle.paging.specs.Cursors.{ended_cursor}
use Rattle.pager.specs.Answers.{PagedAt}
use Rattle.rounds.specs.Rounds.{ticket_of}
use Rattle.rounds.proofs.Parts.{get_d_any}
use Rattle.rounds_code.specs.Parts.{empty_page, OneServed}

-- ---- pages that did nothing
module _ (stop : Stop) (tickets : List Ticket) where
  -- the first i pages are those of the first i tickets
  pub record Emptied (pages : List PageValues) (i : ℕ) : Type 0 where
    pub few : i ≤ 16
    pub long : length pages ≡ 16
    pub same : take i pages ≡ map (empty_page stop) (take i tickets)

  pub emptied-none : (pages : List PageValues) → length pages ≡ 16 → Emptied pages 0
  emptied-none pages h = record { few = omega arith; long = h; same = refl }

  pub emptied-more : (pages : List PageValues) (i : ℕ) → length tickets ≡ 16 → Emptied pages i → i < 16 → (d : Ticket) (p : PageValues) → p ≡ empty_page stop (get_or tickets i d) → Emptied (set pages i p) (i + 1)
  emptied-more pages i l e h d p q =
      let w = e.long in
      let z = add-one i in
      record {
        few = omega arith;
        long = length-set pages i p ∙ e.long;
        same =
            rw z
            (take-suc-set pages i p (omega arith) ∙ ap₂ (λ (a : List PageValues) (b : PageValues). a ++ b ∷ []) e.same q
            ∙ sym (map-++ (empty_page stop) (take i tickets) (get_or tickets i d ∷ []))
            ∙ ap (map (empty_page stop)) (sym (take-suc tickets i d (omega arith))));
      }

  pub emptied-all : (pages : List PageValues) (i : ℕ) → length tickets ≡ 16 → Emptied pages i → 16 ≤ i → pages ≡ map (empty_page stop) tickets
  emptied-all pages i l e h =
      sym (take_all i pages (omega (arith, e.long))) ∙ e.same ∙ ap (map (empty_page stop)) (take_all i tickets (omega arith))

-- ---- one page is set among those of all numbers
pub set-upto : {A : Type 0} (f g : ℕ → A) (n c : ℕ) (a : A) → 1 ≤ c → c ≤ n → a ≡ g c → ((t : ℕ) → 1 ≤ t → t ≤ n → (t ≡ c → ⊥) → g t ≡ f t) → set (upto f 1 n) (c - 1) a ≡ upto g 1 n
set-upto f g n c a low high e same =
    let l = length-upto f 1 n in
    let m = length-upto g 1 n in
    ext_get_or a (set (upto f 1 n) (c - 1) a) (upto g 1 n) (length-set (upto f 1 n) (c - 1) a ∙ l ∙ sym m)
    (λ i h. at i (omega (arith, length-set (upto f 1 n) (c - 1) a)))
  where
    at : (i : ℕ) → i < n → get_or (set (upto f 1 n) (c - 1) a) i a ≡ get_or (upto g 1 n) i a
    at i h = go (eqb i (c - 1)) refl
      where
        go : (b : Bool) → eqb i (c - 1) ≡ b → get_or (set (upto f 1 n) (c - 1) a) i a ≡ get_or (upto g 1 n) i a
        go true q =
            let z = eqb-true i (c - 1) q in
            let y : 1 + i ≡ c = omega arith in
            ap (λ (j : ℕ). get_or (set (upto f 1 n) (c - 1) a) j a) z ∙ get_or-set_same (upto f 1 n) (c - 1) a a (omega (arith, length-upto f 1 n)) ∙ e ∙ ap g (sym y) ∙ sym (get_d-upto g 1 n i a h)
        go false q =
            let z = eqb-false i (c - 1) q in
            get_or-set_other (upto f 1 n) (c - 1) i a a z ∙ get_d-upto f 1 n i a h ∙ sym (same (1 + i) (omega arith) (omega arith) (λ y. z (omega arith))) ∙ sym (get_d-upto g 1 n i a h)

-- ---- one page call, with its counter and its part
pub one-served : (o : Overlay Rect) (tickets : List Ticket) (at size budget : ℕ) (held lent : List ℕ) (d : Ticket) (a b : ℕ) → at < length tickets → a ≡ 1 → b ≡ size → (r : PageValues) (counted filled : List ℕ)
    → PagedAt o (get_or tickets at d) (take a (drop at held)) budget (take b (drop (at * size) lent)) r counted filled
    → OneServed o (ticket_of tickets (suc at)) at size budget held lent r (take at held ++ (counted ++ drop a (drop at held))) (take (at * size) lent ++ (filled ++ drop b (drop (at * size) lent)))
one-served o tickets at size budget held lent d a b l x y r counted filled h =
    let z : suc at - 1 ≡ at = omega arith in
    let e : get_or tickets at d ≡ ticket_of tickets (suc at) = get_d_any tickets at d _ l ∙ ap (λ (i : ℕ). get_or tickets i (record { cursor = ended_cursor; count = 0 })) (sym z) in
    let p = subst (λ (t : Ticket). PagedAt o t (take a (drop at held)) budget (take b (drop (at * size) lent)) r counted filled) e h in
    let p₁ = subst (λ (i : ℕ). PagedAt o (ticket_of tickets (suc at)) (take i (drop at held)) budget (take b (drop (at * size) lent)) r counted filled) x p in
    let p₂ = subst (λ (i : ℕ). PagedAt o (ticket_of tickets (suc at)) (take 1 (drop at held)) budget (take i (drop (at * size) lent)) r counted filled) y p₁ in
    record {
      counted = counted;
      filled = filled;
      page = p₂;
      counters = ap (λ (i : ℕ). take at held ++ (counted ++ drop i (drop at held))) x;
      table = ap (λ (i : ℕ). take (at * size) lent ++ (filled ++ drop i (drop (at * size) lent))) y;
    }
