-- The last accepted call of a list is the search's.
use mathlib.Core.Path.{◌≡◌, refl, sym, ap, ◌∙◌, subst}
use mathlib.Core.List.{List, [], ◌∷◌, ◌++◌}
use mathlib.Core.Option.{none, some}
use mathlib.Core.Logic.{◌⊎◌, inl, inr}
use Prim.Native.Nat.{ℕ, zero, suc}
use native.Mathlib.Omega.{arith}
use lib.Dec.{eqb}
use lib.ListN.{length, length-append}
use borrow.Author.Tests.{eq-eqb, ne_eqb}
use Rattle.lists.specs.Lists.{All, none_left, ◌and◌}
use Rattle.lists.proofs.Kept.{keep-++}
use Rattle.search.proofs.Chains.{last_of}
use Rattle.paging.specs.Overlays.{Overlay}
use Rattle.paging.specs.Theorems.{Call, cause}
use Rattle.demands.specs.Theorems.{accepted, last_or, Last}
use Rattle.paging.proofs.Calls.{page_on, answered, answered-none, answered-some}

-- a call that is refused
abbrev pub Declined : Call → Type 0
Declined x = cause x ≡ 0 → ⊥

-- where the last accepted call of a list stands
pub record LastAt (xs : List Call) (x : Call) : Type 0 where
  pub before : List Call
  pub behind : List Call
  pub is : xs ≡ before ++ x ∷ behind
  pub accepted : cause x ≡ 0
  pub none_after : All Declined behind

-- a list has a last accepted call, or each of its calls is refused
pub last-or-none : (xs : List Call) → All Declined xs ⊎ ((x : Call) × LastAt xs x)
last-or-none [] = inl none_left
last-or-none (x ∷ xs) = go (cause x) refl (last-or-none xs)
  where
    go : (c : ℕ) → cause x ≡ c → All Declined xs ⊎ ((y : Call) × LastAt xs y) → All Declined (x ∷ xs) ⊎ ((y : Call) × LastAt (x ∷ xs) y)
    go zero e (inl n) = inr (x, record { before = []; behind = xs; is = refl; accepted = e; none_after = n })
    go (suc c) e (inl n) = let r : Declined x = λ z. omega arith in inl (◌and◌ r n)
    go c e (inr y) =
        let l = y.1 in
        inr (y.0, record { before = x ∷ l.before; behind = l.behind; is = ap (λ (ys : List Call). x ∷ ys) l.is; accepted = l.accepted; none_after = l.none_after })

-- ---- accepted calls
pub counts : (x : Call) (xs : List Call) → cause x ≡ 0 → accepted (x ∷ xs) ≡ x ∷ accepted xs
counts x xs e = rw (eq-eqb (cause x) 0 e)

pub counts-not : (x : Call) (xs : List Call) → Declined x → accepted (x ∷ xs) ≡ accepted xs
counts-not x xs n = rw (ne_eqb (cause x) 0 n)

none-accepted : {xs : List Call} → All Declined xs → accepted xs ≡ []
none-accepted none_left = refl
none-accepted (◌and◌ {a = x} {l = xs} n ns) = counts-not x xs n ∙ none-accepted ns

-- the last of a list that ends so
last_end : {A : Type 0} (a : A) (l : List A) (b : A) → last_or a (l ++ b ∷ []) ≡ b
last_end a [] b = refl
last_end a (c ∷ l) b = last_end c l b

-- the last accepted call is the last of the accepted ones
pub at_last : {xs : List Call} {x : Call} → LastAt xs x → Last xs x
at_last {xs} {x} l =
    (accepted l.before, ap accepted l.is ∙ (keep-++ (λ y. eqb (cause y) 0) l.before (x ∷ l.behind) ∙ ap (λ (m : List Call). accepted l.before ++ m) (counts x l.behind l.accepted ∙ ap (λ (m : List Call). x ∷ m) (none-accepted l.none_after))))

pub last-at : {xs : List Call} {x : Call} → Last xs x → LastAt xs x
last-at {xs} {x} h = go (last-or-none xs)
  where
    go : All Declined xs ⊎ ((y : Call) × LastAt xs y) → LastAt xs x
    go (inl n) = absurd (empty h.0 (sym (none-accepted n) ∙ h.1))
      where
        empty : (l : List Call) → [] ≡ l ++ x ∷ [] → ⊥
        empty l e = let z = ap length e ∙ length-append l (x ∷ []) in omega (arith, z)
    go (inr y) =
        let q = at_last y.1 in
        let e : y.0 ≡ x = sym (last_end x q.0 y.0) ∙ (ap (last_or x) (sym q.1 ∙ h.1) ∙ last_end x h.0 x) in
        subst (LastAt xs) e y.1

module _ {S : Type 0} (o : Overlay S) where
  -- where each call is refused, there is no last page
  pub last_none : {xs : List Call} → All Declined xs → last_of (answered o) xs ≡ none
  last_none none_left = refl
  last_none (◌and◌ {a = x} n ns) = rw (last_none ns, answered-none o x n)

  -- refused calls behind an accepted one do not count
  last-behind : (ys : List Call) (x : Call) {zs : List Call} → cause x ≡ 0 → All Declined zs → last_of (answered o) (ys ++ x ∷ zs) ≡ some (page_on o x)
  last-behind [] x e n = rw (last_none n) (answered-some o x e)
  last-behind (y ∷ ys) x e n = rw (last-behind ys x e n)

  -- the search's last page is that of the last accepted call
  pub last-is : (xs : List Call) (x : Call) → LastAt xs x → last_of (answered o) xs ≡ some (page_on o x)
  last-is xs x l = rw l.is (last-behind l.before x l.accepted l.none_after)
