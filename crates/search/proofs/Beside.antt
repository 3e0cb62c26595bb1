-- A narrowed search beside the old one: its probes are, by name, some of the old one's, in the same order; where no second test fails, they are the old one's.
use mathlib.Core.Path.{◌≡◌, refl, ap, ap₂, sym, ◌∙◌, subst}
use mathlib.Core.List.Memᴰ
use mathlib.Core.List.{List, [], ◌∷◌, ◌++◌, map, Memᴰ}
use mathlib.Core.Logic.{⊎_elim}
use mathlib.Core.Option.{Option, none, some}
use Prim.Native.Nat.{ℕ, zero, suc, ◌+◌, ◌≤◌, ◌<◌, zero-le}
use native.Mathlib.Omega.{arith}
use lib.ListN.{length, take}
use Rattle.lists.specs.Lists.{All, none_left, ◌and◌, each}
use Rattle.lists.proofs.Kept.{map-++, map_each}
use Rattle.search.specs.Traversal.{Slot, Guard, Probe, Row, yield, given, probes, traversal, row_at, row_of}
use Rattle.search.specs.Paging.{page}
use Rattle.search.specs.Narrowing.{pair, narrow_slots, narrowed}
use Rattle.search.specs.Names.{Sublist, empty, kept, dropped, name_of, first_state, old_probe, Stands, Alike, neither, first}
use Rattle.search.proofs.Paging.{on_row, page_with, page-map}
use Rattle.search.proofs.Narrowing.{Idle, idle, idle-more}

-- ---- sublists
module _ {A : Type 0} where
  pub sub-none : (l : List A) → Sublist [] l
  sub-none [] = empty
  sub-none (a ∷ l) = dropped (sub-none l)

  pub sub-++ : {k l m n : List A} → Sublist k l → Sublist m n → Sublist (k ++ m) (l ++ n)
  sub-++ empty s = s
  sub-++ (kept r) s = kept (sub-++ r s)
  sub-++ (dropped r) s = dropped (sub-++ r s)

  sub_each : (f h : ℕ → List A) → ((q : ℕ) → Sublist (f q) (h q)) → (p n : ℕ) → Sublist (each f p n) (each h p n)
  sub_each f h s p zero = empty
  sub_each f h s p (suc n) = sub-++ (s p) (sub_each f h s (suc p) n)

  pub sub-short : {l m : List A} → Sublist l m → length l ≤ length m
  sub-short empty = zero-le
  sub-short (kept s) = omega (arith, sub-short s)
  sub-short (dropped s) = omega (arith, sub-short s)

  pub sub-mem : {a : A} {l m : List A} → Sublist l m → Memᴰ a l → Memᴰ a m
  sub-mem empty i = i
  sub-mem (kept s) i = ⊎_elim (λ e. Memᴰ.head e) (λ k. Memᴰ.tail (sub-mem s k)) (Memᴰ.cases_cons i)
  sub-mem (dropped s) i = Memᴰ.tail (sub-mem s i)

-- each q of the range alike
each-alike : {A : Type 0} (f h : ℕ → List A) (p n : ℕ) → ((q : ℕ) → q < p + n → f q ≡ h q) → each f p n ≡ each h p n
each-alike f h p zero e = refl
each-alike f h p (suc n) e = ap₂ ◌++◌ (e p (omega arith)) (each-alike f h (suc p) n (λ q l. e q (omega arith)))

-- ---- names
-- two lists that begin alike have the same first name
pub alike-names : {S T : Type 0} {v : List (Probe S)} {w : List (Probe T)} → Alike v w → take 1 (map name_of w) ≡ take 1 (map name_of v)
alike-names neither = refl
alike-names (first a b c) = rw (a, b, c)

module _ {S : Type 0} where
  -- what stands in a list by name stands in it
  named-stands : (w : List (Probe S)) (g : ℕ) (ps : List ℕ) (p : ℕ) → Memᴰ (g, ps, p) (map name_of w) → Stands w g ps p
  named-stands [] g ps p i = absurd (Memᴰ.not-nil i)
  named-stands (t ∷ w) g ps p i = ⊎_elim first (λ k. let r = named-stands w g ps p k in (r.0, Memᴰ.tail r.1)) (Memᴰ.cases_cons i)
    where
      first : ◌≡◌ {A = ℕ × List ℕ × ℕ} (g, ps, p) (name_of t) → Stands (t ∷ w) g ps p
      first e =
          (t.yields, subst (λ (n : ℕ × List ℕ × ℕ). Memᴰ (record { guard = n.0; chosen = n.1; tried = n.2; yields = t.yields }) (t ∷ w)) (sym e) (Memᴰ.head refl))

pub sub-stands : {S T : Type 0} (v : List (Probe S)) (w : List (Probe T)) → Sublist (map name_of v) (map name_of w) → (g : ℕ) (ps : List ℕ) (p : ℕ) → Stands v g ps p → Stands w g ps p
sub-stands v w s g ps p i = named-stands w g ps p (sub-mem s (Memᴰ.map name_of i.1))

module _ {S T : Type 0} where
  -- ---- some of the old probes
  probes-sub : (g : ℕ) (ss : List (Slot S)) (ts : List (T → ℕ → Option T)) (ps : List ℕ) (c : S) (d : T)
      → Sublist (map name_of (probes g (narrow_slots ss ts) ps (c, d))) (map name_of (probes g ss ps c))
  probes-sub g [] ts ps c d = empty
  probes-sub g (s ∷ ss) [] ps c d = sub-none _
  probes-sub g (s ∷ ss) (t ∷ ts) ps c d =
      rw (map_each name_of (new d) 0 s.size, map_each name_of old 0 s.size)
      (sub_each _ _ (λ q. kept (go q (s.pass c q) (t d q) (λ e f. probes-sub g ss ts (ps ++ q ∷ []) e f))) 0 s.size)
    where
      new : T → ℕ → List (Probe (S × T))
      new d p = record { guard = g; chosen = ps; tried = p; yields = yield (narrow_slots ss ts) (pair (s.pass c p) (t d p)) } ∷ given (probes g (narrow_slots ss ts) (ps ++ p ∷ [])) (pair (s.pass c p) (t d p))

      old : ℕ → List (Probe S)
      old p = record { guard = g; chosen = ps; tried = p; yields = yield ss (s.pass c p) } ∷ given (probes g ss (ps ++ p ∷ [])) (s.pass c p)

      go : (q : ℕ) (o : Option S) (r : Option T)
          → ((e : S) (f : T) → Sublist (map name_of (probes g (narrow_slots ss ts) (ps ++ q ∷ []) (e, f))) (map name_of (probes g ss (ps ++ q ∷ []) e)))
          → Sublist (map name_of (given (probes g (narrow_slots ss ts) (ps ++ q ∷ [])) (pair o r))) (map name_of (given (probes g ss (ps ++ q ∷ [])) o))
      go q none r i = empty
      go q (some e) none i = sub-none _
      go q (some e) (some f) i = i e f

  pub narrowed-sub : {A : Type 0} (guard : A → Guard S) (second : A → T) (tests : A → List (T → ℕ → Option T)) (l : List A)
      → Sublist (map name_of (traversal (map (λ a. narrowed (guard a) (second a) (tests a)) l))) (map name_of (traversal (map guard l)))
  narrowed-sub guard second tests [] = empty
  narrowed-sub guard second tests (a ∷ l) =
      rw (map-++ name_of (probes (guard a).number (narrow_slots (guard a).slots (tests a)) [] ((guard a).start, second a)) (traversal (map (λ b. narrowed (guard b) (second b) (tests b)) l)), map-++ name_of (probes (guard a).number (guard a).slots [] (guard a).start) (traversal (map guard l)))
      (sub-++ (probes-sub (guard a).number (guard a).slots (tests a) [] (guard a).start (second a)) (narrowed-sub guard second tests l))

  -- ---- all of them, where no second test fails
  idle-yield : {w : T} {ss : List (Slot S)} {ts : List (T → ℕ → Option T)} → Idle w ss ts → (o : Option S) → first_state (yield (narrow_slots ss ts) (pair o (some w))) ≡ yield ss o
  idle-yield idle none = refl
  idle-yield idle (some c) = refl
  idle-yield (idle-more h hs) o = refl

  probes-old : {w : T} {ss : List (Slot S)} {ts : List (T → ℕ → Option T)} → Idle w ss ts → (g : ℕ) (ps : List ℕ) (c : S)
      → map old_probe (probes g (narrow_slots ss ts) ps (c, w)) ≡ probes g ss ps c
  probes-old idle g ps c = refl
  probes-old {w} (idle-more {s = s} {ss = ss} {t = t} {ts = ts} h hs) g ps c =
      map_each old_probe new 0 s.size ∙ each-alike (λ q. map old_probe (new q)) old 0 s.size (λ q l. rw (h q (omega arith)) (go q (s.pass c q) (λ e. probes-old hs g (ps ++ q ∷ []) e)))
    where
      new : ℕ → List (Probe (S × T))
      new q = record { guard = g; chosen = ps; tried = q; yields = yield (narrow_slots ss ts) (pair (s.pass c q) (t w q)) } ∷ given (probes g (narrow_slots ss ts) (ps ++ q ∷ [])) (pair (s.pass c q) (t w q))

      old : ℕ → List (Probe S)
      old q = record { guard = g; chosen = ps; tried = q; yields = yield ss (s.pass c q) } ∷ given (probes g ss (ps ++ q ∷ [])) (s.pass c q)

      go : (q : ℕ) (o : Option S) → ((e : S) → map old_probe (probes g (narrow_slots ss ts) (ps ++ q ∷ []) (e, w)) ≡ probes g ss (ps ++ q ∷ []) e)
          → map old_probe (record { guard = g; chosen = ps; tried = q; yields = yield (narrow_slots ss ts) (pair o (some w)) } ∷ given (probes g (narrow_slots ss ts) (ps ++ q ∷ [])) (pair o (some w))) ≡ record { guard = g; chosen = ps; tried = q; yields = yield ss o } ∷ given (probes g ss (ps ++ q ∷ [])) o
      go q none i = ap (λ (o : Option S). record { guard = g; chosen = ps; tried = q; yields = o } ∷ []) (idle-yield hs none)
      go q (some e) i = ap₂ (λ (o : Option S) (l : List (Probe S)). record { guard = g; chosen = ps; tried = q; yields = o } ∷ l) (idle-yield hs (some e)) (i e)

  pub narrowed-old : {A : Type 0} (w : T) (guard : A → Guard S) (second : A → T) (tests : A → List (T → ℕ → Option T)) {l : List A}
      → All (λ a. (second a ≡ w) × Idle w (guard a).slots (tests a)) l
      → map old_probe (traversal (map (λ a. narrowed (guard a) (second a) (tests a)) l)) ≡ traversal (map guard l)
  narrowed-old w guard second tests none_left = refl
  narrowed-old w guard second tests (◌and◌ {a = a} h hs) =
      map-++ old_probe (probes (guard a).number (narrow_slots (guard a).slots (tests a)) [] ((guard a).start, second a)) _
      ∙ ap₂ ◌++◌ own (narrowed-old w guard second tests hs)
    where
      own : map old_probe (probes (guard a).number (narrow_slots (guard a).slots (tests a)) [] ((guard a).start, second a)) ≡ probes (guard a).number (guard a).slots [] (guard a).start
      own = rw h.0 (probes-old h.1 (guard a).number [] (guard a).start)

-- ---- pages over the two lists
module _ {S T : Type 0} where
  -- the row without its second state
  abbrev pub old_row : Row (S × T) → Row S
  old_row r = record { guard = r.guard; path = r.path; state = r.state.0 }

  old-yields : (t : Probe (S × T)) → row_of (old_probe t) ≡ on_row old_row (row_of t)
  old-yields t = go t.yields
    where
      go : (o : Option (S × T)) → row_at t.guard (t.chosen ++ t.tried ∷ []) (first_state o) ≡ on_row old_row (row_at t.guard (t.chosen ++ t.tried ∷ []) o)
      go none = refl
      go (some c) = refl

  -- pages over probes without their second states
  pub old-page : (b m : ℕ) (w : List (Probe (S × T))) → page row_of b m (map old_probe w) ≡ page_with old_probe old_row (page row_of b m w)
  old-page = page-map old_probe old_row row_of row_of old-yields
