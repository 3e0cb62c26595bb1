-- Reading digits and numbers from a place of a text, step by step.
use mathlib.Core.Path.{◌≡◌, refl, sym, ap, ◌∙◌}
use mathlib.Core.List.{List, ◌∷◌}
use mathlib.Core.Bool.{Bool, true, false}
use mathlib.Core.Logic.{◌⊎◌, inl, inr}
use Prim.Native.Nat.{ℕ, zero, suc, ◌+◌, ◌-◌, ◌*◌, ◌^◌, ◌≤◌, ◌<◌}
use native.Mathlib.Nat.{pow-suc}
use native.Mathlib.Numerals.{add-one}
use native.Mathlib.Omega.{arith}
use lib.IntN.{ℤ, pos, neg_ℤ}
use lib.ListN.{length, get_or, drop, length-drop, drop_of_length-le, get_or-eq_default}
use lib.Seq.{drop-cons, get_or-drop}
use borrow.Author.Tests.{le-leb}
use Rattle.lists.proofs.Tests.{clash, total}
use Rattle.decimal.specs.Numerals.{most_digits}
use Rattle.decimal.specs.declared.Digits.{Digits}
use Rattle.decimal.specs.declared.Kind.{Kind}
use Rattle.decimal.specs.declared.Kind.TheVariants.{Minus, Zero, Digit, Tab, End, Other}
use Rattle.std.specs.Prelude.{None}
use Rattle.decimal.specs.inner.Bytes.{kind_of, is_digit}
use Rattle.decimal.specs.Reading.{Reading, more, magnitude, number}
use Rattle.decimal.specs.inner.Places.{after_minus, number_at, is_minus, MoreFrom, read_to, placed, number_from, sign, zero_at}
use Rattle.decimal.proofs.Powers.{powers}
use Rattle.decimal.proofs.Bytes.{digit-is, kind-is}
use Rattle.decimal.proofs.Reading.{stop, number-kind, magnitude-kind}

-- a byte stands at i
pub at_byte : (s : List ℕ) (i : ℕ) → i < length s → drop i s ≡ get_or s i 0 ∷ drop (i + 1) s
at_byte s i h = rw (add-one, drop-cons s i 0)

-- where a test of kinds passes that `Other` fails, a byte stands
pub inside : (p : Kind → Bool) (s : List ℕ) (i : ℕ) → p Other ≡ false → p (kind_of (get_or s i 0)) ≡ true → i < length s
unfolding kind_of
inside p s i n e = go (total (length s) i)
  where
    go : (length s ≤ i) ⊎ (i < length s) → i < length s
    go (inl h) = clash e (ap (λ (b : ℕ). p (kind_of b)) (get_or-eq_default s 0 h) ∙ n)
    go (inr h) = h

-- a digit stands at i
pub record Next (s : List ℕ) (i : ℕ) : Type 0 where
  pub inside : i < length s
  pub low : 48 ≤ get_or s i 0
  pub high : get_or s i 0 ≤ 57
  pub yes : is_digit (kind_of (get_or s i 0)) ≡ true

pub next-digit : (s : List ℕ) (i : ℕ) → is_digit (kind_of (get_or s i 0)) ≡ true → Next s i
next-digit s i e =
    let d = digit-is (kind_of (get_or s i 0)) (get_or s i 0) e (kind-is (get_or s i 0)) in
    record { inside = inside is_digit s i refl e; low = d.0; high = d.1; yes = e }

-- f digits more may come behind those read so far, and what they give is what all of them give from the start
pub record Going (s : List ℕ) (at first value i f : ℕ) : Type 0 where
  pub few : f ≤ (most_digits - 1)
  pub inside : i ≤ length s
  pub small : value < 10 ^ (most_digits - f)
  pub same : more f value (drop i s) ≡ more (most_digits - 1) first (drop at s)

more-one : (s : List ℕ) (value i f : ℕ) → 0 < f → Next s i → more f value (drop i s) ≡ more (f - 1) (value * 10 + (get_or s i 0 - 48)) (drop (i + 1) s)
more-one s value i zero h n = absurd (omega arith)
more-one s value i (suc f) h n =
    let z : suc f - 1 ≡ f = omega arith in
    rw (at_byte s i n.inside, le-leb 48 (get_or s i 0) n.low, le-leb (get_or s i 0) 57 n.high, z)

pub one_more : (s : List ℕ) (at first value i f : ℕ) → 0 < f → Next s i → Going s at first value i f
    → Going s at first (value * 10 + (get_or s i 0 - 48)) (i + 1) (f - 1)
one_more s at first value i f h n g =
    let e : most_digits - (f - 1) ≡ suc (most_digits - f) = omega (arith, g.few) in
    let p : 10 ^ (most_digits - (f - 1)) ≡ 10 ^ (most_digits - f) * 10 = ap (λ (k : ℕ). 10 ^ k) e ∙ pow-suc 10 (most_digits - f) in
    record {
      few = omega (arith, g.few);
      inside = omega (arith, n.inside);
      small = omega (arith, p, g.small, n.low, n.high);
      same = sym (more-one s value i f h n) ∙ g.same;
    }

pub value-small : (value f : ℕ) → value < 10 ^ (most_digits - f) → value < 10 ^ most_digits
value-small value f h = omega (arith, powers (most_digits - f) most_digits (omega arith))

-- no digit comes next, or none may come
pub ended : (s : List ℕ) (at first value i f : ℕ) → is_digit (kind_of (get_or s i 0)) ≡ false → Going s at first value i f → MoreFrom s at first (record { value = value; next = i })
ended s at first value i f e g =
    let z : i + 0 ≡ i = omega arith in
    let b : get_or (drop i s) 0 0 ≡ get_or s i 0 = get_or-drop i s 0 0 ∙ ap (λ (j : ℕ). get_or s j 0) z in
    record { reads = sym g.same ∙ stop f value (drop i s) (rw b e); inside = g.inside; small = value-small value f g.small }

-- ---- a number, by the kind of its first digit
pub place : (s : List ℕ) (i : ℕ) → i ≤ length s → length s - length (drop i s) ≡ i
place s i h = simp length-drop (omega arith)

-- what the byte b of a kind gives, behind a minus or without one
abbrev pub after : Bool → Kind → ℕ → List ℕ → Reading ℤ
after true k b t = after_minus k b t
after false k b t = number_at k b t

pub zero-read : (minus : Bool) (s : List ℕ) (at b : ℕ) → at ≤ length s → zero_at minus at ≡ placed (length s) (after minus Zero b (drop at s))
zero-read true s at b h = refl
zero-read false s at b h = ap (read_to (pos 0)) (sym (place s at h))

pub digit-read : (minus : Bool) (s : List ℕ) (at b : ℕ) (r : Digits) (z : ℤ) → MoreFrom s at (b - 48) r → z ≡ sign minus r.value
    → read_to z r.next ≡ placed (length s) (after minus Digit b (drop at s))
digit-read true s at b r z m e = rw (m.reads, place s r.next m.inside, e)
digit-read false s at b r z m e = rw (m.reads, place s r.next m.inside, e)

-- the other kinds begin no number
pub none_read : (minus : Bool) (n b : ℕ) (t : List ℕ)
    → (None ≡ placed n (after minus Tab b t)) × (None ≡ placed n (after minus End b t)) × (None ≡ placed n (after minus Other b t))
none_read true n b t = (refl, refl, refl)
none_read false n b t = (refl, refl, refl)

-- the byte at i, or that there is none, by its kind
number-at : (s : List ℕ) (i : ℕ) (k : Kind) → kind_of (get_or s i 0) ≡ k → number (drop i s) ≡ number_at k (get_or s i 0) (drop (i + 1) s)
unfolding kind_of
number-at s i k e = go (total (length s) i)
  where
    go : (length s ≤ i) ⊎ (i < length s) → number (drop i s) ≡ number_at k (get_or s i 0) (drop (i + 1) s)
    go (inl h) = rw (sym e, drop_of_length-le s {i = i} h, get_or-eq_default s 0 {n = i} h) (unfold number in refl)
    go (inr h) = rw (sym e, at_byte s i h) (number-kind (get_or s i 0) (drop (i + 1) s))

magnitude-at : (s : List ℕ) (i : ℕ) (k : Kind) → kind_of (get_or s i 0) ≡ k → magnitude (λ n. neg_ℤ (pos n)) (drop i s) ≡ after_minus k (get_or s i 0) (drop (i + 1) s)
unfolding kind_of
magnitude-at s i k e = go (total (length s) i)
  where
    go : (length s ≤ i) ⊎ (i < length s) → magnitude (λ n. neg_ℤ (pos n)) (drop i s) ≡ after_minus k (get_or s i 0) (drop (i + 1) s)
    go (inl h) = rw (sym e, drop_of_length-le s {i = i} h, get_or-eq_default s 0 {n = i} h)
    go (inr h) = rw (sym e, at_byte s i h) (magnitude-kind (get_or s i 0) (drop (i + 1) s))

minus_is : (k : Kind) → is_minus k ≡ true → k ≡ Minus
minus_is Minus e = refl
minus_is Zero e = clash e refl
minus_is Digit e = clash e refl
minus_is Tab e = clash e refl
minus_is End e = clash e refl
minus_is Other e = clash e refl

-- a number's digits begin at i, behind its minus or at once
abbrev pub Begins : Bool → ℕ → ℕ → Type 0
Begins minus at i = ((minus ≡ true) × (i ≡ at + 1)) ⊎ ((minus ≡ false) × (i ≡ at))

-- what the kind of its first digit decides
pub begins : (s : List ℕ) (at : ℕ) (minus : Bool) (i : ℕ) (k : Kind) → minus ≡ is_minus (kind_of (get_or s at 0)) → Begins minus at i → kind_of (get_or s i 0) ≡ k
    → placed (length s) (after minus k (get_or s i 0) (drop (i + 1) s)) ≡ number_from s at
unfolding number_from
begins s at minus i k m (inl h) e =
    rw h.0 (ap (placed (length s)) (sym (number-at s at Minus (minus_is (kind_of (get_or s at 0)) (sym m ∙ h.0)) ∙ (ap (λ (j : ℕ). magnitude (λ n. neg_ℤ (pos n)) (drop j s)) (sym h.1) ∙ magnitude-at s i k e))))
begins s at minus i k m (inr h) e =
    rw h.0 (ap (placed (length s)) (sym (ap (λ (j : ℕ). number (drop j s)) (sym h.1) ∙ number-at s i k e)))

-- a minus is none behind a minus, and does not stand where none was found
pub minus-bad : (s : List ℕ) (at : ℕ) (minus : Bool) (i n b : ℕ) (t : List ℕ) → minus ≡ is_minus (kind_of (get_or s at 0)) → Begins minus at i → kind_of (get_or s i 0) ≡ Minus
    → None ≡ placed n (after minus Minus b t)
minus-bad s at minus i n b t m (inl h) e = rw h.0
minus-bad s at minus i n b t m (inr h) e = clash (ap is_minus (ap (λ (j : ℕ). kind_of (get_or s j 0)) (sym h.1) ∙ e)) (sym m ∙ h.0)
