-- A short number is read from its spelling, and whatever is read was spelled so.
use mathlib.Core.Path.{◌≡◌, refl, sym, ap, ap₂, ◌∙◌, subst}
use mathlib.Core.List.{List, [], ◌∷◌, ◌++◌}
use mathlib.Core.Option.{Option, none, some, some-injective, none-ne-some}
use mathlib.Core.Bool.{Bool, true, false, cond, ◌&&◌}
use Prim.Native.Nat.{ℕ, zero, suc, ◌+◌, ◌-◌, ◌*◌, ◌/◌, ◌%◌, ◌^◌, ◌≤◌, ◌<◌, zero-le}
use native.Mathlib.Nat.{le_refl, pow-zero, div-one, div-le_self}
use native.Mathlib.Omega.{arith}
use lib.Dec.{lit≤, eqb, leb}
use lib.IntN.{ℤ, pos, negsuc, neg_ℤ}
use lib.ListN.{get_or}
use borrow.Author.Tests.{ltb-true, lt-ltb, leb-true, le-leb}
use Rattle.lists.proofs.Tests.{never_true, both}
use Rattle.decimal.specs.declared.Kind.{Kind}
use Rattle.decimal.specs.declared.Kind.TheVariants.{Minus, Zero, Digit, Tab, End, Other}
use Rattle.decimal.specs.Numerals.{digits, size, decimal, numeral, most_digits, short}
use Rattle.decimal.specs.inner.Bytes.{kind_of, is_digit}
use Rattle.decimal.specs.Reading.{Reading, more, magnitude, number}
use Rattle.decimal.specs.inner.Places.{after_minus, number_at}
use Rattle.decimal.proofs.Powers.{tenfold, powers}
use Rattle.decimal.proofs.Bytes.{Is, kind-is, kind-digit, digit-kind, other}
use Rattle.decimal.proofs.Numerals.{Sized, sized, sized-few, front_low, front-high, front-sized, digits_decimal}

-- no digit comes next
abbrev pub Stops : List ℕ → Type 0
Stops t = is_digit (kind_of (get_or t 0 0)) ≡ false

pub stop : (f v : ℕ) (r : List ℕ) → Stops r → more f v r ≡ (v, r)
stop zero v r h = refl
stop (suc f) v [] h = refl
stop (suc f) v (b ∷ r) h = rw (digit-kind b, h)

pub more-digits : (f c n : ℕ) (r : List ℕ) → c ≤ f → Stops r → more f (n / 10 ^ c) (digits c n ++ r) ≡ (n, r)
more-digits f zero n r h k = rw (pow-zero, div-one) (stop f n r k)
more-digits zero (suc c) n r h k = absurd (omega arith)
more-digits (suc f) (suc c) n r h k =
    let x : ℕ = n / 10 ^ c in
    let e : n / 10 ^ suc c * 10 + (48 + x % 10 - 48) ≡ x = omega (arith, tenfold n c) in
    rw (le-leb 48 (48 + x % 10) (omega arith), le-leb (48 + x % 10) 57 (omega arith), e) (more-digits f c n r (omega arith) k)

-- whatever digits are read are the last ones of what they give
pub record Spelled (v n : ℕ) (t r : List ℕ) (f : ℕ) : Type 0 where
  pub count : ℕ
  pub few : count ≤ f
  pub text : t ≡ digits count n ++ r
  pub front : n / 10 ^ count ≡ v

pub more-spelled : (f v : ℕ) (t : List ℕ) → Spelled v (more f v t).0 t (more f v t).1 f
more-spelled zero v t = record { count = 0; few = le_refl 0; text = refl; front = div-one v }
more-spelled (suc f) v [] = record { count = 0; few = zero-le; text = refl; front = div-one v }
more-spelled (suc f) v (b ∷ t) = go (leb 48 b && leb b 57) refl (more-spelled f (v * 10 + (b - 48)) t)
  where
    go : (d : Bool) → (leb 48 b && leb b 57) ≡ d → Spelled (v * 10 + (b - 48)) (more f (v * 10 + (b - 48)) t).0 t (more f (v * 10 + (b - 48)) t).1 f
        → Spelled v (cond d (more f (v * 10 + (b - 48)) t) (v, b ∷ t)).0 (b ∷ t) (cond d (more f (v * 10 + (b - 48)) t) (v, b ∷ t)).1 (suc f)
    go false e s = record { count = 0; few = zero-le; text = refl; front = div-one v }
    go true e s =
        let d = both (leb 48 b) (leb b 57) e in
        let h : (48 ≤ b) × (b ≤ 57) = (leb-true 48 b d.0, leb-true b 57 d.1) in
        let n : ℕ = (more f (v * 10 + (b - 48)) t).0 in
        let x : b ≡ 48 + n / 10 ^ s.count % 10 = omega (arith, s.front) in
        let y : n / 10 ^ s.count / 10 ≡ v = omega (arith, s.front) in
        record { count = suc s.count; few = omega (arith, s.few); text = ap₂ ◌∷◌ x s.text; front = tenfold n s.count ∙ y }

-- ---- a number from 1 on, and read

-- the decimal's first byte is a digit 1 to 9, and from there on the number is read
pub record Front (n : ℕ) (r : List ℕ) : Type 0 where
  pub first : ℕ
  pub others : List ℕ
  pub text : decimal n ++ r ≡ first ∷ others
  pub low : 49 ≤ first
  pub high : first ≤ 57
  pub reads : more (most_digits - 1) (first - 48) others ≡ (n, r)

pub front : (n : ℕ) (r : List ℕ) → 0 < n → n < 10 ^ most_digits → Stops r → Front n r
front n r h k st =
    let s = sized 19 n (omega (arith, powers most_digits 20 (lit≤ tt))) in
    let c : ℕ = s.0 in
    let lo = front_low c n h s.3 in
    let hi = front-high c n s.3 in
    let x : 48 + n / 10 ^ c % 10 - 48 ≡ n / 10 ^ c = omega arith in
    record {
      first = 48 + n / 10 ^ c % 10;
      others = digits c n ++ r;
      text = ap (λ (l : List ℕ). l ++ r) (sym (digits_decimal c n s.1 s.3));
      low = omega arith;
      high = omega arith;
      reads = rw x (more-digits (most_digits - 1) c n r (sized-few c (most_digits - 1) n s.3 k) st);
    }

pub record Fronted (b : ℕ) (t : List ℕ) (n : ℕ) (r : List ℕ) : Type 0 where
  pub text : b ∷ t ≡ decimal n ++ r
  pub least : 0 < n
  pub below : n < 10 ^ most_digits

pub fronted : (b : ℕ) (t : List ℕ) → 49 ≤ b → b ≤ 57 → Fronted b t (more (most_digits - 1) (b - 48) t).0 (more (most_digits - 1) (b - 48) t).1
fronted b t h k =
    let m : Spelled (b - 48) (more (most_digits - 1) (b - 48) t).0 t (more (most_digits - 1) (b - 48) t).1 (most_digits - 1) = more-spelled (most_digits - 1) (b - 48) t in
    let n : ℕ = (more (most_digits - 1) (b - 48) t).0 in
    let r : List ℕ = (more (most_digits - 1) (b - 48) t).1 in
    let c : ℕ = m.count in
    let s : Sized c n = front-sized c n (omega (arith, m.front)) (omega (arith, m.front)) in
    let x : b ≡ 48 + n / 10 ^ c % 10 = omega (arith, m.front) in
    record {
      text = ap₂ ◌∷◌ x m.text ∙ ap (λ (l : List ℕ). l ++ r) (digits_decimal c n (omega (arith, m.few)) s);
      least = omega (arith, m.front, div-le_self (more (most_digits - 1) (b - 48) t).0 (10 ^ c));
      below = omega (arith, s.below, powers (suc c) most_digits (omega (arith, m.few)));
    }

-- ---- numbers

-- a number by the kind of its first byte
pub number-kind : (b : ℕ) (t : List ℕ) → number (b ∷ t) ≡ number_at (kind_of b) b t
unfolding number kind_of
number-kind b t = go (eqb b 45) (eqb b 48) (leb 49 b && leb b 57) (eqb b 9) (eqb b 10)
  where
    go : (m z d u e : Bool)
        → cond m (magnitude (λ n. neg_ℤ (pos n)) t) (cond z (some (pos 0, t)) (cond d (some (pos (more (most_digits - 1) (b - 48) t).0, (more (most_digits - 1) (b - 48) t).1)) none))
        ≡ number_at (cond m Minus (cond z Zero (cond d Digit (cond u Tab (cond e End Other))))) b t
    go true z d u e = refl
    go false true d u e = refl
    go false false true u e = refl
    go false false false true e = refl
    go false false false false true = refl
    go false false false false false = refl

pub magnitude-kind : (b : ℕ) (t : List ℕ) → magnitude (λ n. neg_ℤ (pos n)) (b ∷ t) ≡ after_minus (kind_of b) b t
magnitude-kind b t = go (kind_of b) (kind-is b) (kind-digit b)
  where
    go : (k : Kind) → Is k b → (49 ≤ b → b ≤ 57 → k ≡ Digit) → magnitude (λ n. neg_ℤ (pos n)) (b ∷ t) ≡ after_minus k b t
    go Minus h f = rw h
    go Zero h f = rw h
    go Digit h f = rw (le-leb 49 b h.0, le-leb b 57 h.1)
    go Tab h f = rw h
    go End h f = rw h
    go Other h f = rw (never_true (leb 49 b && leb b 57) (λ e. let r = both (leb 49 b) (leb b 57) e in other (f (leb-true 49 b r.0) (leb-true b 57 r.1))))

number-none : number [] ≡ none
unfolding number
number-none = refl

number-minus : (t : List ℕ) → number (45 ∷ t) ≡ magnitude (λ n. neg_ℤ (pos n)) t
unfolding number
number-minus t = refl

pub number-reads : (z : ℤ) (r : List ℕ) → short z ≡ true → Stops r → number (numeral z ++ r) ≡ some (z, r)
unfolding numeral
number-reads (pos zero) r h st = unfold number decimal size in refl
number-reads (pos (suc n)) r h st =
    let f = front (suc n) r (omega arith) (ltb-true (suc n) (10 ^ most_digits) h) st in
    ap number f.text ∙ (number-kind f.first f.others ∙ rw (kind-digit f.first f.low f.high, f.reads))
number-reads (negsuc n) r h st =
    let f = front (suc n) r (omega arith) (ltb-true (suc n) (10 ^ most_digits) h) st in
    number-minus (decimal (suc n) ++ r)
    ∙ (ap (magnitude (λ m. neg_ℤ (pos m))) f.text
    ∙ (magnitude-kind f.first f.others ∙ rw (kind-digit f.first f.low f.high, f.reads)))

pub record Numbered (t : List ℕ) (z : ℤ) (r : List ℕ) : Type 0 where
  pub text : t ≡ numeral z ++ r
  pub few : short z ≡ true

never : {A B : Type 0} {a : A} → ◌≡◌ {A = Option A} none (some a) → B
never {a = a} e = absurd (none-ne-some a e)

-- what holds of the pair that is read holds of the one it equals
same-pair : (P : ℤ → List ℕ → Type 0) (y z : ℤ) (s r : List ℕ) → ◌≡◌ {A = Reading ℤ} (some (y, s)) (some (z, r)) → P y s → P z r
same-pair P y z s r e h =
    let p = some-injective (y, s) (z, r) e in
    subst (λ (q : ℤ × List ℕ). P q.0 q.1) p h

pub negative-numeral : (n : ℕ) → 0 < n → numeral (neg_ℤ (pos n)) ≡ 45 ∷ decimal n
unfolding numeral
negative-numeral zero h = absurd (omega arith)
negative-numeral (suc n) h = refl

pub negative-short : (n : ℕ) → n < 10 ^ most_digits → short (neg_ℤ (pos n)) ≡ true
negative-short zero h = refl
negative-short (suc n) h = lt-ltb (suc n) (10 ^ most_digits) h

numbered_after : (k : Kind) (b : ℕ) (t : List ℕ) (z : ℤ) (r : List ℕ) → Is k b → after_minus k b t ≡ some (z, r) → Numbered (45 ∷ b ∷ t) z r
numbered_after Minus b t z r h e = never e
numbered_after Zero b t z r h e = never e
numbered_after Digit b t z r h e =
    let f : Fronted b t (more (most_digits - 1) (b - 48) t).0 (more (most_digits - 1) (b - 48) t).1 = fronted b t h.0 h.1 in
    let n : ℕ = (more (most_digits - 1) (b - 48) t).0 in
    same-pair (Numbered (45 ∷ b ∷ t)) (neg_ℤ (pos n)) z (more (most_digits - 1) (b - 48) t).1 r e
    (record { text = rw (negative-numeral n f.least) (ap (λ (l : List ℕ). 45 ∷ l) f.text); few = negative-short n f.below })
numbered_after Tab b t z r h e = never e
numbered_after End b t z r h e = never e
numbered_after Other b t z r h e = never e

behind-minus : (t : List ℕ) (z : ℤ) (r : List ℕ) → magnitude (λ n. neg_ℤ (pos n)) t ≡ some (z, r) → Numbered (45 ∷ t) z r
behind-minus [] z r e = never e
behind-minus (b ∷ t) z r e = numbered_after (kind_of b) b t z r (kind-is b) (sym (magnitude-kind b t) ∙ e)

number-at : (k : Kind) (b : ℕ) (t : List ℕ) (z : ℤ) (r : List ℕ) → Is k b → number_at k b t ≡ some (z, r) → Numbered (b ∷ t) z r
unfolding numeral
number-at Minus b t z r h e = rw h (behind-minus t z r e)
number-at Zero b t z r h e =
    same-pair (Numbered (b ∷ t)) (pos 0) z t r e (record { text = rw h (unfold decimal size in refl); few = refl })
number-at Digit b t z r h e =
    let f : Fronted b t (more (most_digits - 1) (b - 48) t).0 (more (most_digits - 1) (b - 48) t).1 = fronted b t h.0 h.1 in
    same-pair (Numbered (b ∷ t)) (pos (more (most_digits - 1) (b - 48) t).0) z (more (most_digits - 1) (b - 48) t).1 r e
    (record { text = f.text; few = lt-ltb (more (most_digits - 1) (b - 48) t).0 (10 ^ most_digits) f.below })
number-at Tab b t z r h e = never e
number-at End b t z r h e = never e
number-at Other b t z r h e = never e

pub number_spelled : (t : List ℕ) (z : ℤ) (r : List ℕ) → number t ≡ some (z, r) → Numbered t z r
number_spelled [] z r e = never (sym number-none ∙ e)
number_spelled (b ∷ t) z r e = number-at (kind_of b) b t z r (kind-is b) (sym (number-kind b t) ∙ e)
