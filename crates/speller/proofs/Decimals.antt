-- What `put_decimal` has stored of a number's digits after some steps: those from i to the end.
use mathlib.Core.Path.{◌≡◌, sym, ap, ◌∙◌}
use mathlib.Core.List.{List}
use Prim.Native.Nat.{ℕ, zero, suc, ◌+◌, ◌-◌, ◌/◌, ◌%◌, ◌^◌, ◌≤◌, ◌<◌}
use native.Mathlib.Omega.{arith}
use lib.ListN.{set}
use lib.Seq.{sets}
use Rattle.decimal.specs.Numerals.{digits, size, decimal}
use Rattle.lists.specs.inner.Stores.{Put}
use Rattle.decimal.proofs.Powers.{tenfold}
use Rattle.decimal.proofs.Numerals.{length-decimal}
use Rattle.lists.proofs.Stores.{set_before}

pub record Stored (first : List ℕ) (n end : ℕ) (buf : List ℕ) (i m : ℕ) : Type 0 where
  pub inside : i ≤ end
  pub rest : m ≡ n / 10 ^ (end - i)
  pub is : buf ≡ sets first i (digits (end - i) n)

pub one_more : (first : List ℕ) (n end : ℕ) (buf : List ℕ) (i m : ℕ) → 0 < i → Stored first n end buf i m → Stored first n end (set buf (i - 1) (48 + m % 10)) (i - 1) (m / 10)
one_more first n end buf zero m g h = absurd (omega arith)
one_more first n end buf (suc j) m g h =
    let d = end - suc j in
    let i : suc j - 1 ≡ j = omega arith in
    let z : end - j ≡ suc d = omega (arith, h.inside) in
    rw i
    (record {
      inside = omega (arith, h.inside);
      rest = rw (z, h.rest) (sym (tenfold n d));
      is = rw (z, h.is, h.rest) (set_before (digits d n) first (suc j) j (48 + n / 10 ^ d % 10) (omega arith));
    })

pub all-stored : (first : List ℕ) (at n : ℕ) (buf : List ℕ) (i m : ℕ) → at ≤ i → i ≤ at → Stored first n (at + size 19 n) buf i m → Put first at (decimal n) buf (at + size 19 n)
unfolding decimal
all-stored first at n buf i m l g h =
    let e : i ≡ at = omega arith in
    let z : at + size 19 n - i ≡ size 19 n = omega arith in
    record { place = ap (λ (k : ℕ). at + k) (sym (length-decimal n)); stored = h.is ∙ rw (z, e) }
