use mathlib.Core.Path.{◌≡◌, sym, ap, ◌∙◌}
use mathlib.Core.Bool.{Bool, true}
use mathlib.Core.List.{List}
use Prim.Native.Nat.{ℕ, ◌+◌, ◌-◌}
use native.Mathlib.Omega.{arith}
use lib.ListN.{get_or}
use Rattle.decimal.specs.declared.Kind.{Kind}
use Rattle.decimal.specs.inner.Bytes.{kind_of, is_digit}
use Rattle.decimal.proofs.Places.{Next, next-digit, one_more, value-small, ended}
use Rattle.lexer.proofs.numbers.more_digits.Goals as goal

digit-here : (s : List ℕ) (i : ℕ) {k : Kind} {t : Bool} → k ≡ kind_of (get_or s i 0) → t ≡ is_digit k → t ≡ true → Next s i
digit-here s i e f g = next-digit s i (ap is_digit (sym e) ∙ (sym f ∙ g))

pub overflow_mul-value : goal.overflow_mul-value
overflow_mul-value c = omega (arith, value-small c.loop.value _ c.loop.invariant.small)

pub bounds-s-i : goal.bounds-s-i
bounds-s-i c = omega (arith, digit-here c.args.s.now c.loop.i c.kind_at.ensures c.is_digit.ensures c.if-not-is_digit.false)

pub overflow_sub-value : goal.overflow_sub-value
overflow_sub-value c = omega (arith, digit-here c.args.s.now c.loop.i c.kind_at.ensures c.is_digit.ensures c.if-not-is_digit.false)

pub overflow_add-value : goal.overflow_add-value
overflow_add-value c =
    omega (arith, digit-here c.args.s.now c.loop.i c.kind_at.ensures c.is_digit.ensures c.if-not-is_digit.false, value-small c.loop.value _ c.loop.invariant.small)

pub loop-preserved : goal.loop-preserved
loop-preserved c =
    let digit : Next c.args.s.now c.loop.i = digit-here c.args.s.now c.loop.i c.kind_at.ensures c.is_digit.ensures c.if-not-is_digit.false in
    let one : 7 - (c.loop.counter + 1) ≡ 7 - c.loop.counter - 1 = omega arith in
    rw one (one_more _ _ _ _ _ (7 - c.loop.counter) (omega arith) digit c.loop.invariant)

pub returns-then-not-is_digit : goal.returns-then-not-is_digit
returns-then-not-is_digit c = ended _ _ _ _ _ _ (ap is_digit (sym c.kind_at.ensures) ∙ (sym c.is_digit.ensures ∙ c.if-not-is_digit.true)) c.loop.invariant
