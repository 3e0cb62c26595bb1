-- `read_number` steps over a minus and goes by the kind of the first digit.
use mathlib.Core.Path.{◌≡◌, refl, sym, ap, ◌∙◌}
use mathlib.Core.Bool.{true}
use mathlib.Core.Logic.{inl, inr}
use Prim.Native.Nat.{◌+◌}
use native.Mathlib.Omega.{arith}
use lib.ListN.{length, get_or, drop}
use mir.Syntax.{w32}
use mir.Val.{SFits}
use mir.Facts.{to_z-of_z}
use borrow.Author.Rules.{sfits_of}
use Rattle.decimal.specs.declared.Kind.{Kind}
use Rattle.decimal.specs.declared.Kind.TheVariants.{Minus, Zero, Digit, Tab, End, Other}
use Rattle.decimal.specs.inner.Bytes.{kind_of, is_digit}
use Rattle.decimal.specs.inner.Places.{is_minus, placed, number_from}
use Rattle.decimal.proofs.Places.{inside, Next, next-digit, after, Begins, begins, minus-bad, zero-read, digit-read, none_read}
use Rattle.lexer.proofs.numbers.read_number.Goals as goal
use Rattle.lexer.proofs.numbers.read_number.Goals.{then-minus, else-minus}

pub overflow_add-i : goal.overflow_add-i
overflow_add-i c =
    let minus : c.is_minus-minus.result ≡ is_minus (kind_of (get_or c.args.s.now c.args.at 0)) = c.is_minus-minus.ensures ∙ ap is_minus c.kind_at.ensures in
    omega (arith, inside is_minus c.args.s.now c.args.at refl (sym minus ∙ c.if-minus.true))

pub zero_at-requires : goal.zero_at-requires
zero_at-requires c =
    let digit : (k : Kind) → c.kind_at-2.result ≡ k → is_digit k ≡ true → Next c.args.s.now c.if-minus.i = λ k e d. next-digit _ _ (ap is_digit (sym c.kind_at-2.ensures ∙ e) ∙ d) in
    omega (arith, digit Zero c.in-Zero.is refl)

pub overflow_add-i-in-Digit : goal.overflow_add-i-in-Digit
overflow_add-i-in-Digit c =
    let digit : (k : Kind) → c.kind_at-2.result ≡ k → is_digit k ≡ true → Next c.args.s.now c.if-minus.i = λ k e d. next-digit _ _ (ap is_digit (sym c.kind_at-2.ensures ∙ e) ∙ d) in
    let first : Next c.args.s.now c.if-minus.i = digit Digit c.in-Digit.is refl in
    omega (arith, first)

pub bounds-s-i : goal.bounds-s-i
bounds-s-i c =
    let digit : (k : Kind) → c.kind_at-2.result ≡ k → is_digit k ≡ true → Next c.args.s.now c.if-minus.i = λ k e d. next-digit _ _ (ap is_digit (sym c.kind_at-2.ensures ∙ e) ∙ d) in
    let first : Next c.args.s.now c.if-minus.i = digit Digit c.in-Digit.is refl in
    omega (arith, first)

pub overflow_sub-s : goal.overflow_sub-s
overflow_sub-s c =
    let digit : (k : Kind) → c.kind_at-2.result ≡ k → is_digit k ≡ true → Next c.args.s.now c.if-minus.i = λ k e d. next-digit _ _ (ap is_digit (sym c.kind_at-2.ensures ∙ e) ∙ d) in
    let first : Next c.args.s.now c.if-minus.i = digit Digit c.in-Digit.is refl in
    omega (arith, first)

pub overflow_cast-s : goal.overflow_cast-s
overflow_cast-s c =
    let digit : (k : Kind) → c.kind_at-2.result ≡ k → is_digit k ≡ true → Next c.args.s.now c.if-minus.i = λ k e d. next-digit _ _ (ap is_digit (sym c.kind_at-2.ensures ∙ e) ∙ d) in
    let first : Next c.args.s.now c.if-minus.i = digit Digit c.in-Digit.is refl in
    omega (arith, first)

pub more_digits-d-requires : goal.more_digits-d-requires
more_digits-d-requires c =
    let digit : (k : Kind) → c.kind_at-2.result ≡ k → is_digit k ≡ true → Next c.args.s.now c.if-minus.i = λ k e d. next-digit _ _ (ap is_digit (sym c.kind_at-2.ensures ∙ e) ∙ d) in
    let first : Next c.args.s.now c.if-minus.i = digit Digit c.in-Digit.is refl in
    omega (arith, first)

pub returns-in-Minus : goal.returns-in-Minus
returns-in-Minus c =
    let minus : c.is_minus-minus.result ≡ is_minus (kind_of (get_or c.args.s.now c.args.at 0)) = c.is_minus-minus.ensures ∙ ap is_minus c.kind_at.ensures in
    let begun : Begins c.is_minus-minus.result c.args.at c.if-minus.i = elim c.if-minus.branch [ then-minus w ↦ inl (w.if-minus.true, w.i-is) | else-minus w ↦ inr (w.if-minus.false, w.i-is) ] in
    let seen : (k : Kind) → c.kind_at-2.result ≡ k → placed (length c.args.s.now) (after c.is_minus-minus.result k (get_or c.args.s.now c.if-minus.i 0) (drop (c.if-minus.i + 1) c.args.s.now)) ≡ number_from c.args.s.now c.args.at = λ k e. begins c.args.s.now c.args.at c.is_minus-minus.result c.if-minus.i k minus begun (sym c.kind_at-2.ensures ∙ e) in
    minus-bad c.args.s.now c.args.at c.is_minus-minus.result c.if-minus.i _ _ _ minus begun (sym c.kind_at-2.ensures ∙ c.in-Minus.is) ∙ seen Minus c.in-Minus.is

pub returns-in-Zero : goal.returns-in-Zero
returns-in-Zero c =
    let minus : c.is_minus-minus.result ≡ is_minus (kind_of (get_or c.args.s.now c.args.at 0)) = c.is_minus-minus.ensures ∙ ap is_minus c.kind_at.ensures in
    let begun : Begins c.is_minus-minus.result c.args.at c.if-minus.i = elim c.if-minus.branch [ then-minus w ↦ inl (w.if-minus.true, w.i-is) | else-minus w ↦ inr (w.if-minus.false, w.i-is) ] in
    let seen : (k : Kind) → c.kind_at-2.result ≡ k → placed (length c.args.s.now) (after c.is_minus-minus.result k (get_or c.args.s.now c.if-minus.i 0) (drop (c.if-minus.i + 1) c.args.s.now)) ≡ number_from c.args.s.now c.args.at = λ k e. begins c.args.s.now c.args.at c.is_minus-minus.result c.if-minus.i k minus begun (sym c.kind_at-2.ensures ∙ e) in
    let digit : (k : Kind) → c.kind_at-2.result ≡ k → is_digit k ≡ true → Next c.args.s.now c.if-minus.i = λ k e d. next-digit _ _ (ap is_digit (sym c.kind_at-2.ensures ∙ e) ∙ d) in
    c.zero_at.ensures
    ∙ (zero-read c.is_minus-minus.result c.args.s.now (c.if-minus.i + 1) _ (omega (arith, digit Zero c.in-Zero.is refl)) ∙ seen Zero c.in-Zero.is)

pub returns-in-Digit : goal.returns-in-Digit
returns-in-Digit c =
    let minus : c.is_minus-minus.result ≡ is_minus (kind_of (get_or c.args.s.now c.args.at 0)) = c.is_minus-minus.ensures ∙ ap is_minus c.kind_at.ensures in
    let begun : Begins c.is_minus-minus.result c.args.at c.if-minus.i = elim c.if-minus.branch [ then-minus w ↦ inl (w.if-minus.true, w.i-is) | else-minus w ↦ inr (w.if-minus.false, w.i-is) ] in
    let seen : (k : Kind) → c.kind_at-2.result ≡ k → placed (length c.args.s.now) (after c.is_minus-minus.result k (get_or c.args.s.now c.if-minus.i 0) (drop (c.if-minus.i + 1) c.args.s.now)) ≡ number_from c.args.s.now c.args.at = λ k e. begins c.args.s.now c.args.at c.is_minus-minus.result c.if-minus.i k minus begun (sym c.kind_at-2.ensures ∙ e) in
    let f : SFits w32 c.signed.result = sfits_of c.signed.type_inv in
    simp to_z-of_z
    (digit-read c.is_minus-minus.result c.args.s.now (c.if-minus.i + 1) (get_or c.args.s.now c.if-minus.i 0) c.more_digits-d.result c.signed.result c.more_digits-d.ensures c.signed.ensures
    ∙ seen Digit c.in-Digit.is)

pub returns-in-Tab : goal.returns-in-Tab
returns-in-Tab c =
    let minus : c.is_minus-minus.result ≡ is_minus (kind_of (get_or c.args.s.now c.args.at 0)) = c.is_minus-minus.ensures ∙ ap is_minus c.kind_at.ensures in
    let begun : Begins c.is_minus-minus.result c.args.at c.if-minus.i = elim c.if-minus.branch [ then-minus w ↦ inl (w.if-minus.true, w.i-is) | else-minus w ↦ inr (w.if-minus.false, w.i-is) ] in
    let seen : (k : Kind) → c.kind_at-2.result ≡ k → placed (length c.args.s.now) (after c.is_minus-minus.result k (get_or c.args.s.now c.if-minus.i 0) (drop (c.if-minus.i + 1) c.args.s.now)) ≡ number_from c.args.s.now c.args.at = λ k e. begins c.args.s.now c.args.at c.is_minus-minus.result c.if-minus.i k minus begun (sym c.kind_at-2.ensures ∙ e) in
    (none_read c.is_minus-minus.result _ _ _).0 ∙ seen Tab c.in-Tab.is

pub returns-in-End : goal.returns-in-End
returns-in-End c =
    let minus : c.is_minus-minus.result ≡ is_minus (kind_of (get_or c.args.s.now c.args.at 0)) = c.is_minus-minus.ensures ∙ ap is_minus c.kind_at.ensures in
    let begun : Begins c.is_minus-minus.result c.args.at c.if-minus.i = elim c.if-minus.branch [ then-minus w ↦ inl (w.if-minus.true, w.i-is) | else-minus w ↦ inr (w.if-minus.false, w.i-is) ] in
    let seen : (k : Kind) → c.kind_at-2.result ≡ k → placed (length c.args.s.now) (after c.is_minus-minus.result k (get_or c.args.s.now c.if-minus.i 0) (drop (c.if-minus.i + 1) c.args.s.now)) ≡ number_from c.args.s.now c.args.at = λ k e. begins c.args.s.now c.args.at c.is_minus-minus.result c.if-minus.i k minus begun (sym c.kind_at-2.ensures ∙ e) in
    (none_read c.is_minus-minus.result _ _ _).1 ∙ seen End c.in-End.is

pub returns-in-Other : goal.returns-in-Other
returns-in-Other c =
    let minus : c.is_minus-minus.result ≡ is_minus (kind_of (get_or c.args.s.now c.args.at 0)) = c.is_minus-minus.ensures ∙ ap is_minus c.kind_at.ensures in
    let begun : Begins c.is_minus-minus.result c.args.at c.if-minus.i = elim c.if-minus.branch [ then-minus w ↦ inl (w.if-minus.true, w.i-is) | else-minus w ↦ inr (w.if-minus.false, w.i-is) ] in
    let seen : (k : Kind) → c.kind_at-2.result ≡ k → placed (length c.args.s.now) (after c.is_minus-minus.result k (get_or c.args.s.now c.if-minus.i 0) (drop (c.if-minus.i + 1) c.args.s.now)) ≡ number_from c.args.s.now c.args.at = λ k e. begins c.args.s.now c.args.at c.is_minus-minus.result c.if-minus.i k minus begun (sym c.kind_at-2.ensures ∙ e) in
    (none_read c.is_minus-minus.result _ _ _).2 ∙ seen Other c.in-Other.is
