-- `rows_code::all_fit`: of lists of one length, each place is below its size.
use Rattle.std.proofs.Common.{◌≡◌, ℕ, ◌<◌, List, [], ◌∷◌, Bool, true, false, length, get_or, sym, refl, ◌∙◌, arith, rules, suc}
use Rattle.std.specs.Prelude.{IsTrue, ◌↔◌}
use borrow.Author.Tests.{ne_eqb, lt-ltb}
use Rattle.lists.proofs.Tests.{clash, and-true, never_true}
use Rattle.rows.specs.RowCall.{fits}
use Rattle.rows.proofs.RowCall.{fits_not, fits-at}
use Rattle.rows_code.proofs.all_fit.Goals as goal

-- a row fits, if each place is below its size
below-fits : (ns row : List ℕ) → length row ≡ length ns → ((k : ℕ) → k < length row → get_or row k 0 < get_or ns k 0) → fits ns row ≡ true
below-fits [] [] e h = refl
below-fits [] (p ∷ row) e h = absurd (omega arith)
below-fits (n ∷ ns) [] e h = absurd (omega arith)
below-fits (n ∷ ns) (p ∷ row) e h = and-true _ _ (lt-ltb p n (h 0 (omega arith))) (below-fits ns row (omega arith) (λ k l. h (suc k) (omega arith)))

told : (ns row : List ℕ) (t : Bool) → length row ≡ length ns → (IsTrue t ↔ ((k : ℕ) → k < length row → get_or row k 0 < get_or ns k 0)) → t ≡ fits ns row
told ns row true e h = sym (below-fits ns row e (h.0 refl))
told ns row false e h = sym (never_true (fits ns row) (λ f. clash (h.1 (λ k l. fits-at ns row k f (omega arith))) refl))

pub returns-then-row-sizes : goal.returns-then-row-sizes
returns-then-row-sizes c = told c.args.sizes.now c.args.row.now _ c.if-row-sizes.true (search rules)

pub returns-else-row-sizes : goal.returns-else-row-sizes
returns-else-row-sizes c = ne_eqb _ _ c.if-row-sizes.false ∙ sym (fits_not c.args.sizes.now c.args.row.now c.if-row-sizes.false)
