-- Laws of causes by name, and of chains of checks.
use mathlib.Core.Path.{◌≡◌, refl, sym, ap, ◌∙◌}
use mathlib.Core.List.{List, [], ◌∷◌}
use mathlib.Core.Bool.{Bool, true, false}
use Prim.Native.Nat.{ℕ, zero, suc, ◌<◌}
use native.Mathlib.Omega.{arith}
use lib.ListN.{get_or}
use Rattle.std.specs.Prelude.{Result, Ok, Err, IsErrAnd}
use Rattle.std.proofs.lemmas.Result.{err_from_is_err_and}
use Rattle.lists.specs.Lists.{Tells}
use Rattle.plan.specs.declared.cause.Cause.{Cause}
use Rattle.plan.specs.declared.cause.Cause.TheVariants as cause
use Rattle.plan.specs.Causes.{number_of, refusal, by_number, on_cause, unless, ◌or_else◌, Check, fails, passes, Passed}
use Rattle.plan.proofs.Plan.{or-else-first}

-- ---- causes by name
-- all, each at its number
all-causes : List Cause
all-causes =
    cause.WrongLayerCount
    ∷ cause.WrongLayerCount
    ∷ cause.WrongSize
    ∷ cause.WrongCellCount
    ∷ cause.WrongRectangle
    ∷ cause.WrongOrder
    ∷ cause.WrongTicket
    ∷ cause.SmallTable
    ∷ cause.WrongOrderLength
    ∷ cause.MalformedText
    ∷ cause.WrongPlanText
    ∷ cause.FewCells
    ∷ cause.SmallTextBuffer
    ∷ cause.LongInput
    ∷ cause.WrongBox
    ∷ cause.FewLayers
    ∷ cause.WrongSegment
    ∷ cause.WrongMargin
    ∷ cause.WrongCounter
    ∷ cause.SmallWork
    ∷ cause.WrongRecord
    ∷ cause.WrongStops
    ∷ cause.WrongRound
    ∷ cause.WrongPlaces
    ∷ cause.WrongWindow ∷ []

abbrev at-number : ℕ → Cause
at-number n = get_or all-causes n cause.WrongLayerCount

found : (c : Cause) → at-number (number_of c) ≡ c
unfolding all-causes
found cause.WrongLayerCount = refl
found cause.WrongSize = refl
found cause.WrongCellCount = refl
found cause.WrongRectangle = refl
found cause.WrongOrder = refl
found cause.WrongTicket = refl
found cause.SmallTable = refl
found cause.WrongOrderLength = refl
found cause.MalformedText = refl
found cause.WrongPlanText = refl
found cause.FewCells = refl
found cause.SmallTextBuffer = refl
found cause.LongInput = refl
found cause.WrongBox = refl
found cause.FewLayers = refl
found cause.WrongSegment = refl
found cause.WrongMargin = refl
found cause.WrongCounter = refl
found cause.SmallWork = refl
found cause.WrongRecord = refl
found cause.WrongStops = refl
found cause.WrongRound = refl
found cause.WrongPlaces = refl
found cause.WrongWindow = refl

-- the number says which it is
pub number-one : (c d : Cause) → number_of c ≡ number_of d → c ≡ d
number-one c d e = sym (found c) ∙ (ap at-number e ∙ found d)

-- no cause has the number 0
pub number-above : (c : Cause) → number_of c ≡ 0 → ⊥
number-above cause.WrongLayerCount e = absurd (omega (arith, e))
number-above cause.WrongSize e = absurd (omega (arith, e))
number-above cause.WrongCellCount e = absurd (omega (arith, e))
number-above cause.WrongRectangle e = absurd (omega (arith, e))
number-above cause.WrongOrder e = absurd (omega (arith, e))
number-above cause.WrongTicket e = absurd (omega (arith, e))
number-above cause.SmallTable e = absurd (omega (arith, e))
number-above cause.WrongOrderLength e = absurd (omega (arith, e))
number-above cause.MalformedText e = absurd (omega (arith, e))
number-above cause.WrongPlanText e = absurd (omega (arith, e))
number-above cause.FewCells e = absurd (omega (arith, e))
number-above cause.SmallTextBuffer e = absurd (omega (arith, e))
number-above cause.LongInput e = absurd (omega (arith, e))
number-above cause.WrongBox e = absurd (omega (arith, e))
number-above cause.FewLayers e = absurd (omega (arith, e))
number-above cause.WrongSegment e = absurd (omega (arith, e))
number-above cause.WrongMargin e = absurd (omega (arith, e))
number-above cause.WrongCounter e = absurd (omega (arith, e))
number-above cause.SmallWork e = absurd (omega (arith, e))
number-above cause.WrongRecord e = absurd (omega (arith, e))
number-above cause.WrongStops e = absurd (omega (arith, e))
number-above cause.WrongRound e = absurd (omega (arith, e))
number-above cause.WrongPlaces e = absurd (omega (arith, e))
number-above cause.WrongWindow e = absurd (omega (arith, e))

-- ---- what a call returns that refuses with c, as `?` passes it on: `r` is what the `?` returns, `h` what it says of it
module _ {A : Type 0} (r : Result A Cause) (c : Cause) (h : IsErrAnd r (λ e. e ≡ c)) where
  pub passed : r ≡ Err c
  passed = let p = err_from_is_err_and r h in p.1 ∙ ap Err p.2

  pub passed-same : (n : ℕ) → number_of c ≡ n → refusal r ≡ n
  passed-same n e = rw passed e

  -- the refusal of the first check is that of both
  pub passed-first : (a b : ℕ) → number_of c ≡ a → refusal r ≡ (a or_else b)
  passed-first a b e = rw passed (or-else-first a b (number_of c) e (number-above c))

  -- ... and the answer
  pub passed-on : (n : ℕ) (x : A) → number_of c ≡ n → by_number r ≡ on_cause n (Ok x) Err
  passed-on n x e = rw passed (go n e)
    where
      go : (m : ℕ) → number_of c ≡ m → Err (number_of c) ≡ on_cause m (Ok x) Err
      go zero z = absurd (number-above c z)
      go (suc m) z = ap Err z

-- what a refused call leaves as it was
pub kept-on : {A : Type 0} {y : A} (c : Cause) (n : ℕ) (x : A) → number_of c ≡ n → y ≡ on_cause n x (λ m. y)
kept-on c zero x z = absurd (number-above c z)
kept-on c (suc m) x z = refl

-- the second check decides where the first has no refusal
pub refusal-second : {A : Type 0} (r : Result A Cause) (a b : ℕ) → 0 ≡ a → refusal r ≡ b → refusal r ≡ (a or_else b)
refusal-second r a b z e = rw (← z) e

-- ---- chains
-- the last check, behind a cause that does not apply
pub check-last : {P : Type 0} (n a : ℕ) {t : Bool} → Tells P t → a ≡ 0 → Check n P Passed (a or_else unless t n)
check-last n a {t = true} p e = passes (p.if_true refl) (rw e)
check-last n a {t = false} p e = fails (rw e) (p.if_false refl)

module _ {P : Type 0} {N : ℕ → Type 0} where
  -- more checks behind a chain
  pub check-then : {M : ℕ → Type 0} (n a b : ℕ) → 0 < n → (N a → M (a or_else b)) → Check n P N a → Check n P M (a or_else b)
  check-then n a b p f (fails e r) = fails (sym (or-else-first a b n (sym e) (λ z. omega (arith, p)))) r
  check-then n a b p f (passes h k) = passes h (f k)

  -- where no cause applies, the first line holds, and so do those behind it
  pub check-held : {a : ℕ} (n : ℕ) → 0 < n → a ≡ 0 → Check n P N a → P × N a
  check-held n p z (fails e r) = absurd (omega (arith, p, z, e))
  check-held n p z (passes h k) = (h, k)

  -- where the first line holds, those behind it decide
  pub check-past : {n a : ℕ} → P → Check n P N a → N a
  check-past h (fails e r) = absurd (r h)
  check-past h (passes p k) = k
