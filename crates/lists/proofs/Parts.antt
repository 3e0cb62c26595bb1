-- Laws of slices: a part from a place on, and a slice that is written from its start.
use mathlib.Core.Path.{◌≡◌, sym, ap₂, ◌∙◌}
use mathlib.Core.List.{List, [], ◌∷◌, ◌++◌, append_assoc, append-nil}
use Prim.Native.Nat.{ℕ, ◌+◌, ◌-◌, ◌≤◌, ◌<◌}
use native.Mathlib.Omega.{arith}
use native.Mathlib.Numerals.{add-one}
use lib.ListN.{length, set, take, drop, length-drop}
use lib.Seq.{take-suc-set, take_all}

-- a slice from m on
pub rest-is : {A : Type 0} (m : ℕ) (l : List A) → take (length l - m) (drop m l) ≡ drop m l
rest-is m l = take_all (length l - m) (drop m l) (omega (arith, length-drop m l))

-- what is written, with what is still to come, is the whole: one cell more, and the end
pub fill_step : (out total rest : List ℕ) (n x : ℕ) → n < length out → take n out ++ x ∷ rest ≡ total → take (n + 1) (set out n x) ++ rest ≡ total
fill_step out total rest n x h e = rw (add-one, take-suc-set out n x h) (append_assoc (take n out) (x ∷ []) rest ∙ e)

pub fill_done : (out total rest : List ℕ) (n : ℕ) → length out ≤ n → rest ≡ [] → take n out ++ rest ≡ total → out ≡ total
fill_done out total rest n h z e = sym (ap₂ ◌++◌ (take_all n out h) z ∙ append-nil out) ∙ e
