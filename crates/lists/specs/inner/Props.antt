-- Facts over lists have one proof at most; no public call's contract cites this.
use Rattle.std.specs.Prelude.{List, [], ◌∷◌, refl}
use Rattle.std.proofs.Math.Path.{ap₂}
use Rattle.lists.specs.Lists.{All, none_left, ◌and◌}

pub All-prop : {A : Type 0} {P : A → Type 0} → ((a : A) → IsProp (P a)) → (l : List A) → IsProp (All P l)
All-prop p [] none_left none_left = refl
All-prop p (a ∷ l) (◌and◌ x xs) (◌and◌ y ys) = ap₂ ◌and◌ (p a x y) (All-prop p l xs ys)
