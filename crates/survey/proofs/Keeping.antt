-- Sound records in the words of the promises, and which records are kept.
use mathlib.Core.Path.{◌≡◌, refl, sym, ap, ◌∙◌}
use mathlib.Core.List.Memᴰ
use mathlib.Core.List.{List, [], ◌∷◌}
use mathlib.Core.Bool.{Bool, true}
use mathlib.Core.Logic.{◌↔◌}
use Prim.Native.Nat.{ℕ, ◌/◌, ◌<◌}
use native.Mathlib.Omega.{arith}
use lib.ListN.{length}
use lib.Ieee.{Float}
use Rattle.lists.specs.Lists.{All, none_left, ◌and◌, done, ◌then◌, upto, keep}
use Rattle.lists.proofs.Tests.{both, and-true}
use Rattle.lists.proofs.Lists.{all-at}
use Rattle.lists.proofs.Kept.{all_keep, pairwise-keep, mem-keep, keep-map, map_each, all-each, mem-each, pairwise-each}
use Rattle.geometry.proofs.Rectangles.{ranged, in-range}
use Rattle.survey.specs.declared.Corners.{Corners}
use Rattle.survey.specs.declared.Strip.{Strip}
use Rattle.survey.specs.Records.{corners_at, cover_of, sound_record, kept_by}
use Rattle.survey.specs.CoverCall.{kept}
use Rattle.survey.specs.Theorems.{Meets, SoundStops, Surveyed, Recorded, KeptAt}
use Rattle.survey.proofs.Covers.{sound→, →sound}
use Rattle.survey.proofs.Strips.{meets→, →meets}

-- ---- sound records
pub surveyed : (c : Corners) → sound_record c ≡ true → Surveyed c
surveyed c e = let s = sound→ c e in (s.across, s.upward, ranged (cover_of c) s.held)

pub sound-of : (c : Corners) → Surveyed c → sound_record c ≡ true
sound-of c s = →sound c (record { across = s.0; upward = s.1; held = in-range (cover_of c) s.2 })

pub kept-is : (across upward : Strip) (c : Corners) → SoundStops across → SoundStops upward → Surveyed c
    → (kept_by across upward c ≡ true) ↔ (Meets across c.left c.right × Meets upward c.bottom c.top)
unfolding kept_by
kept-is across upward c a u s = (
  λ e. let h = both _ _ e in (meets→ c.left c.right s.0 across a h.0, meets→ c.bottom c.top s.1 upward u h.1),
  λ h. and-true _ _ (→meets c.left c.right s.0 across a h.0) (→meets c.bottom c.top s.1 upward u h.1),
)

-- the places of those that are kept
pub kept_at : (across upward : Strip) (corners : List Float) → SoundStops across → SoundStops upward → Recorded corners → (places : List ℕ) × KeptAt across upward corners (kept across upward corners) places
kept_at across upward corners a u h = (
  keep takes all,
  record {
    are = sym (ap (keep (kept_by across upward)) (map_each (corners_at corners) (λ q. q ∷ []) 0 n)) ∙ keep-map (kept_by across upward) (corners_at corners) all;
    order = pairwise-keep takes (pairwise-each (λ q i. i ≡ q) (λ q. q ∷ []) (λ q. ◌and◌ refl none_left) (λ q. ◌then◌ none_left done) (λ p q i j l e f. omega arith) 0 n);
    which = λ i. (
      λ m. let k = all-at (all_keep takes below) m in let m = (kept-is across upward (corners_at corners i) a u (h.1 i k.0)).0 k.1 in (k.0, m.0, m.1),
      λ k. mem-keep takes (mem-each (λ q. q ∷ []) 0 n i (omega arith) (omega (arith, k.0)) (Memᴰ.head refl)) ((kept-is across upward (corners_at corners i) a u (h.1 i k.0)).1 (k.1, k.2)),
    );
  },
)
  where
    n : ℕ
    n = length corners / 4

    takes : ℕ → Bool
    takes i = kept_by across upward (corners_at corners i)

    all : List ℕ
    all = upto (λ q. q) 0 n

    below : All (λ i. i < n) all
    below = all-each (λ q. q ∷ []) 0 n (λ q k l. ◌and◌ (omega arith) none_left)
