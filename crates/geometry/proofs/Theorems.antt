-- The promises on rectangles hold.
use mathlib.Core.Path.{refl}
use Rattle.geometry.specs.declared.Rect.{Rect}
use Rattle.geometry.specs.Theorems.{CommonGround, Geometry}
use Rattle.geometry.proofs.Rectangles.{in_both, in-common, meets-point, point-meets, ranged, in-range, area-exact, grown-growing}
use Rattle.geometry.proofs.Sides.{handed, not-handed, kind-sides, kind-area}

common-ground : (a b : Rect) → CommonGround a b
common-ground a b = record {
  both = λ x y. (in_both x y a b, λ h. in-common x y a b h.0 h.1);
  meet = (meets-point a b, λ h. point-meets a b h.0 h.1 h.2.0 h.2.1);
  handed = λ h. handed a b h.0 h.1 h.2.0 h.2.1;
  apart = λ n. not-handed a b (λ x y h k. n (x, y, (h, k)));
}

pub geometry : Geometry
geometry = record {
  two = common-ground;
  one = λ r. record {
    range = (ranged r, in-range r);
    sides = λ w h p q. (area-exact r w h p q, kind-sides r w h p q);
    flat = kind-area r;
  };
  grown = grown-growing;
  letters = (refl, refl, refl);
}
