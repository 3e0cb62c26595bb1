-- Bytes of texts, and parts of them, each ended by one byte.
use Rattle.std.specs.Prelude.{List, [], ◌∷◌, cond, ℕ, zero, suc, eqb}
use Prim.Native.Char.{code}
use Prim.Native.String.{String, [] as noText, ◌∷◌ as ◌then◌}

-- the bytes of a text that is ASCII
abbrev pub ascii : String → List ℕ
ascii noText = []
ascii (c then s) = code c ∷ ascii s

-- what stands before the first byte e, or all where there is none
unfoldable pub up_to : (e : ℕ) → List ℕ → List ℕ
up_to e [] = []
up_to e (b ∷ t) = cond (eqb b e) [] (b ∷ up_to e t)

-- what stands behind the first byte e, or nothing where there is none
unfoldable pub behind_first : (e : ℕ) → List ℕ → List ℕ
behind_first e [] = []
behind_first e (b ∷ t) = cond (eqb b e) t (behind_first e t)

-- the part of a number, from 0: what stands behind so many bytes e, up to the next one
unfoldable pub text_part : (e n : ℕ) → List ℕ → List ℕ
text_part e zero t = up_to e t
text_part e (suc n) t = text_part e n (behind_first e t)
