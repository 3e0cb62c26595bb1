-- A windows text is read from its spelling, one without a fault was spelled so, and of one with a fault the first wrong line is named.
use mathlib.Core.Path.{◌≡◌, refl, ap, ◌∙◌}
use mathlib.Core.List.{List, [], ◌∷◌}
use mathlib.Core.Bool.{Bool, true, false, cond}
use mathlib.Core.Logic.{◌⊎◌, inl, inr}
use Prim.Native.Nat.{ℕ, zero, suc, ◌<◌}
use native.Mathlib.Omega.{arith}
use lib.Dec.{eqb}
use lib.ListN.{length}
use Rattle.lists.specs.Lists.{All, none_left, ◌and◌}
use Rattle.windows.specs.declared.Window.{Window}
use Rattle.windows.specs.Windows.{is_window}
use Rattle.listing.specs.Windows.{WindowDue, window, wrong, FaultValues, window_due, fault_due, beyond, fault_from, hours_from}
use Rattle.listing.specs.Spelled.{window_line, windows_text, window_cells, Spells, FirstWrong, WindowsTexts}
use Rattle.listing.proofs.LineSpelled.{line_read, Spelled, due-spelled}

-- ---- a text is read from its spelling
text-read : (ws : List Window) (line : ℕ) → All (λ w. is_window w ≡ true) ws
    → ((fault_from (length ws) line (windows_text ws)).reason ≡ 0) × (hours_from (length ws) (windows_text ws) ≡ window_cells ws)
text-read [] line s = (refl, refl)
text-read (w ∷ ws) line (◌and◌ h s) =
    let g = text-read ws (suc line) s in
    let e = line_read w.from w.to (windows_text ws) h in
    (rw e g.0, rw e (ap (λ (l : List ℕ). w.from ∷ w.to ∷ l) g.1))

-- ---- a text without a fault was spelled so
beyond-some : (d : WindowDue) → beyond d ≡ 0 → ⊥
beyond-some (window from to rest) e = omega (arith, e)
beyond-some (wrong reason) e = go (eqb reason 1) e
  where
    go : (v : Bool) → cond v 3 (suc reason) ≡ 0 → ⊥
    go true h = omega (arith, h)
    go false h = omega (arith, h)

text-spelled : (n line : ℕ) (t : List ℕ) → (fault_from n line t).reason ≡ 0 → (ws : List Window) × Spells n t ws
text-spelled zero line [] e = ([], record { many = refl; stated = none_left; text = refl })
text-spelled zero line (b ∷ t) e = absurd (beyond-some (window_due (b ∷ t)) e)
text-spelled (suc n) line t e = go (window_due t) (due-spelled t) e (text-spelled n (suc line))
  where
    go : (d : WindowDue) → Spelled t d → (fault_due d line (fault_from n (suc line))).reason ≡ 0
        → ((u : List ℕ) → (fault_from n (suc line) u).reason ≡ 0 → (ws : List Window) × Spells n u ws) → (ws : List Window) × Spells (suc n) t ws
    go (wrong reason) s h f = absurd (omega (arith, h))
    go (window from to rest) s h f =
        let g = f rest h in (
          record { from = from; to = to } ∷ g.0,
          record { many = ap suc g.1.many; stated = ◌and◌ s.1 g.1.stated; text = s.0 ∙ ap (window_line from to) g.1.text },
        )

-- ---- the first line that is wrong
first-wrong : (n line : ℕ) (t : List ℕ) (r : ℕ) → (fault_from n line t).reason ≡ suc r
    → (ws : List Window) × (rest : List ℕ) × FirstWrong n line t (fault_from n line t) ws rest
first-wrong zero line [] r e = absurd (omega (arith, e))
first-wrong zero line (b ∷ t) r e =
    ([], b ∷ t, record { stated = none_left; text = refl; named = omega arith; here = inr (refl, omega arith, refl) })
first-wrong (suc n) line t r e = go (window_due t) refl (due-spelled t) e (first-wrong n (suc line))
  where
    go : (d : WindowDue) → window_due t ≡ d → Spelled t d → (fault_due d line (fault_from n (suc line))).reason ≡ suc r
        → ((u : List ℕ) (q : ℕ) → (fault_from n (suc line) u).reason ≡ suc q → (ws : List Window) × (rest : List ℕ) × FirstWrong n (suc line) u (fault_from n (suc line) u) ws rest)
        → (ws : List Window) × (rest : List ℕ) × FirstWrong (suc n) line t (fault_due d line (fault_from n (suc line))) ws rest
    go (wrong reason) k s h f = ([], t, record { stated = none_left; text = refl; named = omega arith; here = inl (omega arith, reason, k, refl) })
    go (window from to rest) k s h f = more-wrong (f rest r h)
      where
        due-here : (m : ℕ) (v : FaultValues) (u : List ℕ)
            → ((m < n) × (q : ℕ) × (window_due u ≡ wrong q) × (v.reason ≡ suc q)) ⊎ ((m ≡ n) × (0 < length u) × (v.reason ≡ beyond (window_due u)))
            → ((suc m < suc n) × (q : ℕ) × (window_due u ≡ wrong q) × (v.reason ≡ suc q)) ⊎ ((suc m ≡ suc n) × (0 < length u) × (v.reason ≡ beyond (window_due u)))
        due-here m v u (inl (l, q, i, j)) = inl (omega (arith, l), q, i, j)
        due-here m v u (inr (l, i, j)) = inr (ap suc l, i, j)

        more-wrong : (ws : List Window) × (u : List ℕ) × FirstWrong n (suc line) rest (fault_from n (suc line) rest) ws u
            → (ws : List Window) × (u : List ℕ) × FirstWrong (suc n) line t (fault_from n (suc line) rest) ws u
        more-wrong (ws, u, g) = (
          record { from = from; to = to } ∷ ws,
          u,
          record {
            stated = ◌and◌ s.1 g.stated;
            text = s.0 ∙ ap (window_line from to) g.text;
            named = omega (arith, g.named);
            here = due-here (length ws) (fault_from n (suc line) rest) u g.here;
          },
        )

pub windows-texts : WindowsTexts
windows-texts =
    record {
      read = λ n t ws s. rw (← s.many, s.text) (text-read ws 1 s.stated);
      spelled = λ n t e. text-spelled n 1 t e;
      first = λ n t r e. first-wrong n 1 t r e;
    }
