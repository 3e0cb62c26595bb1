use Rattle.std.proofs.Common.{rules, ◌≡◌, ◌≤◌, ◌+◌, ◌-◌, ◌++◌, ◌∙◌, ℕ, List, length, take, sym, ap, subst, length-take-le}
use lib.Seq.{take-append-add}
use Rattle.std.proofs.lemmas.List.{take-append-le}
use borrow.Rule.Slice.PartMut.{put_mid}
use Rattle.std.specs.Io.KnownBytes.{Consumes}
use Rattle.std.proofs.KnownBytes.{Consumes-trans}
use Rattle.report.proofs.read_text.Goals as goal

-- what a read puts into the rest of the buffer stands behind what is there
filled : (a k m : ℕ) (xs ys : List ℕ) → a ≤ length xs → m ≤ length ys → take (a + m) (put_mid a k xs ys) ≡ take a xs ++ take m ys
filled a k m xs ys p q =
    ap (λ n. take (n + m) (put_mid a k xs ys)) (sym (length-take-le a xs p)) ∙ take-append-add (take a xs) _ m ∙ ap (λ l. take a xs ++ l) (take-append-le m ys _ q)

pub loop-n-preserved : goal.loop-n-preserved
loop-n-preserved g c =
    let before = c.loop-n.invariant in
    let more = c.in-Ok.ensures in
    let whole = filled c.loop-n.n (length c.loop-n.text - c.loop-n.n) c.in-Ok.more c.loop-n.text c.read.new.buf before.1 more.bound.0 in
    (search rules, search rules, subst (Consumes _ _) (sym whole) (Consumes-trans _ _ _ _ _ before.2 more.bytes.0))
