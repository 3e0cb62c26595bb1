use Rattle.std.proofs.Common.{◌≡◌, ◌≢◌, ℕ, ◌<◌, ◌+◌, length, refl, sym, ap, ◌∙◌, arith, below_more, get_or-set_other, get_or-set_same}
use lib.ListN.{length-set}
use lib.Seq.{ext_get_or}
use Rattle.lists.proofs.Kept.{length-upto, get_d-upto}
use Rattle.c_cells.specs.Cells.{ticket_in}
use Rattle.c_rounds.specs.RoundCells.{twelve_of, tickets_in}
use Rattle.c_rounds.proofs.Puts.{twelve-at}
use Rattle.c_rounds_codec.proofs.tickets_in.Goals as goal

pub loop-i-init : goal.loop-i-init
loop-i-init c = (refl, λ k h. absurd (omega arith))

pub loop-i-preserved : goal.loop-i-preserved
loop-i-preserved c =
    let lt : c.loop-i.i < length c.loop-i.ticket-items = omega (arith, c.loop-i-test.true, c.loop-i.invariant.0) in (
      length-set _ _ _ ∙ c.loop-i.invariant.0,
      below_more _ _
          (λ k h. let ne : k ≢ c.loop-i.i = omega arith in rw get_or-set_other (c.loop-i.invariant.1 k h))
          (rw get_or-set_same (c.ticket_at.ensures ∙ ap ticket_in (twelve-at c.args.cells.now c.loop-i.i))),
    )

pub returns : goal.returns
unfolding tickets_in
returns c =
    let f = λ (t : ℕ). ticket_in (twelve_of c.args.cells.now t) in
    ext_get_or (f 1) c.loop-i.ticket-items _ (c.loop-i.invariant.0 ∙ sym (length-upto f 1 16))
    (λ k h. c.loop-i.invariant.1 k (omega (arith, c.loop-i.invariant.0, c.loop-i-test.false)) ∙ sym (get_d-upto f 1 16 k (f 1) (omega (arith, c.loop-i.invariant.0))))
