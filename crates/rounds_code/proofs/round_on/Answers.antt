-- `rounds_code::round_on`: 22, then the clients' causes, then all are served.
use mathlib.Core.Path.{◌≡◌, sym, ◌∙◌}
use mathlib.Core.Bool.{true}
use native.Mathlib.Omega.{arith}
use lib.ListN.{length}
use Rattle.plan.proofs.Causes.{number-above}
use Rattle.rounds.specs.Rounds.{fits_round}
use Rattle.rounds_code.specs.Parts.{request}
use Rattle.rounds.proofs.Causes.{Fitting, fits-yes}
use Rattle.rounds_code.proofs.Answers.{round-refused, round-given, by-numbers, by-clients}
use Rattle.rounds_code.proofs.round_on.Goals as goal

pub returns-then-not-is_fitting : goal.returns-then-not-is_fitting
returns-then-not-is_fitting c = λ t plain k. let q = (request t plain c.args.walk.now.order.now c.args.m c.args.first c.args.budget c.args.tickets c.args.counters.now c.args.table.now) in round-refused q 22 (by-numbers q k.passed (sym c.is_fitting.ensures ∙ c.if-not-is_fitting.true)) (λ z. omega arith) _ c.refused_round.ensures

pub check_clients-requires : goal.check_clients-requires
check_clients-requires c =
    let fit : fits_round c.args.m c.args.first c.args.budget (length c.args.counters.now) ≡ true = sym c.is_fitting.ensures ∙ c.if-not-is_fitting.false in
    let fitting : Fitting c.args.m c.args.first c.args.budget (length c.args.counters.now) = fits-yes _ _ _ _ fit in
    let g = fitting in record { framing = (c.requires.0, c.requires.1); m_bound = (g.few, omega (arith, g.one_each)) }

pub returns-in-Err : goal.returns-in-Err
returns-in-Err c =
    let fit : fits_round c.args.m c.args.first c.args.budget (length c.args.counters.now) ≡ true = sym c.is_fitting.ensures ∙ c.if-not-is_fitting.false in
    λ t plain k. let q = (request t plain c.args.walk.now.order.now c.args.m c.args.first c.args.budget c.args.tickets c.args.counters.now c.args.table.now) in round-refused q _ (by-clients q k.passed fit _ (c.in-Err.ensures t plain k)) (number-above _) _ c.refused_round-in-Err.ensures

pub overflow_cast-budget : goal.overflow_cast-budget
overflow_cast-budget c =
    let fit : fits_round c.args.m c.args.first c.args.budget (length c.args.counters.now) ≡ true = sym c.is_fitting.ensures ∙ c.if-not-is_fitting.false in
    let fitting : Fitting c.args.m c.args.first c.args.budget (length c.args.counters.now) = fits-yes _ _ _ _ fit in
    omega (arith, fitting.low)

pub serve_all-pages-requires : goal.serve_all-pages-requires
serve_all-pages-requires c =
    let fit : fits_round c.args.m c.args.first c.args.budget (length c.args.counters.now) ≡ true = sym c.is_fitting.ensures ∙ c.if-not-is_fitting.false in
    let fitting : Fitting c.args.m c.args.first c.args.budget (length c.args.counters.now) = fits-yes _ _ _ _ fit in
    let g = fitting in record { framing = (c.requires.0, c.requires.1); m_bound = (g.few, g.from, g.to, g.one_each) }

pub after_client-requires : goal.after_client-requires
after_client-requires c =
    let fit : fits_round c.args.m c.args.first c.args.budget (length c.args.counters.now) ≡ true = sym c.is_fitting.ensures ∙ c.if-not-is_fitting.false in
    let fitting : Fitting c.args.m c.args.first c.args.budget (length c.args.counters.now) = fits-yes _ _ _ _ fit in
    fitting.to

pub returns : goal.returns
returns c =
    let fit : fits_round c.args.m c.args.first c.args.budget (length c.args.counters.now) ≡ true = sym c.is_fitting.ensures ∙ c.if-not-is_fitting.false in
    λ t plain k. let q = (request t plain c.args.walk.now.order.now c.args.m c.args.first c.args.budget c.args.tickets c.args.counters.now c.args.table.now) in round-given q (by-clients q k.passed fit 0 (c.in-Ok.ensures t plain k)) _ _ _ (c.serve_all-pages.ensures t plain k) _ c.after_client.ensures
