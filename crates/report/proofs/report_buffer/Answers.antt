use Rattle.std.proofs.Common.{◌≡◌, ℕ, length, replicate, sym}
use Rattle.std.proofs.lemmas.List.{length-replicate}
use Rattle.report.proofs.report_buffer.Goals as goal

-- of any length, so that none is computed
sized : (n : ℕ) → n ≡ length {A = ℕ} (replicate n 0)
sized n = sym (length-replicate n 0)

pub returns-clause-value : goal.returns-clause-value
returns-clause-value c = sized 655360
