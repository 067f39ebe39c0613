use Rattle.std.proofs.Common.{rules, List, ℕ, Bor}
use Rattle.litmus_standing.proofs.Rows.{short-row}
use Rattle.litmus_standing.proofs.samples.row_at.Goals as goal

pub returns-clause-sample : goal.returns-clause-sample
returns-clause-sample c = search (rules, short-row {R = Bor (List ℕ) × Bor (List ℕ)} (λ r. r.0.now) 8)

pub returns-clause-words : goal.returns-clause-words
returns-clause-words c = search (rules, short-row {R = Bor (List ℕ) × Bor (List ℕ)} (λ r. r.1.now) 40)
