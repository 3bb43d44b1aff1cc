use Rattle.std.proofs.Common.{◌≡◌, ℕ, ◌<◌, [], get_or, length}
use Rattle.records.specs.Words.{word_at}
use Rattle.records.proofs.rows.words_in.Given as goal

abbrev pub invariant-loop-k : goal.invariant-loop-k
invariant-loop-k g l = record {
  long : length l.word-items ≡ g.row.N;
  each : (j : ℕ) → j < l.k → get_or l.word-items j 0 ≡ word_at (get_or l.row j []) 0;
}
