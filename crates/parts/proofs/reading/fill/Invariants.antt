use Rattle.std.proofs.Common.{◌≡◌, length, take}
use Rattle.records.specs.Rows.{readings}
use Rattle.parts.proofs.reading.fill.Given as goal

abbrev pub invariant-loop-k : goal.invariant-loop-k
invariant-loop-k g l = record {
  long : length l.places ≡ length l.initial.places;
  read : take l.k l.places ≡ take l.k (readings g.R.Record.meant l.blank l.rows);
}
