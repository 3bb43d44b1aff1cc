use Rattle.std.proofs.Common.{◌≡◌, ◌≤◌, length, take}
use Rattle.parts.specs.Content.{kinds, globals}
use Rattle.tables.specs.Tables.{words}
use Rattle.tables.proofs.Words.{PlacedTo}
use Rattle.tables.proofs.places.place_all.Given as goal

abbrev pub invariant-loop-k : goal.invariant-loop-k
invariant-loop-k l = record {
  next : l.heap ≡ words (kinds l.types) (take l.k (globals l.rows));
  within : l.heap ≤ l.limit;
  long : length l.spans ≡ 64;
  placed : PlacedTo (kinds l.types) (globals l.rows) l.spans l.k;
}
