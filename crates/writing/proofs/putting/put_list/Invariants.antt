use Rattle.std.proofs.Common.{◌≡◌, ◌+◌, ◌*◌, take}
use Rattle.std.specs.List.{flat_map}
use Rattle.writing.specs.inside.Putting.{placed}
use Rattle.writing.proofs.Placing.{bytes}
use Rattle.writing.proofs.putting.put_list.Given as goal

abbrev pub invariant-loop-record : goal.invariant-loop-record
invariant-loop-record g l = record {
  next : l.at ≡ l.start + 4 * g.row.N * l.record-index;
  put : l.out ≡ placed l.initial.out l.start (flat_map (bytes g.R.Record.spelt) (take l.record-index l.records));
}
