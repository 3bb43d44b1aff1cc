-- What judging one list answers.
use Rattle.std.specs.Prelude.{◌≡◌, ℕ, Some, None, Ok, Err, Option, Result}
use Rattle.records.specs.declared.list.ListOf.{ListOf}
use Rattle.records.specs.declared.record.RecordFault.{RecordFault}

abbrev pub Judged : {Y : Type 0} → Option ℕ → ListOf → Result Y RecordFault → Type 0
Judged first list (Ok _) = first ≡ None
Judged first list (Err f) = (f.list ≡ list) × (first ≡ Some f.record)
