-- One order more.
use Rattle.std.specs.Prelude.{ℕ, ◌+◌, ◌%◌, ◌/◌, ◌<◌, List, length, take, get_or}
use Rattle.std.proofs.Common.{sym, subst}
use Rattle.std.proofs.lemmas.List.{take_more}
use Rattle.machine.specs.Machine.{Entries, Taken}
use Rattle.exports.specs.Orders.{Done, Orders, then}

pub one_more : {S : Type 0} (entry : S → Entries) (taken : S → Taken) (s : S) (ws : List ℕ) (k sum : ℕ) (t : S) (sum' : ℕ) (u : S)
    → k < length ws → Orders entry taken s (take k ws) sum t → Done entry taken (get_or ws k 0 / 65536) (get_or ws k 0 % 65536) sum t sum' u → Orders entry taken s (take (k + 1) ws) sum' u
one_more entry taken s ws k sum t sum' u lt p d =
    subst (λ (l : List ℕ). Orders entry taken s l sum' u) (sym (take_more ws k 0 lt)) (then (get_or ws k 0) p d)
