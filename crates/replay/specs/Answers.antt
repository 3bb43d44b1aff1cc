-- How an answer is written.
use Rattle.std.specs.Prelude.{ℕ, true, false, List, Some, None, Ok, Err, codes}
use Rattle.values.specs.Written.{written}
use Rattle.replay.specs.declared.answer.Answer.{Answer}
use Rattle.replay.specs.declared.answer.Answer.TheVariants.{Dropped, Held, Made, NoStore, Put, Taken}

abbrev pub shown_answer : Answer → List ℕ
shown_answer Made = codes "store made"
shown_answer (Put (Ok done)) = codes "put"
shown_answer (Put (Err refused)) = codes "not taken"
shown_answer Dropped = codes "dropped"
shown_answer (Held (Some v)) = written v
shown_answer (Held None) = codes "nothing"
shown_answer (Taken true) = codes "yes"
shown_answer (Taken false) = codes "no"
shown_answer NoStore = codes "no store"
