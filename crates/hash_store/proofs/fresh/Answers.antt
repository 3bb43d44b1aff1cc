use Rattle.std.proofs.Common.{rules}
use Rattle.hash_store.proofs.Empties.{fresh_sound}
use Rattle.hash_store.proofs.fresh.Goals as goal

pub returns-clause-sound : goal.returns-clause-sound
returns-clause-sound g c = search (rules, fresh_sound)
