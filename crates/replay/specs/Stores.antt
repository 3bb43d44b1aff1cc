-- What a line about stores does to the loose store, and what it answers.
use Rattle.std.specs.Prelude.{◌≡◌, ℕ, Bool, true, false, cond, replicate, Some, None, Ok, Err, vec_items, Option, Result, MatchResult}
use Rattle.std.specs.declared.alloc.AllocError.{AllocError}
use Rattle.array_store.specs.declared.ArrayStore.{ArrayStore}
use Rattle.hash_store.specs.declared.HashStore.{HashStore}
use Rattle.stores.specs.Meaning as meaning
use Rattle.values.specs.declared.marked.Marked.{Marked}
use Rattle.window.specs.declared.Window.{Window}
use Rattle.script.specs.declared.command.Call.{Call}
use Rattle.script.specs.declared.command.Call.TheVariants as call
use Rattle.script.specs.declared.command.Command.{Command}
use Rattle.script.specs.declared.command.Command.TheVariants.{Ask, Build}
use Rattle.script.specs.declared.command.Make.{Make}
use Rattle.script.specs.declared.command.Make.TheVariants.{Array, Hash}
use Rattle.script.specs.declared.command.View.{View}
use Rattle.replay.specs.declared.answer.Answer.{Answer}
use Rattle.replay.specs.declared.answer.Answer.TheVariants.{Dropped, Held, Made, NoStore, Put, Taken}
use Rattle.replay.specs.declared.either.Either.{Either}
use Rattle.replay.specs.declared.either.Either.TheVariants.{First, Second}

abbrev pub Flat : Type 0
Flat = Either (ArrayStore Marked) (HashStore Marked)

abbrev pub Loose : Type 0
Loose = Either Flat (Window Flat)

-- of this make, with so many empty slots
abbrev pub FlatBuilt : Make → ℕ → Flat → Type 0
FlatBuilt Array n (First s) = vec_items s.slots ≡ replicate n None
FlatBuilt Hash n (Second s) = vec_items s.slots ≡ replicate n None
FlatBuilt make n _ = ⊥

-- the same, behind a window or not
abbrev pub Built : Option View → Make → ℕ → Loose → Type 0
Built None make n (First s) = FlatBuilt make n s
Built (Some v) make n (Second w) = (w.base ≡ v.base) × (w.len ≡ v.len) × FlatBuilt make n w.below
Built view make n _ = ⊥

-- The call on the store s answers r and leaves the store t.
abbrev pub Asked : {S : Type 0} → (S → ℕ → Option Marked) → (S → ℕ → Bool) → S → Call → Answer → S → Type 0
Asked entry taken s (call.Put a v) r t =
    (r ≡ Put (cond (taken s a) (Ok tt) (Err (record {})))) × (taken s a ≡ false → t ≡ s) × (taken s a ≡ true → meaning.Put (entry s) (entry t) (taken s) (taken t) a v)
Asked entry taken s (call.Drop a) r t = (r ≡ Dropped) × meaning.Dropped (entry s) (entry t) (taken s) (taken t) a
Asked entry taken s (call.Get a) r t = (r ≡ Held (entry s a)) × (t ≡ s)
Asked entry taken s (call.Takes a) r t = (r ≡ Taken (taken s a)) × (t ≡ s)

-- Of a loose store or none, the command leaves this one or none; for want of memory the same.
abbrev pub Obeyed : (Loose → ℕ → Option Marked) → (Loose → ℕ → Bool) → (Loose → Loose → Type 0) → Option Loose → Command → Result Answer AllocError → Option Loose → Type 0
Obeyed entry taken keeps before (Build shape) r after = MatchResult r (λ answer. (answer ≡ Made) × ((t : Loose) × (after ≡ Some t) × Built shape.view shape.make shape.slots t)) (λ _. after ≡ before)
Obeyed entry taken keeps None (Ask call) r after = (r ≡ Ok NoStore) × (after ≡ None)
Obeyed entry taken keeps (Some s) (Ask call) r after = (answer : Answer) × (t : Loose) × (r ≡ Ok answer) × (after ≡ Some t) × Asked entry taken s call answer t × keeps s t
