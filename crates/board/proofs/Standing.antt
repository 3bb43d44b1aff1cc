-- A run of a board went on, and so did the board.
use Rattle.std.proofs.Common.{◌≡◌, ℕ, List, length, Some, None, Ok, Option, Result, vec_items, refl, sym, ap, subst}
use Rattle.std.specs.Vec.{with_items}
use Rattle.std.specs.declared.alloc.AllocError.{AllocError}
use Rattle.std.proofs.lemmas.List.{with_items_is}
use Rattle.machine.specs.Machine.{Entries, Sight, Taken}
use Rattle.machine.specs.Goes.{Go}
use Rattle.machine.specs.declared.event.Event.{Event}
use Rattle.machine.specs.declared.gone.Gone.{Gone}
use Rattle.machine.specs.declared.refusal.NotReady.{NotReady}
use Rattle.runs.specs.declared.run.Run.{Run}
use Rattle.board.specs.Runs.{Begins, BegunWith, Moved, Moves}
use Rattle.board.specs.declared.board.Board.{Board}
use Rattle.board.specs.declared.report.Report.{Report}
use Rattle.board.specs.declared.report.Report.TheVariants as tells

module _ {S : Type 0} (entry : S → Entries) (taken : S → Taken) (keeps : S → S → Type 0) (b : Board S) (t : Result Report AllocError) where
  pub moves : (So : Sight → Sight → Type 0) (r r' : Run S) (old new : List ℕ) → old ≡ vec_items b.memory → length new ≡ b.memory.len → Moved entry taken keeps So r old r' new
      → Moves entry taken keeps b t (record b { memory = with_items b.memory new; run = Some r' }) So r
  moves So r r' old new at long it =
      (r', refl, subst (λ l. Moved entry taken keeps So r l r' (vec_items (with_items b.memory new))) at (subst (Moved entry taken keeps So r old r') (sym (with_items_is b.memory new long)) it))

  pub gone : (room all : List Event) (answer : Result Gone NotReady) (events : List Event) (r r' : Run S) (old new : List ℕ) → room ≡ all
      → Moved entry taken keeps (λ s s'. Go r.«module» s room answer s' events) r old r' new → Moved entry taken keeps (λ s s'. Go r.«module» s all answer s' events) r old r' new
  gone room all answer events r r' old new is = subst (λ (l : List Event). Moved entry taken keeps (λ s s'. Go r.«module» s l answer s' events) r old r' new) is

  pub begins : (o l : Option S) (s : S) (r : Run S) → o ≡ Some s → l ≡ None → BegunWith entry taken keeps b.«module» s r → Begins entry taken keeps b (Ok tells.Begun) (record b { loose = l; run = Some r }) o
  begins o l s r is none it = rw is (refl, (r, ap (λ (l : Option S). record b { loose = l; run = Some r }) none, it))
