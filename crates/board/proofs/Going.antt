-- A go's events, cut to the steps that it made, are told.
use Rattle.std.proofs.Common.{◌≡◌, ℕ, List, length, take, Ok, Err, Result, vec_items, refl, ap, ◌∙◌, subst}
use Rattle.std.specs.Vec.{with_items}
use Rattle.std.specs.declared.alloc.Global.{Global}
use Rattle.std.specs.declared.vec.Vec.{Vec}
use Rattle.std.proofs.lemmas.List.{with_items_is}
use Rattle.machine.specs.Goes.{Go}
use Rattle.machine.specs.Machine.{Entries, Taken}
use Rattle.machine.specs.declared.event.Event.{Event}
use Rattle.machine.specs.declared.gone.Gone.{Gone}
use Rattle.machine.specs.declared.refusal.NotReady.{NotReady}
use Rattle.runs.specs.Seen.{seen}
use Rattle.runs.specs.declared.run.Run.{Run}
use Rattle.board.specs.Runs.{Moved, WentSo}
use Rattle.board.specs.declared.report.Report.{Report}
use Rattle.board.specs.declared.report.Report.TheVariants as tells

module _ {S : Type 0} (entry : S → Entries) (taken : S → Taken) (keeps : S → S → Type 0) (r r' : Run S) (memory memory' : List ℕ) (v made : Vec Event Global) (old events : List Event)
    (at : old ≡ vec_items v) (same : r'.«module» ≡ r.«module») (kept : keeps r.live.store r'.live.store) where
  abbrev pub Went : Report → Type 0
  Went t = (answer : Result Gone NotReady) × (events : List Event) × WentSo answer events t × Moved entry taken keeps (λ s s'. Go r.«module» s (vec_items v) answer s' events) r memory r' memory'

  went : (answer : Result Gone NotReady) → WentSo answer events (tells.Went answer made) → Go r.«module» (seen entry taken r memory) old answer (seen entry taken r' memory') events → Went (tells.Went answer made)
  went answer told go = (answer, events, told, record { module_is = same; kept = kept; so = subst (λ (l : List Event). Go r.«module» (seen entry taken r memory) l answer (seen entry taken r' memory') events) at go })

  pub went_made : (g : Gone) → length events ≡ v.len → vec_items made ≡ take g.made (vec_items (with_items v events)) → Go r.«module» (seen entry taken r memory) old (Ok g) (seen entry taken r' memory') events → Went (tells.Went (Ok g) made)
  went_made g long first = went (Ok g) (made, refl, first ∙ ap (take g.made) (with_items_is v events long))

  pub went_none : (why : NotReady) → length events ≡ v.len → vec_items made ≡ vec_items (with_items v events) → Go r.«module» (seen entry taken r memory) old (Err why) (seen entry taken r' memory') events → Went (tells.Went (Err why) made)
  went_none why long whole = went (Err why) (made, refl, whole ∙ with_items_is v events long)
