-- Where a module's globals lie, and where its heap begins.
use Rattle.std.proofs.Common.{◌≡◌, ℕ, ◌+◌, ◌<◌, length, get_or, take, ap}
use native.Mathlib.Nat.{ℕ_set}
use Rattle.std.proofs.lemmas.Option.{get_or_from_slice_get}
use Rattle.tables.specs.Tables.{words}
use Rattle.tables.specs.declared.places.Span.{Span}
use Rattle.module.specs.declared.module.Module.{Module}
use Rattle.module.specs.Modules.{said}

pub heap_there : (m : Module) → m.places.heap ≡ words (said m).types (said m).globals
heap_there m = ∥∥₁_rec (ℕ_set _ _) (λ p. p.heap_is) m.placed

abbrev pub no_span : Span
no_span = record { low = 0; high = 0 }

module _ (m : Module) (g : ℕ) where
  pub low_there : g < length (said m).globals → (get_or m.places.spans g no_span).low ≡ words (said m).types (take g (said m).globals)
  low_there l = ∥∥₁_rec (ℕ_set _ _) (λ p. ap (λ (s : Span). s.low) (get_or_from_slice_get m.places.spans g _ no_span (p.placed.each g l))) m.placed

  pub high_there : g < length (said m).globals → (get_or m.places.spans g no_span).high ≡ words (said m).types (take (g + 1) (said m).globals)
  high_there l = ∥∥₁_rec (ℕ_set _ _) (λ p. ap (λ (s : Span). s.high) (get_or_from_slice_get m.places.spans g _ no_span (p.placed.each g l))) m.placed
