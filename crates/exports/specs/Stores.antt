-- The stores that a caller can choose from: array, hash, and hash behind a window.
use Rattle.std.specs.Prelude.{◌≡◌, ℕ, ◌⊎◌, None, replicate, vec_items}
use Rattle.values.specs.declared.marked.Marked.{Marked}
use Rattle.machine.specs.Machine.{Entries, Taken}
use Rattle.stores.specs.Slots.{SlotsKept}
use Rattle.array_store.specs.Array.{array_entry, array_kept, array_taken}
use Rattle.array_store.specs.declared.ArrayStore.{ArrayStore}
use Rattle.hash_store.specs.Hash.{hash_entry, hash_taken}
use Rattle.hash_store.specs.declared.HashStore.{HashStore}
use Rattle.window.specs.Window.{WindowKept, window_entry, window_taken}
use Rattle.window.specs.declared.Window.{Window}

-- what a hash store holds
abbrev pub hash_entries : HashStore Marked → Entries
hash_entries s = hash_entry (vec_items s.slots)

-- which addresses it takes
abbrev pub hash_takes : HashStore Marked → Taken
hash_takes s = hash_taken (vec_items s.slots)

-- what it keeps over a call
abbrev pub hash_keeps : HashStore Marked → HashStore Marked → Type 0
hash_keeps s t = SlotsKept (vec_items s.slots) (vec_items t.slots)

-- there is no such kind
abbrev pub NoKind : ℕ → Type 0
NoKind kind = (kind ≡ 0 → ⊥) × (kind ≡ 1 → ⊥) × (kind ≡ 2 → ⊥)

-- there is no store: no such kind, or no room, and that may come at any time
abbrev pub NoStore : ℕ → ℕ → Type 0
NoStore kind k = (NoKind kind × (k ≡ 10)) ⊎ (k ≡ 0)

-- there is a store of the kind that is meant, on so many empty slots and with a window of so many addresses, of which this is so, with what it holds, takes and keeps
abbrev pub ByKind : (kind len slots : ℕ) → ((S : Type 0) → (S → Entries) → (S → Taken) → (S → S → Type 0) → S → Type 0) → Type 0
ByKind kind len slots So =
    ((kind ≡ 0) × (s : ArrayStore Marked) × (vec_items s.slots ≡ replicate slots None) × So (ArrayStore Marked) array_entry array_taken array_kept s)
    ⊎ (((kind ≡ 1) × (s : HashStore Marked) × (vec_items s.slots ≡ replicate slots None) × So (HashStore Marked) hash_entries hash_takes hash_keeps s)
    ⊎ ((kind ≡ 2) × (w : Window (HashStore Marked)) × (w.base ≡ 1000) × (w.len ≡ len) × (vec_items w.below.slots ≡ replicate slots None)
    × So (Window (HashStore Marked)) (window_entry hash_entries) (window_taken hash_takes) (WindowKept hash_keeps hash_entries) w))
