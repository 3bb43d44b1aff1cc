-- What is answered of orders to a store.
use Rattle.std.specs.Prelude.{◌≡◌, ℕ, ◌+◌, ◌%◌, ◌/◌, ◌<◌, true, false, List, [], ◌∷◌, ◌++◌}
use Rattle.values.specs.declared.marked.Marked.TheVariants.{Code}
use Rattle.stores.specs.Meaning.{Dropped, Put}
use Rattle.machine.specs.Machine.{Entries, Taken}
use Rattle.machine.specs.Values.{word, read, wrapped}
use Rattle.exports.specs.Stores.{ByKind}

module _ {S : Type 0} (entry : S → Entries) (taken : S → Taken) where
  -- A verb at the address a on the store s, after which it is t and the sum of the words that were got so far is sum'.
  pub record Done (verb a sum : ℕ) (s : S) (sum' : ℕ) (t : S) : Type 0 where
    pub got : verb ≡ 0 → (t ≡ s) × (sum' ≡ wrapped (sum + word (read (entry s a) 0)))
    pub counted : 0 < verb → sum' ≡ sum
    pub refused : verb ≡ 1 → taken s a ≡ false → t ≡ s
    pub put : verb ≡ 1 → taken s a ≡ true → Put (entry s) (entry t) (taken s) (taken t) a (Code a)
    pub dropped : 1 < verb → Dropped (entry s) (entry t) (taken s) (taken t) a

  -- Orders, one after another, each a verb times 65,536 and an address.
  pub data Orders (s : S) : List ℕ → ℕ → S → Type 0 where
    none : Orders s [] 0 s
    then : {ws : List ℕ} {sum sum' : ℕ} {t u : S} (w : ℕ) → Orders s ws sum t → Done (w / 65536) (w % 65536) sum t sum' u → Orders s (ws ++ w ∷ []) sum' u

  -- n is the sum of what these orders to s got.
  abbrev pub Obeyed : S → List ℕ → ℕ → Type 0
  Obeyed s ws n = (left : S) × Orders s ws n left

-- these orders to a store of this kind and so many slots got the sum n
abbrev pub HasObeyed : (kind slots : ℕ) → List ℕ → ℕ → Type 0
HasObeyed kind slots ws n = ByKind kind 65536 slots (λ S entry taken keeps s. Obeyed entry taken s ws n)
