-- Slots in a ring, where each entry stands at its home or behind it, and a cluster's entries in the order of their homes.
use Rattle.std.specs.Prelude.{◌≡◌, ℕ, ◌+◌, ◌-◌, ◌%◌, ◌<◌, ◌≤◌, true, false, cond, ◌==◌, List, [], ◌∷◌, length, Some, None, Option, nat_lt, slice_index_or, slice_set}
use Rattle.hash_store.specs.Counting.{held_count}
pub use Rattle.hash_store.specs.Hash.{lookup, room}
use Rattle.hash_store.specs.Holding.{SlotOf, has, is_empty}

-- where an address is first looked for, in n slots: neighbours have neighbouring homes
unfoldable pub home_of : ℕ → ℕ → ℕ
home_of a n = a % n

-- d places on from h in a ring of n
abbrev pub ring : ℕ → ℕ → ℕ → ℕ
ring h d n = cond (nat_lt (h + d) n) (h + d) (h + d - n)

-- how many places on from h the place j is
abbrev pub away : ℕ → ℕ → ℕ → ℕ
away h j n = cond (nat_lt j h) (j + n - h) (j - h)

module _ {V : Type 0} where
  abbrev pub slot_at : List (SlotOf V) → ℕ → SlotOf V
  slot_at xs i = slice_index_or xs i None

  -- how many slots hold an entry
  abbrev pub count : List (SlotOf V) → ℕ
  count [] = 0
  count (x ∷ xs) = cond (is_empty x) 0 1 + count xs

  -- two slots that hold the address a
  pub record Two (xs : List (SlotOf V)) : Type 0 where
    pub a : ℕ
    pub i : ℕ
    pub j : ℕ
    pub one : has (slot_at xs i) a ≡ true
    pub other : has (slot_at xs j) a ≡ true

  -- An address is held in one slot at most.
  abbrev pub Single : List (SlotOf V) → Type 0
  Single xs = (t : Two xs) → t.i ≡ t.j

  -- How far from its home an entry stands at the place p of n, counted from one; an empty slot counts none.
  abbrev pub reach : ℕ → ℕ → SlotOf V → ℕ
  reach n p None = 0
  reach n p (Some (k, v)) = away (home_of k n) p n + 1

  -- From each place to the next it grows by one at most. So no slot between an entry and its home is empty, nor holds an entry that is nearer to its own home by as much.
  abbrev pub Ordered : ℕ → List (SlotOf V) → Type 0
  Ordered n xs = (p : ℕ) → p < n → reach n (ring p 1 n) (slot_at xs (ring p 1 n)) ≤ reach n p (slot_at xs p) + 1

  -- The slots of a store: each address is held in one slot at most, in order, and as many addresses are held as slots are filled.
  pub record Sound (xs : List (SlotOf V)) : Type 0 where
    pub counts : held_count (lookup xs) ≡ count xs
    pub single : Single xs
    pub ordered : Ordered (length xs) xs

  -- No slot holds the address a.
  abbrev pub Absent : List (SlotOf V) → ℕ → Type 0
  Absent xs a = (i : ℕ) → has (slot_at xs i) a ≡ false

  -- Where a search for a ends: at the slot that holds it, or nowhere if none does.
  abbrev pub Found : List (SlotOf V) → ℕ → Option ℕ → Type 0
  Found xs a (Some i) = (i < length xs) × (has (slot_at xs i) a ≡ true)
  Found xs a None = Absent xs a

  -- An entry for a can stand at the place i: it is no farther from home than one behind the entry before it may be, and what stands there may stand behind it.
  pub record Fits (n : ℕ) (xs : List (SlotOf V)) (a i : ℕ) : Type 0 where
    pub inside : i < n
    pub before : (q : ℕ) → q < n → ring q 1 n ≡ i → away (home_of a n) i n ≤ reach n q (slot_at xs q)
    pub after : reach n i (slot_at xs i) ≤ away (home_of a n) i n + 1

  -- The slots ys hold what xs hold, and v at the address a, which xs don't hold.
  pub record Opened (xs ys : List (SlotOf V)) (a : ℕ) (v : V) : Type 0 where
    pub single : Single ys
    pub ordered : Ordered (length ys) ys
    pub counts : count ys ≡ count xs + 1
    pub same : (b : ℕ) → lookup ys b ≡ cond (a == b) (Some v) (lookup xs b)

  -- The slots ys hold what xs hold but for the slot i.
  pub record Closed (xs ys : List (SlotOf V)) (i : ℕ) : Type 0 where
    pub single : Single ys
    pub ordered : Ordered (length ys) ys
    pub counts : count ys ≡ count (slice_set xs i None)
    pub same : (b : ℕ) → lookup ys b ≡ lookup (slice_set xs i None) b
