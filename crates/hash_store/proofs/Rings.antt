-- Places in a ring.
use Rattle.std.proofs.Common.{◌≡◌, ℕ, ◌+◌, ◌<◌, ◌≤◌, cond, nat_lt, mod-lt, sym, arith}
use Rattle.std.proofs.Math.Nat.{mod-eq_of_lt}
use Rattle.std.proofs.lemmas.Bool.Decides.{nat_tests}
use Rattle.hash_store.specs.inside.Probing.{home_of, ring, away}

pub ring_lt : (h d n : ℕ) → h < n → d < n → ring h d n < n
ring_lt h d n hn dn = grind (arith, nat_tests)

pub next_lt : (p n : ℕ) → p < n → ring p 1 n < n
next_lt p n lt = grind (arith, nat_tests)

pub next_same : (p q n : ℕ) → p < n → q < n → ring p 1 n ≡ ring q 1 n → p ≡ q
next_same p q n pn qn same = grind (arith, nat_tests)

pub away_lt : (h j n : ℕ) → h < n → j < n → away h j n < n
away_lt h j n hn jn = grind (arith, nat_tests)

pub ring_away : (h j n : ℕ) → h < n → j < n → ring h (away h j n) n ≡ j
ring_away h j n hn jn = grind (arith, nat_tests)

pub away_ring : (h d n : ℕ) → h < n → d < n → away h (ring h d n) n ≡ d
away_ring h d n hn dn = grind (arith, nat_tests)

pub ring_ring : (h s e n : ℕ) → h < n → s + e < n → ring (ring h s n) e n ≡ ring h (s + e) n
ring_ring h s e n hn lt = grind (arith, nat_tests)

pub ring_next : (h d n : ℕ) → h < n → d < n → ring (ring h d n) 1 n ≡ ring h (d + 1) n
ring_next h d n hn dn = grind (arith, nat_tests)

pub ring_ahead : (i m n : ℕ) → i + m < n → ring i m n ≡ i + m
ring_ahead i m n lt = grind (arith, nat_tests)

pub ring_end : (i m end n : ℕ) → i + m ≡ end → end ≤ n → cond (nat_lt end n) end 0 ≡ ring i m n
ring_end i m end n is le = grind (arith, nat_tests)

-- one place on, if that isn't home again
pub away_next : (h p n : ℕ) → h < n → p < n → away h p n + 1 < n → away h (ring p 1 n) n ≡ away h p n + 1
away_next h p n hn pn lt = grind (arith, nat_tests)

-- one place back, if that isn't home
pub away_back : (h p n : ℕ) → h < n → p < n → 0 < away h (ring p 1 n) n → away h (ring p 1 n) n ≡ away h p n + 1
away_back h p n hn pn lt = grind (arith, nat_tests)

pub away_none : (h j n : ℕ) → h ≡ j → away h j n ≡ 0
away_none h j n e = grind (arith, nat_tests)

pub away_some : (h j n : ℕ) → h < n → j < n → (h ≡ j → ⊥) → 0 < away h j n
away_some h j n hn jn ne = grind (arith, nat_tests)

-- the next place of one that isn't alone
pub next_other : (p e n : ℕ) → p < n → e < n → (p ≡ e → ⊥) → ring p 1 n ≡ p → ⊥
next_other p e n pn en ne same = grind (arith, nat_tests)

pub away_less : (p e n : ℕ) → p < n → e < n → (p ≡ e → ⊥) → away (ring p 1 n) e n + 1 ≡ away p e n
away_less p e n pn en ne = grind (arith, nat_tests)

pub home_inside : (a n : ℕ) → 0 < n → home_of a n < n
unfolding home_of
home_inside a n pos = mod-lt a pos

pub home_near : (a n : ℕ) → a < n → a ≡ home_of a n
unfolding home_of
home_near a n lt = sym (mod-eq_of_lt lt)
