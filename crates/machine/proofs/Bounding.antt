-- Bounds are those that their low and high give, and what lies within them.
use Rattle.std.specs.Prelude.{◌≡◌, ℕ, ◌+◌, ◌<◌, ◌≤◌, Bool, true, false, Some, None, refl, nat_lt, nat_le}
use Rattle.std.proofs.Common.{ap, sym, ◌∙◌}
use Rattle.std.proofs.Props.{props}
use Rattle.std.proofs.lemmas.Bool.{and_parts, ltb-true, leb-true, lt-ltb, le-leb}
use Rattle.values.specs.declared.bounds.Bounds.{Bounds}
use Rattle.machine.specs.Values.{bounds_if, bounds_of}
use Rattle.machine.specs.inside.Parts.{within}

-- bounds with the same low and high are the same
same : (b : Bounds) (p : b.low < b.high) (q : b.high ≤ 65536) → ◌≡◌ {A = Bounds} (record { low = b.low; high = b.high; some = p; inside = q }) b
same b p q =
    let below : IsProp (b.low < b.high) = Prim.hlevel props in
    let within : IsProp (b.high ≤ 65536) = Prim.hlevel props in
    let first : ◌≡◌ {A = Bounds} (record { low = b.low; high = b.high; some = p; inside = q }) (record { low = b.low; high = b.high; some = b.some; inside = q })
    = ap (λ r. record { low = b.low; high = b.high; some = r; inside = q }) (below p b.some) in
    let second : ◌≡◌ {A = Bounds} (record { low = b.low; high = b.high; some = b.some; inside = q }) b
    = ap (λ r. record { low = b.low; high = b.high; some = b.some; inside = r }) (within q b.inside) in
    first ∙ second

some_if : (b : Bounds) (l h : Bool) (p : nat_lt b.low b.high ≡ l) (q : nat_le b.high 65536 ≡ h) → bounds_if b.low b.high l h p q ≡ Some b
unfolding bounds_if
some_if b true true p q = ap Some (same b (ltb-true b.low b.high p) (leb-true b.high 65536 q))
some_if b true false p q = let z : true ≡ false = sym (le-leb b.high 65536 b.inside) ∙ q in absurd cc
some_if b false h p q = let z : true ≡ false = sym (lt-ltb b.low b.high b.some) ∙ p in absurd cc

pub bounds_same : (b : Bounds) → bounds_of b.low b.high ≡ Some b
unfolding bounds_of
bounds_same b = some_if b (nat_lt b.low b.high) (nat_le b.high 65536) refl refl

pub bounded : (low high : ℕ) (b : Bounds) → b.low ≡ low → b.high ≡ high → bounds_of low high ≡ Some b
bounded low high b p q = rw (← p, ← q) (bounds_same b)

none_if : (low high : ℕ) → (low < high → high ≤ 65536 → ⊥) → (l h : Bool) (p : nat_lt low high ≡ l) (q : nat_le high 65536 ≡ h) → bounds_if low high l h p q ≡ None
unfolding bounds_if
none_if low high n true true p q = absurd (n (ltb-true low high p) (leb-true high 65536 q))
none_if low high n true false p q = refl
none_if low high n false h p q = refl

pub unbounded : (low high : ℕ) → (low < high → high ≤ 65536 → ⊥) → bounds_of low high ≡ None
unfolding bounds_of
unbounded low high n = none_if low high n (nat_lt low high) (nat_le high 65536) refl refl

are_if : (low high : ℕ) (l h : Bool) (p : nat_lt low high ≡ l) (q : nat_le high 65536 ≡ h) (b : Bounds) → bounds_if low high l h p q ≡ Some b → (b.low ≡ low) × (b.high ≡ high) × (low < high)
unfolding bounds_if
are_if low high true true p q b e =
    let z : record { low = low; high = high; some = ltb-true low high p; inside = leb-true high 65536 q } ≡ b = cc in
    (ap (λ (c : Bounds). c.low) (sym z), ap (λ (c : Bounds). c.high) (sym z), ltb-true low high p)
are_if low high true false p q b e = absurd (cc)
are_if low high false h p q b e = absurd (cc)

pub bounds_are : (low high : ℕ) (b : Bounds) → bounds_of low high ≡ Some b → (b.low ≡ low) × (b.high ≡ high) × (low < high)
unfolding bounds_of
bounds_are low high b e = are_if low high (nat_lt low high) (nat_le high 65536) refl refl b e

-- the n words at w lie from low on, up to high
pub within_parts : (b : Bounds) (w n : ℕ) → within b w n ≡ true → (b.low ≤ w) × (w + n ≤ b.high)
within_parts b w n e = let p = and_parts (nat_le b.low w) (nat_le (w + n) b.high) e in (leb-true b.low w p.0, leb-true (w + n) b.high p.1)
