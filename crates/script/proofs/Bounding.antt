-- Bounds are those that their low and high give.
use Rattle.std.proofs.Common.{◌≡◌, ℕ, ◌<◌, ◌≤◌, Some, None, Ok, Err, Option, MatchOption, ok_or, refl, ap, ◌∙◌}
use Rattle.std.proofs.Math.Decide.{dec_lt, dec_le}
use Rattle.std.proofs.Props.{props}
use Rattle.values.specs.declared.bounds.Bounds.{Bounds}
use Rattle.words.specs.declared.fault.Fault.TheVariants as fault
use Rattle.script.specs.Lines.{bounds_by}

same : (b : Bounds) (p : b.low < b.high) (q : b.high ≤ 65536) → ◌≡◌ {A = Bounds} b (record { low = b.low; high = b.high; some = p; inside = q })
same b p q =
    let below : IsProp (b.low < b.high) = Prim.hlevel props in
    let within : IsProp (b.high ≤ 65536) = Prim.hlevel props in
    let first : ◌≡◌ {A = Bounds} b (record { low = b.low; high = b.high; some = p; inside = b.inside }) = ap (λ r. record { low = b.low; high = b.high; some = r; inside = b.inside }) (below b.some p) in
    let second : ◌≡◌ {A = Bounds} (record { low = b.low; high = b.high; some = p; inside = b.inside }) (record { low = b.low; high = b.high; some = p; inside = q })
    = ap (λ r. record { low = b.low; high = b.high; some = p; inside = r }) (within b.inside q) in
    first ∙ second

some_by : (b : Bounds) (d : Dec (b.low < b.high)) (e : Dec (b.high ≤ 65536)) → Ok b ≡ bounds_by d e
unfolding bounds_by
some_by b (yes p) (yes q) = ap Ok (same b p q)
some_by b (no n) e = absurd (n b.some)
some_by b (yes p) (no n) = absurd (n b.inside)

none_by : (low high : ℕ) (d : Dec (low < high)) (e : Dec (high ≤ 65536)) → (low < high → high ≤ 65536 → ⊥) → Err fault.Bounds ≡ bounds_by d e
unfolding bounds_by
none_by low high (yes p) (yes q) h = absurd (h p q)
none_by low high (no n) e h = refl
none_by low high (yes p) (no n) h = refl

pub bounded_so : (low high : ℕ) (o : Option Bounds) → MatchOption o (low < high → high ≤ 65536 → ⊥) (λ b. (b.low ≡ low) × (b.high ≡ high)) → ok_or o fault.Bounds ≡ bounds_by (dec_lt low high) (dec_le high 65536)
bounded_so low high None h = none_by low high (dec_lt low high) (dec_le high 65536) h
bounded_so low high (Some b) h = rw (← h.0, ← h.1) (some_by b (dec_lt b.low b.high) (dec_le b.high 65536))
