-- What a kept value is seen as.
use Rattle.std.specs.Prelude.{◌≡◌, ℕ, ◌+◌, ◌-◌, ◌<◌, ◌≤◌, Some, None, Option, refl}
use Rattle.std.proofs.Common.{arith, ap}
use Rattle.values.specs.declared.bounds.Bounds.{Bounds}
use Rattle.machine.specs.declared.held.Held.TheInside.{Inside}
use Rattle.machine.specs.Values.{Value, Plain, Marked, Code, Data, bounds_of, data_in, word}
use Rattle.machine.specs.inside.Holding.{told, valued}
use Rattle.machine.proofs.Bounding.{bounded, bounds_same, unbounded}

-- as bounds become a pair
pub told_data : (w : ℕ) (b : Bounds) → told w b.low (bounds_of b.low (b.high - 1 + 1)) ≡ Marked (Data w b)
told_data w b = ap (told w b.low) (bounded b.low (b.high - 1 + 1) b refl (omega (arith, b.some)))

pub told_plain : (w : ℕ) → told w 1 (bounds_of 1 1) ≡ Plain w
told_plain w = ap (told w 1) (unbounded 1 1 (λ p _. absurd (omega (arith, p))))

pub told_code : (w : ℕ) → told w 2 (bounds_of 2 1) ≡ Marked (Code w)
told_code w = ap (told w 2) (unbounded 2 1 (λ p _. absurd (omega (arith, p))))

module _ (w low last : ℕ) (v : Value) (e : told w low (bounds_of low (last + 1)) ≡ v) where
  pub seen_data : low ≤ last → last < 65536 → data_in (bounds_of low (last + 1)) w ≡ v
  seen_data p q =
      let b : Bounds = record { low = low; high = last + 1; some = omega (arith, p); inside = omega (arith, q) } in
      let z : told w low (Some b) ≡ v = rw (bounds_same b) at e in
      rw (bounds_same b) z

  none : last < low → told w low None ≡ v
  none p = rw (unbounded low (last + 1) (λ q _. absurd (omega (arith, p, q)))) at e

  pub seen_plain : last < low → low ≡ 1 → Plain w ≡ v
  seen_plain n p = let z = none n in grind (arith, z, p)

  pub seen_code : last < low → (low ≡ 1 → ⊥) → Marked (Code w) ≡ v
  seen_code n p = let z = none n in grind (arith, z, p)

word_told : (w low : ℕ) (o : Option Bounds) → word (told w low o) ≡ w
word_told w low (Some b) = refl
word_told w low None = grind arith

pub word_valued : (a : Inside) → word (valued a) ≡ a.word
word_valued a = word_told a.word a.low (bounds_of a.low (a.last + 1))
