-- The slots that a make is handed.
use Rattle.std.specs.Prelude.{◌≡◌, List, length, take, drop, refl}
use Rattle.std.proofs.Common.{◌∙◌}

module _ {X : Type 0} where
  -- the slots that count
  unfoldable pub counted : List X → List X
  counted xs = take 65536 xs

  -- Over a call the slots stay as many, and those that don't count hold what they held.
  pub record SlotsKept (xs ys : List X) : Type 0 where
    pub long : length ys ≡ length xs
    pub uncounted : drop 65536 ys ≡ drop 65536 xs

  pub slots_same : (xs : List X) → SlotsKept xs xs
  slots_same xs = record { long = refl; uncounted = refl }

  pub slots_chained : (xs ys zs : List X) → SlotsKept xs ys → SlotsKept ys zs → SlotsKept xs zs
  slots_chained xs ys zs p q = record { long = q.long ∙ p.long; uncounted = q.uncounted ∙ p.uncounted }
