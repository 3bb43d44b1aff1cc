-- The slots that count are lent, changed, and given back.
use Rattle.std.proofs.Common.{◌≡◌, ℕ, ◌-◌, List, ◌++◌, length, take, drop, sym, ap, ◌∙◌, subst, arith}
use Rattle.std.proofs.lemmas.List.{take_at}
use Rattle.stores.specs.Slots.{SlotsKept, counted}
use Rattle.stores.proofs.Counted.{counted_length, counted_part, counted_put, kept_put}

module _ {X : Type 0} where
  -- What is left of the slots xs where ws was given back.
  pub record Given (xs ws ys : List X) : Type 0 where
    pub counts : counted ys ≡ ws
    pub kept : SlotsKept xs ys

  -- the first m of them
  module _ (xs lent : List X) (m : ℕ) (is : lent ≡ xs) (of : m ≡ length (counted xs)) where
    pub part : take (m - 0) lent ≡ counted xs
    part = ap (take (m - 0)) is ∙ counted_part xs m (of ∙ omega (arith, counted_length xs))

    pub given : (ws rest : List X) (k : ℕ) → k ≡ length xs → length ws ≡ length (take (m - 0) lent) → Given xs ws (take k ((ws ++ drop (m - 0) lent) ++ rest))
    given ws rest k whole long = subst (Given xs ws) (sym back) (record { counts = counted_put xs ws as_many; kept = kept })
      where
        put : List X
        put = ws ++ drop (length (counted xs) - 0) xs

        as_many : length ws ≡ length (counted xs)
        as_many = long ∙ ap length part

        kept : SlotsKept xs put
        kept = kept_put xs ws as_many

        back : take k ((ws ++ drop (m - 0) lent) ++ rest) ≡ put
        back = ap (λ n. take k ((ws ++ drop (n - 0) lent) ++ rest)) of ∙ ap (λ l. take k ((ws ++ drop (length (counted xs) - 0) l) ++ rest)) is ∙ take_at put rest k (kept.long ∙ sym whole)
