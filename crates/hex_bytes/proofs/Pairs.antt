-- The bytes that pairs of digits stand for are those of the digits.
use Rattle.std.proofs.Common.{◌≡◌, ℕ, zero, suc, map, ◌+◌, ◌*◌, ◌/◌, List, [], ◌∷◌, length, get_or, refl, ap, arith}
use Rattle.std.specs.Simd.{first_chunks}
use Rattle.hex_bytes.specs.Hex.{bytes_of, nibble_of}

abbrev pub pair_value : List ℕ → ℕ
pair_value p = 16 * nibble_of (get_or p 0 0) + nibble_of (get_or p 1 0)

by_pairs : (k : ℕ) (xs : List ℕ) → k ≡ length xs / 2 → map pair_value (first_chunks 2 k xs) ≡ bytes_of xs
by_pairs zero [] e = refl
by_pairs zero (a ∷ []) e = refl
by_pairs zero (a ∷ b ∷ l) e = absurd (omega arith)
by_pairs (suc k) [] e = absurd (omega arith)
by_pairs (suc k) (a ∷ []) e = absurd (omega arith)
by_pairs (suc k) (a ∷ b ∷ l) e = ap (λ bs. pair_value (a ∷ b ∷ []) ∷ bs) (by_pairs k l (omega arith))

pub pairs_bytes : (xs : List ℕ) → map pair_value (first_chunks 2 (length xs / 2) xs) ≡ bytes_of xs
pairs_bytes xs = by_pairs (length xs / 2) xs refl
