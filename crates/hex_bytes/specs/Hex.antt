-- Bytes in hex: two digits for each, the lower-case ones.
use Rattle.std.specs.List.{flat_map, list_all}
use Rattle.std.specs.Prelude.{ℕ, ◌+◌, ◌-◌, ◌*◌, ◌/◌, ◌%◌, Bool, cond, ◌&&◌, ◌||◌, List, [], ◌∷◌, length, ◌==◌, nat_le, nat_lt}

-- a byte is one of 0 to 9 and a to f
abbrev pub is_hex : ℕ → Bool
is_hex b = (nat_le 48 b && nat_le b 57) || (nat_le 97 b && nat_le b 102)

-- A word is bytes in hex.
abbrev pub hexed : List ℕ → Bool
hexed w = list_all is_hex w && length w % 2 == 0

-- what a digit stands for
unfoldable pub nibble_of : ℕ → ℕ
nibble_of d = cond (nat_lt d 97) (d - 48) (d - 87) % 16

-- the bytes that digits stand for
abbrev pub bytes_of : List ℕ → List ℕ
bytes_of [] = []
bytes_of (a ∷ []) = []
bytes_of (a ∷ b ∷ ds) = (16 * nibble_of a + nibble_of b) ∷ bytes_of ds

-- the digit of a number below 16
unfoldable pub glyph_of : ℕ → ℕ
glyph_of n = cond (nat_lt n 10) (48 + n) (87 + n)

-- the two digits of a byte
abbrev pub spelled : ℕ → List ℕ
spelled b = glyph_of (b / 16) ∷ glyph_of (b % 16) ∷ []

-- the digits of bytes
abbrev pub hex_of : List ℕ → List ℕ
hex_of bs = flat_map spelled bs
