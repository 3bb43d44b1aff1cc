-- Words out of bytes, and bytes out of words.
use Rattle.std.specs.Prelude.{ℕ, zero, suc, ◌+◌, ◌*◌, ◌/◌, ◌%◌, List, [], ◌∷◌, slice_index}
use Rattle.std.specs.List.{flat_map}

-- the word at byte i, lowest byte first; bytes behind the end count as 0
abbrev pub word_at : List ℕ → ℕ → ℕ
word_at s i = slice_index s i + slice_index s (i + 1) * 256 + slice_index s (i + 2) * 65536 + slice_index s (i + 3) * 16777216

-- a word's four bytes, lowest first
abbrev pub bytes_of : ℕ → List ℕ
bytes_of w = (w % 256) ∷ (w / 256 % 256) ∷ (w / 65536 % 256) ∷ (w / 16777216 % 256) ∷ []

-- the bytes of words, one after another
abbrev pub spell : List ℕ → List ℕ
spell ws = flat_map bytes_of ws

-- the n words from byte i on
abbrev pub words_from : List ℕ → ℕ → ℕ → List ℕ
words_from s i zero = []
words_from s i (suc n) = word_at s i ∷ words_from s (i + 4) n
