-- Bytes with others put in.
use Rattle.std.specs.Prelude.{ℕ, ◌+◌, List, ◌++◌, length, take, drop}

-- s with bs from the place at on
unfoldable pub placed : List ℕ → ℕ → List ℕ → List ℕ
placed s at bs = take at s ++ (bs ++ drop (at + length bs) s)
