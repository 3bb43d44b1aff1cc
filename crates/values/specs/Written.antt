-- How a value is written: `c:FUNCTION` or `d:WORD:LOW:HIGH`.
use Rattle.std.specs.Prelude.{ℕ, List, ◌++◌, codes, decimal}
use Rattle.values.specs.declared.bounds.Bounds.{Bounds}
use Rattle.values.specs.declared.marked.Marked.{Marked}
use Rattle.values.specs.declared.marked.Marked.TheVariants.{Code, Data}

abbrev pub written_bounds : Bounds → List ℕ
written_bounds b = decimal b.low ++ (codes ":" ++ decimal b.high)

abbrev pub written : Marked → List ℕ
written (Code f) = codes "c:" ++ decimal f
written (Data w b) = codes "d:" ++ (decimal w ++ (codes ":" ++ written_bounds b))
