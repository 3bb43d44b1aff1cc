-- Where globals lie, and what a step has to know of locals.
use Rattle.std.specs.Prelude.{◌≡◌, ℕ, ◌+◌, ◌*◌, ◌<◌, ◌≤◌, Bool, false, List, [], ◌∷◌, length, map, replicate, take, Some, None, Option, slice_index_or, unwrap_or}
use Rattle.std.specs.List.{slice_get, range_with_len}
use Rattle.std.specs.Option.{option_map_or}
use Rattle.content.specs.declared.kind.Kind.{Kind}
use Rattle.content.specs.declared.global.Global.{Global}
use Rattle.content.specs.declared.function.Function.{Function}
use Rattle.parts.specs.Content.{Content}
use Rattle.rules.specs.Types.{size, local_type}
use Rattle.rules.specs.Keeping.{target_kind}
use Rattle.tables.specs.declared.layout.Local.{Local}
use Rattle.tables.specs.declared.places.Span.{Span}
use Rattle.tables.specs.declared.places.Places.{Places}

-- how many words globals take, one after another; where a type isn't sized, none
abbrev pub words : List Kind → List Global → ℕ
words types [] = 0
words types (g ∷ gs) = unwrap_or (size (slice_get types g.kind)) 0 * g.count + words types gs

-- global k lies from the end of the one before it to the start of the one behind it
pub record Placed (types : List Kind) (globals : List Global) (spans : List Span) : Type 0 where
  pub each : (k : ℕ) → k < length globals → slice_get spans k ≡ Some (record { low = words types (take k globals); high = words types (take (k + 1) globals) })

-- the globals take more words than the memory has
abbrev pub Over : Content → Type 0
Over c = c.memory < words c.types c.globals

-- every global is placed within the memory, and the heap begins behind the last
pub record AllPlaced (c : Content) (p : Places) : Type 0 where
  pub placed : Placed c.types c.globals p.spans
  pub heap_is : p.heap ≡ words c.types c.globals
  pub within : p.heap ≤ c.memory

-- what a step has to know of local x: whether its type is sensitive, and the size of what it points at, if that has one
abbrev pub local_of : Content → List Bool → Function → ℕ → Local
local_of c marks f x = record { sensitive = option_map_or (λ t. slice_index_or marks t false) (local_type c.locals f x) false; size = size (target_kind c f x) }

-- a function's eight locals
abbrev pub layout_of : Content → List Bool → Function → List Local
layout_of c marks f = map (local_of c marks f) (range_with_len 0 8)

-- a local of which nothing has to be known
abbrev pub plain : Local
plain = record { sensitive = false; size = None }

-- the layout of function k; all plain where there is none
abbrev pub layout_at : Content → List Bool → ℕ → List Local
layout_at c marks k = option_map_or (layout_of c marks) (slice_get c.functions k) (replicate 8 plain)

-- the table of layouts has each function's, and behind the last function all is plain
abbrev pub LaidOut : Content → List Bool → List (List Local) → Type 0
LaidOut c marks table = (k : ℕ) → k < 64 → slice_get table k ≡ Some (layout_at c marks k)
