-- Which types are sensitive, and the links that lead to marked types.
use Rattle.std.specs.Prelude.{◌≡◌, ℕ, ◌+◌, ◌<◌, List, Some, None, Option, Bool, true, false, slice_index_or}
use Rattle.std.specs.List.{slice_get}
use Rattle.content.specs.declared.kind.Kind.{Kind}
use Rattle.content.specs.declared.kind.Kind.TheVariants as kind
use Rattle.content.specs.declared.typed.Typed.{Typed}

-- void and function end a chain
abbrev pub EndsChain : Option Kind → Type 0
EndsChain (Some kind.Void) = Unit {0}
EndsChain (Some kind.Function) = Unit {0}
EndsChain _ = ⊥

-- a link goes from a pointer to what it points at, and from a record to each field's type
abbrev pub Links : List Typed → Option Kind → ℕ → Type 0
Links fields (Some (kind.Pointer to)) j = to ≡ j
Links fields (Some (kind.Fields first count)) j = (k : ℕ) × (k < count) × (slice_get fields (first + k) ≡ Some (record { kind = j }))
Links fields _ j = ⊥

-- no field of a record in front of the one that leads to j leads to a type with P
abbrev pub First : List Typed → (ℕ → Type 0) → Option Kind → ℕ → Type 0
First fields P (Some (kind.Fields first count)) j = (k : ℕ) × (k < count) × (slice_get fields (first + k) ≡ Some (record { kind = j })) × ((i t : ℕ) → i < k → slice_get fields (first + i) ≡ Some (record { kind = t }) → P t → ⊥)
First fields P _ j = Unit {0}

-- a chain of no, one or more links leads from type i to void or function
pub data ChainFrom (types : List Kind) (fields : List Typed) : ℕ → Type 0 where
  here : (i : ℕ) → EndsChain (slice_get types i) → ChainFrom types fields i
  link : (i j : ℕ) → Links fields (slice_get types i) j → ChainFrom types fields j → ChainFrom types fields i

-- type i is sensitive: there is such a chain
abbrev pub Sensitive : List Kind → List Typed → ℕ → Type 0
Sensitive types fields i = ∥ ChainFrom types fields i ∥₁

-- type i is marked
abbrev pub IsMarked : List Bool → ℕ → Type 0
IsMarked marks i = slice_index_or marks i false ≡ true

-- a link from the type o leads to j, which is marked
abbrev pub ToMark : List Typed → List Bool → Option Kind → ℕ → Type 0
ToMark fields marks o j = Links fields o j × IsMarked marks j

-- no link from the type o leads to a marked type
abbrev pub NoMark : List Typed → List Bool → Option Kind → Type 0
NoMark fields marks o = (j : ℕ) → Links fields o j → IsMarked marks j → ⊥
