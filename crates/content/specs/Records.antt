-- The records of an image: what their words mean, which words they have, and how they are told.
use Rattle.std.specs.Prelude.{◌++◌, codes, decimal, ℕ, Bool, true, cond, ◌&&◌, List, [], ◌∷◌, Some, None, Option, ◌==◌, nat_le, slice_index}
use Rattle.std.specs.Bool.{then_some}
use Rattle.content.specs.declared.kind.Kind.{Kind}
use Rattle.content.specs.declared.kind.Kind.TheVariants as kind
use Rattle.content.specs.declared.typed.Typed.{Typed}
use Rattle.content.specs.declared.global.Global.{Global}
use Rattle.content.specs.declared.function.Function.{Function}
use Rattle.content.specs.declared.instruction.Instruction.{Instruction}
use Rattle.content.specs.declared.instruction.Instruction.TheVariants as op

-- the record that stands under n, if its words are in range
abbrev pub pick : {R : Type 0} → ℕ → List (ℕ × Bool × R) → Option R
pick n [] = None
pick n ((k, b, r) ∷ rest) = cond (n == k) (then_some b r) (pick n rest)

-- what the three words of a type mean, by its kind; words that a kind doesn't use are 0
abbrev pub kind_from : List ℕ → Option Kind
kind_from ws =
    let a = slice_index ws 1 in let b = slice_index ws 2 in
    pick (slice_index ws 0) ((0, (a == 0) && (b == 0), kind.Number) ∷ (1, (a == 0) && (b == 0), kind.Void) ∷ (2, (a == 0) && (b == 0), kind.Function)
    ∷ (3, (b == 0), kind.Pointer a) ∷ (4, nat_le 1 b && nat_le b 64, kind.Fields a b) ∷ [])

-- a type's words, and how it is told
abbrev pub kind_row : Kind → List ℕ × List ℕ
kind_row kind.Number = (0 ∷ 0 ∷ 0 ∷ [], codes "number")
kind_row kind.Void = (1 ∷ 0 ∷ 0 ∷ [], codes "void")
kind_row kind.Function = (2 ∷ 0 ∷ 0 ∷ [], codes "function")
kind_row (kind.Pointer to) = (3 ∷ to ∷ 0 ∷ [], codes "pointer to type " ++ decimal to)
kind_row (kind.Fields first count) = (4 ∷ first ∷ count ∷ [], codes "record of " ++ (decimal count ++ (codes " fields from field " ++ decimal first)))

-- a type's words
abbrev pub kind_words : Kind → List ℕ
kind_words k = (kind_row k).0

-- what the word of a field or local means: its type
abbrev pub typed_from : List ℕ → Option Typed
typed_from ws = Some (record { kind = slice_index ws 0 })

-- the word of a field or local
abbrev pub typed_words : Typed → List ℕ
typed_words t = t.kind ∷ []

-- what the two words of a global mean: its type and how many of it, up to 4,096
abbrev pub global_from : List ℕ → Option Global
global_from ws = then_some (nat_le 1 (slice_index ws 1) && nat_le (slice_index ws 1) 4096) (record { kind = slice_index ws 0; count = slice_index ws 1 })

-- the words of a global
abbrev pub global_words : Global → List ℕ
global_words g = g.kind ∷ g.count ∷ []

-- what the four words of a function mean: it has an instruction, and up to 8 locals
abbrev pub function_from : List ℕ → Option Function
function_from ws = then_some (nat_le 1 (slice_index ws 1) && nat_le (slice_index ws 3) 8) (record { first = slice_index ws 0; count = slice_index ws 1; first_local = slice_index ws 2; locals = slice_index ws 3 })

-- the words of a function
abbrev pub function_words : Function → List ℕ
function_words f = f.first ∷ f.count ∷ f.first_local ∷ f.locals ∷ []

-- what the four words of an instruction mean, by its op; words that an op doesn't use are 0
abbrev pub instruction_from : List ℕ → Option Instruction
instruction_from ws =
    let a = slice_index ws 1 in let b = slice_index ws 2 in let c = slice_index ws 3 in
    pick (slice_index ws 0) ((0, (c == 0), op.Set a b) ∷ (1, true, op.Add a b c) ∷ (2, true, op.Subtract a b c) ∷ (3, true, op.Less a b c)
    ∷ (4, (c == 0), op.Cast a b) ∷ (5, (b == 0) && (c == 0), op.Jump a) ∷ (6, (c == 0), op.Branch a b) ∷ (7, (c == 0), op.Function a b)
    ∷ (8, (c == 0), op.Global a b) ∷ (9, (c == 0), op.Allocate a b) ∷ (10, true, op.Move a b c) ∷ (11, true, op.Field a b c)
    ∷ (12, (c == 0), op.Load a b) ∷ (13, (c == 0), op.Store a b) ∷ (14, (b == 0) && (c == 0), op.Call a) ∷ (15, (b == 0) && (c == 0), op.CallThrough a)
    ∷ (16, (a == 0) && b == 0 && (c == 0), op.Return) ∷ [])

-- a local's name, x0 to x7
abbrev pub local_text : ℕ → List ℕ
local_text x = codes "x" ++ decimal x

-- a local is given what is told behind it
abbrev pub given : ℕ → List ℕ → List ℕ
given x text = local_text x ++ (codes " = " ++ text)

-- an instruction's words, and how it is told
abbrev pub instruction_row : Instruction → List ℕ × List ℕ
instruction_row (op.Set x n) = (0 ∷ x ∷ n ∷ 0 ∷ [], given x (decimal n))
instruction_row (op.Add x y z) = (1 ∷ x ∷ y ∷ z ∷ [], given x (local_text y ++ (codes " + " ++ local_text z)))
instruction_row (op.Subtract x y z) = (2 ∷ x ∷ y ∷ z ∷ [], given x (local_text y ++ (codes " - " ++ local_text z)))
instruction_row (op.Less x y z) = (3 ∷ x ∷ y ∷ z ∷ [], given x (local_text y ++ (codes " < " ++ local_text z)))
instruction_row (op.Cast x y) = (4 ∷ x ∷ y ∷ 0 ∷ [], given x (codes "cast " ++ local_text y))
instruction_row (op.Jump to) = (5 ∷ to ∷ 0 ∷ 0 ∷ [], codes "jump to " ++ decimal to)
instruction_row (op.Branch x to) = (6 ∷ x ∷ to ∷ 0 ∷ [], codes "jump to " ++ (decimal to ++ (codes " if " ++ local_text x)))
instruction_row (op.Function x f) = (7 ∷ x ∷ f ∷ 0 ∷ [], given x (codes "address of function " ++ decimal f))
instruction_row (op.Global x g) = (8 ∷ x ∷ g ∷ 0 ∷ [], given x (codes "address of global " ++ decimal g))
instruction_row (op.Allocate x y) = (9 ∷ x ∷ y ∷ 0 ∷ [], given x (codes "allocate " ++ local_text y))
instruction_row (op.Move x y z) = (10 ∷ x ∷ y ∷ z ∷ [], given x (local_text y ++ (codes " moved by " ++ local_text z)))
instruction_row (op.Field x y k) = (11 ∷ x ∷ y ∷ k ∷ [], given x (codes "address of field " ++ (decimal k ++ (codes " of " ++ local_text y))))
instruction_row (op.Load x y) = (12 ∷ x ∷ y ∷ 0 ∷ [], given x (codes "load " ++ local_text y))
instruction_row (op.Store x y) = (13 ∷ x ∷ y ∷ 0 ∷ [], codes "store " ++ (local_text x ++ (codes " at " ++ local_text y)))
instruction_row (op.Call f) = (14 ∷ f ∷ 0 ∷ 0 ∷ [], codes "call function " ++ decimal f)
instruction_row (op.CallThrough x) = (15 ∷ x ∷ 0 ∷ 0 ∷ [], codes "call through " ++ local_text x)
instruction_row op.Return = (16 ∷ 0 ∷ 0 ∷ 0 ∷ [], codes "return")

-- an instruction's words
abbrev pub instruction_words : Instruction → List ℕ
instruction_words o = (instruction_row o).0
