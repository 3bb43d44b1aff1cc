-- The lines about stores, each by the form of its words.
use Rattle.std.specs.Prelude.{ℕ, ◌<◌, ◌≤◌, List, [], ◌∷◌, Some, None, Ok, Err, Option, Result}
use Prim.Native.String.{String}
use Rattle.std.proofs.Math.Decide.{dec_lt, dec_le}
use Rattle.values.specs.declared.bounds.Bounds as declared
use Rattle.values.specs.declared.marked.Marked.{Marked}
use Rattle.values.specs.declared.marked.Marked.TheVariants.{Code, Data}
use Rattle.script.specs.declared.command.Make.{Make}
use Rattle.script.specs.declared.command.Make.TheVariants.{Array, Hash}
use Rattle.script.specs.declared.command.Shape.{Shape}
use Rattle.script.specs.declared.command.View.{View}
use Rattle.script.specs.declared.command.Call.{Call}
use Rattle.script.specs.declared.command.Call.TheVariants.{Drop, Get, Put, Takes}
use Rattle.script.specs.declared.command.Command.{Command}
use Rattle.script.specs.declared.command.Command.TheVariants.{Ask, Build}
use Rattle.words.specs.Forms.{Form, ends, largest, number, one_of, part, then}
use Rattle.words.specs.declared.fault.Fault.{Fault}
use Rattle.words.specs.declared.fault.Fault.TheVariants.{Bounds}

-- `array N` or `hash N`
abbrev pub sized : Option View → Make → Form Shape
sized view make = number 70000 (λ n. ends (record { view = view; make = make; slots = n }))

abbrev pub makes : Option View → List (String × Form Shape)
makes view = ("array", sized view Array) ∷ ("hash", sized view Hash) ∷ []

-- the same, or `window B L` and then the same
abbrev pub shape : Form Shape
shape = one_of (("window", number largest (λ b. number largest (λ l. one_of (makes (Some (record { base = b; len = l })))))) ∷ makes None)

unfoldable pub bounds_by : {low high : ℕ} → Dec (low < high) → Dec (high ≤ 65536) → Result declared.Bounds Fault
bounds_by {low = low} {high = high} (yes some) (yes inside) = Ok (record { low = low; high = high; some = some; inside = inside })
bounds_by _ _ = Err Bounds

-- `code F` or `data W LOW HIGH`
abbrev pub bounded : Form Marked
bounded = number largest (λ w. number largest (λ low. number largest (λ high ws. then (bounds_by (dec_lt low high) (dec_le high 65536)) (λ b. ends (Data w b) ws))))

abbrev pub value : Form Marked
value = one_of (("code", number largest (λ f. ends (Code f))) ∷ ("data", bounded) ∷ [])

abbrev pub address : (ℕ → Call) → Form Command
address call = part (λ a. Ask (call a)) (number largest ends)

abbrev pub stores : List (String × Form Command)
stores =
    ("store", part Build shape)
    ∷ ("put", number largest (λ a. part (λ v. Ask (Put a v)) value))
    ∷ ("drop", address Drop)
    ∷ ("get", address Get)
    ∷ ("takes", address Takes)
    ∷ []
