-- What is so of each of the six lists is so of any.
use Rattle.records.specs.declared.list.ListOf.{ListOf}
use Rattle.records.specs.declared.list.ListOf.TheVariants.{Types, Fields, Globals, Locals, Functions, Code}

-- what is so of each of the six lists is so of any
pub each_list : (P : ListOf → Type 0) → P Types → P Fields → P Globals → P Locals → P Functions → P Code → (l : ListOf) → P l
each_list P t f g l u c Types = t
each_list P t f g l u c Fields = f
each_list P t f g l u c Globals = g
each_list P t f g l u c Locals = l
each_list P t f g l u c Functions = u
each_list P t f g l u c Code = c
