-- That words that mean a record are the record's words.
use Rattle.std.specs.Prelude.{◌≡◌, ℕ, List, length, take, Some}
use Rattle.std.proofs.Common.{◌∙◌, take_all, arith, rules}
use Rattle.std.proofs.lemmas.Grind.{common_steps}
use Rattle.content.specs.declared.kind.Kind.{Kind}
use Rattle.content.specs.declared.typed.Typed.{Typed}
use Rattle.content.specs.declared.global.Global.{Global}
use Rattle.content.specs.declared.function.Function.{Function}
use Rattle.content.specs.declared.instruction.Instruction.{Instruction}
use Rattle.content.specs.Records.{kind_from, kind_words, typed_from, typed_words, global_from, global_words, function_from, function_words, instruction_from, instruction_words}

-- words that mean a record are the record's words
pub kind_faithful : (ws : List ℕ) (r : Kind) → length ws ≡ 3 → kind_from ws ≡ Some r → kind_words r ≡ ws
kind_faithful ws r l e = let front : kind_words r ≡ take 3 ws = search rules in front ∙ take_all 3 ws (omega arith)

pub typed_faithful : (ws : List ℕ) (r : Typed) → length ws ≡ 1 → typed_from ws ≡ Some r → typed_words r ≡ ws
typed_faithful ws r l e = let front : typed_words r ≡ take 1 ws = search rules in front ∙ take_all 1 ws (omega arith)

pub global_faithful : (ws : List ℕ) (r : Global) → length ws ≡ 2 → global_from ws ≡ Some r → global_words r ≡ ws
global_faithful ws r l e = let front : global_words r ≡ take 2 ws = search rules in front ∙ take_all 2 ws (omega arith)

pub function_faithful : (ws : List ℕ) (r : Function) → length ws ≡ 4 → function_from ws ≡ Some r → function_words r ≡ ws
function_faithful ws r l e = let front : function_words r ≡ take 4 ws = search rules in front ∙ take_all 4 ws (omega arith)

pub instruction_faithful : (ws : List ℕ) (r : Instruction) → length ws ≡ 4 → instruction_from ws ≡ Some r → instruction_words r ≡ ws
instruction_faithful ws r l e = let front : instruction_words r ≡ take 4 ws = grind (arith, common_steps) in front ∙ take_all 4 ws (omega arith)
