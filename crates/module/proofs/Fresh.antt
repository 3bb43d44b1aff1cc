-- The module before any reading.
use Rattle.std.proofs.Common.{◌≡◌, ℕ, List, [], ◌∷◌, None, refl, arith}
use Rattle.records.specs.Words.{spell}
use Rattle.records.proofs.Lists.{each_list}
use Rattle.rules.specs.declared.rule.Rule.TheVariants.{Names, Types}
use Rattle.rules.specs.Judging.{Kept, broken}
use Rattle.rules.proofs.Keeps.{unbroken_kept}
use Rattle.parts.specs.Content.{Content}
use Rattle.module.specs.Follows.{Follows}
use Rattle.module.specs.declared.module.Module.{Module}
use Rattle.module.specs.Modules.{fresh, said}

-- its image: the header, a number, a function of one instruction, a return
abbrev fresh_bytes : List ℕ
fresh_bytes =
    spell (
    1 ∷ 1 ∷ 1
    ∷ 60 ∷ 1 ∷ 72 ∷ 0 ∷ 72 ∷ 0 ∷ 72 ∷ 0 ∷ 72 ∷ 1 ∷ 88 ∷ 1
    ∷ 0 ∷ 0 ∷ 0
    ∷ 0 ∷ 1 ∷ 0 ∷ 0
    ∷ 16 ∷ 0 ∷ 0 ∷ 0
    ∷ [])

names : Kept Names fresh
names = unbroken_kept Names fresh (each_list (λ l. broken Names fresh l ≡ None) refl refl refl refl refl refl)

types : Kept Types fresh
types = unbroken_kept Types fresh (each_list (λ l. broken Types fresh l ≡ None) refl refl refl refl refl refl)

-- the module before any reading has an image that follows the rules
fresh_follows : Follows fresh_bytes fresh
fresh_follows =
    record {
      holds = record {
        headed = record { long = omega arith; version = refl; memory_is = refl; depth_is = refl; counts_are = refl; in_range = refl; in_place = refl };
        listed = record { types_are = refl; fields_are = refl; globals_are = refl; locals_are = refl; functions_are = refl; code_is = refl };
      };
      named = names;
      typed = types;
      fits = omega arith;
    }

-- what is read of it
pub fresh_is : (m : Module) → ((d : Content) → Follows fresh_bytes d → said m ≡ d) → said m ≡ fresh
fresh_is m h = h fresh fresh_follows

pub never_refused : ((d : Content) → Follows fresh_bytes d → ⊥) → ⊥
never_refused h = h fresh fresh_follows
