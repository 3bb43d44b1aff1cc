-- A module that says `four`.
use Rattle.std.specs.Prelude.{◌≡◌, ℕ, zero, suc, Bool, true, false, List, ◌∷◌, ◌++◌, map, replicate, Some, None, Decides, slice_index_or, refl}
use Rattle.std.specs.List.{slice_get, range_with_len}
use Rattle.std.specs.Option.{option_map}
use Rattle.std.proofs.Common.{ap, ◌∙◌, ⊎_elim, arith}
use Rattle.std.proofs.lemmas.Bool.{both_ways, cases_lt}
use Rattle.std.proofs.lemmas.List.{get_or_past, get_or-replicate, length-replicate}
use Rattle.std.proofs.lemmas.Option.{slice_get-map}
use mathlib.Core.HLevel.{⊥_prop}
use Rattle.records.proofs.Lists.{each_list}
use Rattle.content.specs.declared.kind.Kind.TheVariants.{Number}
use Rattle.content.specs.declared.instruction.Instruction.TheVariants.{Return}
use Rattle.header.specs.declared.header.Header.{Header}
use Rattle.parts.specs.declared.parts.Parts.{Parts}
use Rattle.rules.specs.declared.rule.Rule.TheVariants.{Names, Types}
use Rattle.rules.specs.Judging.{Kept, broken}
use Rattle.rules.proofs.Keeps.{unbroken_kept}
use Rattle.rules.proofs.Firsts.{at_range}
use Rattle.sensitivity.specs.Sensitive.{ChainFrom, here, link, Sensitive}
use Rattle.tables.specs.Tables.{AllPlaced, LaidOut, layout_at}
use Rattle.tables.specs.declared.layout.Local.{Local}
use Rattle.tables.specs.declared.places.Places.{Places}
use Rattle.writing.specs.Image.{image_of}
use Rattle.module.specs.Follows.{Follows, Right}
use Rattle.module.specs.Modules.{said}
use Rattle.module.specs.declared.module.Module.{Module}
use Rattle.worked.specs.Worked.{four}
use Rattle.worked.proofs.Shown.{kinds, both, to_number, unending}

names : Kept Names four
names = unbroken_kept Names four (each_list (λ l. broken Names four l ≡ None) refl refl refl refl refl refl)

types : Kept Types four
types = unbroken_kept Types four (each_list (λ l. broken Types four l ≡ None) refl refl refl refl refl refl)

follows : Follows (image_of four) four
unfolding image_of
follows =
    record {
      holds = record {
        headed = record { long = omega arith; version = refl; memory_is = refl; depth_is = refl; counts_are = refl; in_range = refl; in_place = refl };
        listed = record { types_are = refl; fields_are = refl; globals_are = refl; locals_are = refl; functions_are = refl; code_is = refl };
      };
      named = names;
      typed = types;
      fits = omega arith;
    }

header : Header
header =
    record {
      memory = 10;
      depth = 1;
      counts = record { types = 9; fields = 2; globals = 1; locals = 6; functions = 4; code = 11 };
      some_memory = omega arith;
      few_words = omega arith;
      few_frames = omega arith;
      few = record { some_types = omega arith; few_types = omega arith; few_fields = omega arith; few_globals = omega arith; few_locals = omega arith; some_functions = omega arith; few_functions = omega arith; some_code = omega arith; few_code = omega arith };
    }

parts : Parts
parts =
    record {
      header = header;
      types = kinds ++ replicate 55 Number;
      fields = both ++ replicate 254 (record { kind = 0 });
      globals = four.globals ++ replicate 63 (record { kind = 0; count = 1 });
      locals = four.locals ++ replicate 250 (record { kind = 0 });
      functions = four.functions ++ replicate 60 (record { first = 0; count = 1; first_local = 0; locals = 0 });
      code = four.code ++ replicate 1013 Return;
      functions_long = refl;
      code_long = refl;
    }

marks : List Bool
marks = false ∷ true ∷ true ∷ true ∷ true ∷ false ∷ true ∷ true ∷ true ∷ replicate 55 false

-- what is so of each kind, and of the numbers behind them, is so of any number
each_kind : (P : ℕ → Type 0) → P 0 → P 1 → P 2 → P 3 → P 4 → P 5 → P 6 → P 7 → P 8 → ((k : ℕ) → P (suc (suc (suc (suc (suc (suc (suc (suc (suc k)))))))))) → (k : ℕ) → P k
each_kind P a b c d e f g h i r zero = a
each_kind P a b c d e f g h i r (suc zero) = b
each_kind P a b c d e f g h i r (suc (suc zero)) = c
each_kind P a b c d e f g h i r (suc (suc (suc zero))) = d
each_kind P a b c d e f g h i r (suc (suc (suc (suc zero)))) = e
each_kind P a b c d e f g h i r (suc (suc (suc (suc (suc zero))))) = f
each_kind P a b c d e f g h i r (suc (suc (suc (suc (suc (suc zero)))))) = g
each_kind P a b c d e f g h i r (suc (suc (suc (suc (suc (suc (suc zero))))))) = h
each_kind P a b c d e f g h i r (suc (suc (suc (suc (suc (suc (suc (suc zero)))))))) = i
each_kind P a b c d e f g h i r (suc (suc (suc (suc (suc (suc (suc (suc (suc k))))))))) = r k

-- numbers aren't sensitive, and what is no type isn't
number : (k : ℕ) → slice_get kinds k ≡ Some Number → Sensitive kinds both k → ⊥
number k q = ∥∥₁_rec ⊥_prop (λ c. unending _ _ (λ i. slice_get kinds i ≡ Some Number) (λ i q p. rw q at p) (λ i j q r. absurd (rw q at r)) c q)

no_type : (k : ℕ) → slice_get kinds k ≡ None → Sensitive kinds both k → ⊥
no_type k q = ∥∥₁_rec ⊥_prop (λ c. unending _ _ (λ i. slice_get kinds i ≡ None) (λ i q p. rw q at p) (λ i j q r. absurd (rw q at r)) c q)

no_mark : (k : ℕ) → slice_index_or (replicate 55 false) k false ≡ false
no_mark k = ⊎_elim (λ lt. get_or-replicate 55 k false false lt) (λ le. get_or_past (replicate 55 false) k false (rw length-replicate le)) (cases_lt k 55)

sensitive : (k : ℕ) → ChainFrom kinds both k → Decides true (Sensitive kinds both k)
sensitive k c = (λ e. ∣ c ∣₁, λ s. refl)

plain : (k : ℕ) → (Sensitive kinds both k → ⊥) → Decides false (Sensitive kinds both k)
plain k none = (λ e. absurd (both_ways _ refl e), λ s. absurd (none s))

right : Right four marks
unfolding marks
right =
    each_kind (λ k. Decides (slice_index_or marks k false) (Sensitive kinds both k))
    (plain 0 (number 0 refl))
    (sensitive 1 (here 1 tt))
    (sensitive 2 (link 2 1 refl (here 1 tt)))
    (sensitive 3 (link 3 2 (1, (omega arith), refl) (link 2 1 refl (here 1 tt))))
    (sensitive 4 (link 4 3 refl (link 3 2 (1, (omega arith), refl) (link 2 1 refl (here 1 tt)))))
    (plain 5 to_number)
    (sensitive 6 (here 6 tt))
    (sensitive 7 (link 7 6 refl (here 6 tt)))
    (sensitive 8 (link 8 7 refl (link 7 6 refl (here 6 tt))))
    (λ k. (λ e. absurd (both_ways _ (no_mark k) e), λ s. absurd (no_type _ refl s)))

layouts : List (List Local)
layouts = map (layout_at four marks) (range_with_len 0 64)

laid_out : LaidOut four marks layouts
unfolding layouts
laid_out k lt = slice_get-map (layout_at four marks) (range_with_len 0 64) k ∙ ap (option_map (layout_at four marks)) (at_range 64 k lt)

places : Places
places = record { spans = record { low = 0; high = 4 } ∷ replicate 63 (record { low = 0; high = 0 }); heap = 4 }

placed : AllPlaced four places
unfolding places
placed = record { placed = record { each = λ k lt. let e : k ≡ 0 = omega (arith, lt) in rw e refl }; heap_is = refl; within = omega arith }

pub module_of : (m : Module) × (said m ≡ four)
unfolding header parts
module_of =
    let m : Module =
    record {
      parts = parts;
      sensitive = marks;
      layouts = layouts;
      places = places;
      follows = ∣ follows ∣₁;
      right = right;
      laid_out = ∣ laid_out ∣₁;
      placed = ∣ placed ∣₁;
    } in
    (m, refl)
