-- No list has a record that breaks a rule just where every record keeps it.
use Rattle.std.proofs.Common.{◌≡◌, ℕ, zero, suc, ◌+◌, Bool, true, List, [], ◌∷◌, Some, None, Option, sym, refl, ap, ◌∙◌, subst, arith}
use Rattle.std.specs.List.{slice_get, range_with_len}
use Rattle.std.specs.Option.{option_map, option_map_or, option_or}
use Rattle.records.specs.declared.list.ListOf.TheVariants.{Types, Fields, Globals, Locals, Functions, Code}
use Rattle.records.proofs.Lists.{each_list}
use Rattle.content.specs.declared.function.Function.{Function}
use Rattle.parts.specs.Content.{Content}
use Rattle.rules.specs.declared.rule.Rule.{Rule}
use Rattle.rules.specs.Keeping.{kind_keeps, typed_keeps, global_keeps, function_keeps, instruction_keeps}
use Rattle.rules.specs.Judging.{Kept, Unbroken, place_keeps, broken, broken_by, broken_by_any}
use Rattle.rules.proofs.Firsts.{in_none, none_in, at_range, in_range}

map_none : (f : ℕ → ℕ) (o : Option ℕ) → option_map f o ≡ None → o ≡ None
map_none f o e = grind arith

else_none : (a b : Option ℕ) → option_or a b ≡ None → (a ≡ None) × (b ≡ None)
else_none a b e = grind arith

held : {R : Type 0} (test : R → Bool) (o : Option R) → ((x : R) → o ≡ Some x → test x ≡ true) → option_map_or test o true ≡ true
held test o h = grind (arith, h)

module _ (r : Rule) (c : Content) where
  each_none : (fs : List Function) → broken_by_any r c fs ≡ None → (k : ℕ) (f : Function) → slice_get fs k ≡ Some f → broken_by r c f ≡ None
  each_none [] n k f e = grind arith
  each_none (g ∷ fs) n zero f e = let q : g ≡ f = cc in subst (λ h. broken_by r c h ≡ None) q (else_none (broken_by r c g) (broken_by_any r c fs) n).0
  each_none (g ∷ fs) n (suc k) f e = each_none fs (else_none (broken_by r c g) (broken_by_any r c fs) n).1 k f e

  pub unbroken_kept : Unbroken r c → Kept r c
  unbroken_kept u =
      record {
        types = in_none (kind_keeps r c) c.types (u Types);
        fields = in_none (typed_keeps r c) c.fields (u Fields);
        globals = in_none (global_keeps r c) c.globals (u Globals);
        locals = in_none (typed_keeps r c) c.locals (u Locals);
        functions = in_none (function_keeps r c) c.functions (u Functions);
        code = λ k f i o e l h. ap (λ o. option_map_or (instruction_keeps r c f i) o true) (sym h) ∙ in_none (place_keeps r c f) (range_with_len 0 f.count) (map_none _ _ (each_none c.functions (u Code) k f e)) i i (at_range f.count i l);
      }

  none_each : (fs : List Function) → ((k : ℕ) (f : Function) → slice_get fs k ≡ Some f → broken_by r c f ≡ None) → broken_by_any r c fs ≡ None
  none_each [] h = refl
  none_each (g ∷ fs) h = ap (λ o. option_or o (broken_by_any r c fs)) (h 0 g refl) ∙ none_each fs (λ k f e. h (suc k) f e)

  function_unbroken : Kept r c → (k : ℕ) (f : Function) → slice_get c.functions k ≡ Some f → broken_by r c f ≡ None
  function_unbroken h k f e = ap (option_map (λ n. f.first + n)) (none_in (place_keeps r c f) (range_with_len 0 f.count) (λ j i m. held (instruction_keeps r c f i) (slice_get c.code (f.first + i)) (λ o q. h.code k f i o e (in_range f.count j i m) q)))

  pub kept_unbroken : Kept r c → Unbroken r c
  kept_unbroken h =
      each_list (λ l. broken r c l ≡ None)
      (none_in (kind_keeps r c) c.types h.types)
      (none_in (typed_keeps r c) c.fields h.fields)
      (none_in (global_keeps r c) c.globals h.globals)
      (none_in (typed_keeps r c) c.locals h.locals)
      (none_in (function_keeps r c) c.functions h.functions)
      (none_each c.functions (function_unbroken h))

  -- where no list has a record that breaks the rule
  pub all_kept : broken r c Types ≡ None → broken r c Fields ≡ None → broken r c Globals ≡ None → broken r c Locals ≡ None → broken r c Functions ≡ None → broken r c Code ≡ None → Kept r c
  all_kept t f g l u o = unbroken_kept (each_list (λ k. broken r c k ≡ None) t f g l u o)
