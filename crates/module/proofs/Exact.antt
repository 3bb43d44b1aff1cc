-- An image says one content at most.
use Rattle.std.proofs.Common.{◌≡◌, ℕ, Bool, true, false, List, Some, None, Option, sym, refl, ap, ◌∙◌, subst, true≢false, arith}
use Rattle.records.specs.Words.{word_at}
use Rattle.records.specs.declared.record.RecordFault.{RecordFault}
use Rattle.records.specs.declared.list.ListOf.{ListOf}
use Rattle.records.proofs.Lists.{each_list}
use Rattle.records.proofs.Runs.{ok_same}
use Rattle.content.specs.declared.kind.Kind.{Kind}
use Rattle.content.specs.declared.typed.Typed.{Typed}
use Rattle.content.specs.declared.global.Global.{Global}
use Rattle.content.specs.declared.function.Function.{Function}
use Rattle.content.specs.declared.instruction.Instruction.{Instruction}
use Rattle.header.specs.declared.fault.HeaderFault.TheVariants.{Short, Version, Range, Layout}
use Rattle.header.specs.declared.counts.Counts.{Counts}
use Rattle.header.specs.Header.{Headed, ranged, counts_in}
use Rattle.parts.specs.Content.{Content}
use Rattle.std.specs.Result.{result_err}
use Rattle.parts.specs.Holding.{Listed, Holds, meaningless}
use Rattle.rules.specs.declared.rule.Rule.{Rule}
use Rattle.rules.specs.declared.rule.Rule.TheVariants.{Names, Types}
use Rattle.rules.specs.declared.fault.RuleFault.TheVariants.{Meaningless, Unnamed, Mistyped}
use Rattle.rules.specs.Judging.{Kept, FirstBroken}
use Rattle.rules.proofs.Keeps.{kept_unbroken}
use Rattle.tables.specs.Tables.{Over}
use Rattle.module.specs.declared.fault.ModuleFault.{ModuleFault}
use Rattle.module.specs.declared.fault.ModuleFault.TheVariants as fault
use Rattle.module.specs.Follows.{Follows}
use Rattle.module.specs.Refusals.{Refused}

made : {m m' d d' : ℕ} {ts ts' : List Kind} {fs fs' : List Typed} {gs gs' : List Global} {ls ls' : List Typed} {us us' : List Function} {os os' : List Instruction} → m ≡ m' → d ≡ d' → ts ≡ ts' → fs ≡ fs' → gs ≡ gs' → ls ≡ ls' → us ≡ us' → os ≡ os' → ◌≡◌ {A = Content} (record { memory = m; depth = d; types = ts; fields = fs; globals = gs; locals = ls; functions = us; code = os }) (record { memory = m'; depth = d'; types = ts'; fields = fs'; globals = gs'; locals = ls'; functions = us'; code = os' })
made a b c d e f g h = rw (a, b, c, d, e, f, g, h) refl

-- an image holds one content
pub same_content : (s : List ℕ) (c d : Content) → Holds s c → Holds s d → c ≡ d
same_content s c d p q =
    made
    (p.headed.memory_is ∙ sym q.headed.memory_is)
    (p.headed.depth_is ∙ sym q.headed.depth_is)
    (ok_same _ _ (sym p.listed.types_are ∙ q.listed.types_are))
    (ok_same _ _ (sym p.listed.fields_are ∙ q.listed.fields_are))
    (ok_same _ _ (sym p.listed.globals_are ∙ q.listed.globals_are))
    (ok_same _ _ (sym p.listed.locals_are ∙ q.listed.locals_are))
    (ok_same _ _ (sym p.listed.functions_are ∙ q.listed.functions_are))
    (ok_same _ _ (sym p.listed.code_is ∙ q.listed.code_is))

-- where the lists are read, every record means something
all_mean : (s : List ℕ) (n : Counts) (c : Content) → Listed s n c → (l : ListOf) → meaningless s n l ≡ None
all_mean s n c p =
    each_list (λ l. meaningless s n l ≡ None)
    (ap result_err p.types_are)
    (ap result_err p.fields_are)
    (ap result_err p.globals_are)
    (ap result_err p.locals_are)
    (ap result_err p.functions_are)
    (ap result_err p.code_is)

unlike : (k : ℕ) (o : Option ℕ) → o ≡ Some k → o ≡ None → ⊥
unlike k o a b = grind arith

differ : {b : Bool} → b ≡ false → b ≡ true → ⊥
differ {b} p q = true≢false (sym q ∙ p)

unbroken : (r : Rule) (c : Content) (f : RecordFault) → Kept r c → FirstBroken r c f → ⊥
unbroken r c f k b = unlike f.«record» _ b.0 (kept_unbroken r c k f.list)

module _ (s : List ℕ) (c : Content) (y : Follows s c) where
  same : (d : Content) → d.memory ≡ word_at s 4 → d.depth ≡ word_at s 8 → Listed s (counts_in s) d → d ≡ c
  same d m e l =
      let h = y.holds.headed in
      let a : Headed s d.memory c.depth (counts_in s) = subst (λ (k : ℕ). Headed s k c.depth (counts_in s)) (h.memory_is ∙ sym m) h in
      let b : Headed s d.memory d.depth (counts_in s) = subst (λ (k : ℕ). Headed s d.memory k (counts_in s)) (h.depth_is ∙ sym e) a in
      same_content s d c (record { headed = b; listed = l }) y.holds

  -- an image that follows the rules is not refused
  pub not_refused : (f : ModuleFault) → Refused s f → ⊥
  not_refused (fault.Header Short) h = omega (arith, y.holds.headed.long)
  not_refused (fault.Header Version) h = h.1 y.holds.headed.version
  not_refused (fault.Header Range) h =
      let t = y.holds.headed in
      differ h.2 (ap (λ m. ranged m (word_at s 8) (counts_in s)) (sym t.memory_is) ∙ ap (λ d. ranged c.memory d (counts_in s)) (sym t.depth_is) ∙ t.in_range)
  not_refused (fault.Header Layout) h = differ h.3 y.holds.headed.in_place
  not_refused (fault.Rule (Meaningless f)) h = unlike f.«record» _ h.1.here (all_mean s (counts_in s) c y.holds.listed f.list)
  not_refused (fault.Rule (Unnamed f)) h =
      let b = h.1 in
      unbroken Names b.0 f (subst (Kept Names) (sym (same b.0 b.1 b.2 b.3)) y.named) b.4
  not_refused (fault.Rule (Mistyped f)) h =
      let b = h.1 in
      unbroken Types b.0 f (subst (Kept Types) (sym (same b.0 b.1 b.2 b.3)) y.typed) b.4.1
  not_refused fault.Globals h =
      let o : Over c = subst Over (same_content s h.content c h.holds y.holds) h.over in
      omega (arith, y.fits, o)
