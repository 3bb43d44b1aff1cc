-- What is so of each record of a module, as each was read from words that mean it.
use Rattle.std.proofs.Common.{◌≡◌, ℕ, zero, suc, ◌*◌, ◌≤◌, true, List, [], length, drop, Some, Ok, Option, unwrap_or, ap, sym, ◌∙◌, arith, rules}
use Rattle.std.proofs.Math.Bridge.{le_prop}
use Rattle.std.proofs.lemmas.Bool.Decides.{nat_tests}
use Rattle.records.specs.Records.{records}
use Rattle.records.proofs.Runs.{ok_same, led}
use Rattle.content.specs.Records.{kind_from, global_from, function_from}
use Rattle.content.specs.declared.kind.Kind.{Kind}
use Rattle.content.specs.declared.global.Global.{Global}
use Rattle.content.specs.declared.function.Function.{Function}
use Rattle.header.specs.declared.counts.Counts.{Counts}
use Rattle.header.specs.Header.{ranged, functions_at, counts_in}
use Rattle.parts.specs.Content.{Content}
use Rattle.parts.specs.Holding.{Holds}
use Rattle.rules.specs.Types.{size}
use Rattle.module.specs.Modules.{said}
use Rattle.module.specs.declared.module.Module.{Module}
use Rattle.integrity.proofs.Each.{Each, each_none, each_cons}

module _ {R : Type 0} (meant : List ℕ → Option R) (w : ℕ) where
  count_read : (n : ℕ) (s : List ℕ) (rs : List R) → records meant w n s ≡ Ok rs → length rs ≡ n
  count_read zero s rs e = ap length (sym (ok_same [] rs e))
  count_read (suc n) s rs e = let l = led _ _ rs e in ap length l.all_is ∙ ap suc (count_read n (drop (4 * w) s) l.tail l.tail_is)

  each_read : (P : R → Type 0) → ((ws : List ℕ) (r : R) → meant ws ≡ Some r → P r) → (n : ℕ) (s : List ℕ) (rs : List R) → records meant w n s ≡ Ok rs → Each P rs
  each_read P h zero s rs e = rw (← ok_same [] rs e) (each_none P)
  each_read P h (suc n) s rs e =
      let l = led _ _ rs e in
      rw l.all_is (each_cons P l.head l.tail (h _ l.head l.head_is) (each_read P h n (drop (4 * w) s) l.tail l.tail_is))

kind_some : (ws : List ℕ) (t : Kind) → kind_from ws ≡ Some t → 1 ≤ unwrap_or (size (Some t)) 1
kind_some ws t e = grind (arith, nat_tests)

global_some : (ws : List ℕ) (g : Global) → global_from ws ≡ Some g → 1 ≤ g.count
global_some ws g e = grind (arith, nat_tests)

function_some : (ws : List ℕ) (f : Function) → function_from ws ≡ Some f → 1 ≤ f.count
function_some ws f e = grind (arith, nat_tests)

function_few : (ws : List ℕ) (f : Function) → function_from ws ≡ Some f → f.locals ≤ 8
function_few ws f e = grind (arith, nat_tests)

counts_some : (m d : ℕ) (n : Counts) → ranged m d n ≡ true → 1 ≤ n.functions
counts_some m d n e = search rules

functions_there : (s : List ℕ) (c : Content) → Holds s c → 1 ≤ length c.functions
functions_there s c h =
    let n = count_read function_from 4 (counts_in s).functions (drop (functions_at (counts_in s)) s) c.functions h.listed.functions_are in
    rw n (counts_some c.memory c.depth (counts_in s) h.headed.in_range)

module _ (m : Module) where
  -- a type that has a size takes a word at least
  pub kinds_some : Each (λ (t : Kind). 1 ≤ unwrap_or (size (Some t)) 1) (said m).types
  kinds_some k t at = ∥∥₁_rec le_prop (λ y. let r = y.holds.listed.types_are in search (each_read kind_from 3 (λ (t : Kind). 1 ≤ unwrap_or (size (Some t)) 1) kind_some, r, at)) m.follows

  -- a global is one at least
  pub globals_some : Each (λ (g : Global). 1 ≤ g.count) (said m).globals
  globals_some k g at = ∥∥₁_rec le_prop (λ y. let r = y.holds.listed.globals_are in search (each_read global_from 2 (λ (g : Global). 1 ≤ g.count) global_some, r, at)) m.follows

  -- a function has an instruction at least, and eight locals at most
  pub functions_some : Each (λ (f : Function). 1 ≤ f.count) (said m).functions
  functions_some k f at = ∥∥₁_rec le_prop (λ y. let r = y.holds.listed.functions_are in search (each_read function_from 4 (λ (f : Function). 1 ≤ f.count) function_some, r, at)) m.follows

  pub functions_few : Each (λ (f : Function). f.locals ≤ 8) (said m).functions
  functions_few k f at = ∥∥₁_rec le_prop (λ y. let r = y.holds.listed.functions_are in search (each_read function_from 4 (λ (f : Function). f.locals ≤ 8) function_few, r, at)) m.follows

  -- and there is one
  pub some_function : 1 ≤ length (said m).functions
  some_function = ∥∥₁_rec le_prop (λ y. functions_there _ (said m) y.holds) m.follows
