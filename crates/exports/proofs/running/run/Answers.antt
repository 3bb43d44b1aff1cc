use Rattle.std.proofs.Common.{◌≡◌, ℕ, ◌*◌, length, arith, refl, sym, subst, ◌∙◌}
use mathlib.Core.Logic.{inl, inr}
use Rattle.array_store.specs.Array.{array_entry, array_kept, array_taken}
use Rattle.window.specs.Window.{WindowKept, window_entry, window_taken}
use Rattle.exports.specs.Runs.{RanOn}
use Rattle.exports.specs.Stores.{hash_entries, hash_keeps, hash_takes}
use Rattle.exports.proofs.running.run.Goals as goal

pub returns-then-memory : goal.returns-then-memory
returns-then-memory c = ((c.in_ok-module.«module», c.in_ok-module.ensures, λ e. c.if-memory.true (e ∙ sym c.memory.ensures)), refl)

pub returns-in-0 : goal.returns-in-0
returns-in-0 c =
    let program = c.in_ok-module.«module» in
    let store = c.in_ok-array-in-0.field-0 in
    let long : length c.as_mut_slice-list.result.now ≡ c.args.events = omega (arith, c.in_ok-list.ensures.len) in
    let ran = subst (λ (k : ℕ). RanOn array_entry array_taken array_kept program store c.args.memory.now (c.args.slices * k) c.run_on.result c.run_on.new.memory) long c.run_on.ensures in
    (program, c.in_ok-module.ensures, c.if-memory.false ∙ c.memory.ensures, inl (c.in-0.is, store, c.in_ok-array-in-0.ensures, ran))

pub returns-in-1 : goal.returns-in-1
returns-in-1 c =
    let program = c.in_ok-module.«module» in
    let store = c.in_ok-hash-in-1.field-0 in
    let long : length c.as_mut_slice-list.result.now ≡ c.args.events = omega (arith, c.in_ok-list.ensures.len) in
    let ran = subst (λ (k : ℕ). RanOn hash_entries hash_takes hash_keeps program store c.args.memory.now (c.args.slices * k) c.run_on-in-1.result c.run_on-in-1.new.memory) long c.run_on-in-1.ensures in
    (program, c.in_ok-module.ensures, c.if-memory.false ∙ c.memory.ensures, inr (inl (c.in-1.is, store, c.in_ok-hash-in-1.ensures, ran)))

pub returns-in-2 : goal.returns-in-2
returns-in-2 c =
    let program = c.in_ok-module.«module» in
    let made = c.in_ok-store-in-2.ensures in
    let store = c.in_ok-store-in-2.store in
    let long : length c.as_mut_slice-list.result.now ≡ c.args.events = omega (arith, c.in_ok-list.ensures.len) in
    let ran = subst (λ (k : ℕ). RanOn (window_entry hash_entries) (window_taken hash_takes) (WindowKept hash_keeps hash_entries) program store c.args.memory.now (c.args.slices * k) c.run_on-in-2.result c.run_on-in-2.new.memory) long c.run_on-in-2.ensures in
    (program, c.in_ok-module.ensures, c.if-memory.false ∙ c.memory.ensures, inr (inr (c.in-2.is, store, made.0, made.1 ∙ c.memory-in-2.ensures, made.2, ran)))
