-- What the premises of the worked cases ask for is there.
use Rattle.std.specs.Prelude.{◌≡◌, ℕ, zero, suc, ◌+◌, ◌*◌, ◌^◌, ◌<◌, true, false, cond, List, [], ◌∷◌, length, replicate, is_some, None, Some, Ok, Option, ◌==◌, nat_lt, slice_index_or, slice_set, unwrap_or, vec_items, refl}
use Rattle.std.proofs.Common.{sym, ap, ◌∙◌, subst, ⊎_elim, arith, eqb-true, ne_eqb, eq-eqb}
use Rattle.std.proofs.lemmas.Bool.{cases_Bool, cond-true, lt-ltb, both_ways, or_right}
use Rattle.std.proofs.lemmas.List.{get_or-set_other}
use denote.RawPtr.{null_ptr}
use Rattle.std.specs.Global.{Vec}
use Rattle.sensitivity.specs.Sensitive.{here, link, Sensitive}
use Rattle.stores.specs.Meaning.{Dropped, Put}
use Rattle.stores.specs.Slots.{SlotsKept, counted}
use Rattle.stores.proofs.Counted.{counted_set}
use Rattle.array_store.specs.Array.{array_entry, array_taken}
use Rattle.array_store.specs.declared.ArrayStore.{ArrayStore}
use Rattle.hash_store.specs.Counting.{held_count}
use Rattle.hash_store.specs.Holding.{SlotOf, has}
use Rattle.hash_store.specs.inside.Probing.{Ordered, Sound, home_of, lookup, slot_at}
use Rattle.hash_store.specs.Hash.{hash_entry, hash_taken}
use Rattle.hash_store.specs.declared.HashStore.{HashStore}
use Rattle.hash_store.proofs.Counts.{count_change, count_none}
use Rattle.window.specs.Window.{shows, window_entry, window_taken}
use Rattle.window.specs.declared.Window.{Window}
use Rattle.tables.specs.Tables.{words}
use Rattle.tables.specs.declared.layout.Local.{Local}
use Rattle.module.specs.Modules.{said, instruction_at, local_at}
use Rattle.module.specs.declared.module.Module.{Module}
use Rattle.machine.specs.Values.{Mark, Code}
use Rattle.machine.specs.declared.frame.Frame.{Frame}
use Rattle.machine.specs.declared.value.Value.TheVariants.{Plain, Marked}
use Rattle.machine.specs.Frames.{entered}
use Rattle.machine.specs.Machine.{Does, Sight, Step, given, gives, instruction, make, turn}
use Rattle.machine.specs.inside.Parts.{take_turn}
use Rattle.machine.specs.inside.Parts.{kept as held}
use Rattle.machine.proofs.Parts.{local}
use Rattle.machine.specs.Events.{other}
use Rattle.machine.specs.declared.value.Value.{Value}
use Rattle.content.specs.declared.instruction.Instruction.{Instruction}
use Rattle.content.specs.declared.instruction.Instruction.TheVariants as op
use Rattle.worked.proofs.Said.{module_of}
use Rattle.worked.proofs.Shown.{kinds, both}
use Rattle.worked.specs.Worked.{four, standing, seen, Asked, Eight, FiveAndNine, Holding3, Met}

-- a module that says it
module _ (m : Module) (e : said m ≡ four) where
  marked : (t : ℕ) → Sensitive kinds both t → slice_index_or m.sensitive t false ≡ true
  marked t s = (m.right t).1 (subst (λ c. Sensitive c.types c.fields t) (sym e) s)

  -- what is so of a local where `four` is said
  of_local : (P : Local → Type 0) (x : ℕ) → P (local_at four m.sensitive 0 x) → P (local m standing x)
  of_local P x = subst (λ c. P (local_at c m.sensitive 0 x)) (sym e)

  -- plain stays plain
  kept_plain : (f : Frame) (x n : ℕ) → held m f x (Plain n) ≡ Plain n
  kept_plain f x n = ⊎_elim (λ t. rw t refl) (λ t. rw t refl) (cases_Bool (local m f x).sensitive)

  sensitive_x : (local m standing 0).sensitive ≡ true
  sensitive_x = of_local (λ l. l.sensitive ≡ true) 0 (marked 2 ∣ link 2 1 refl (here 1 tt) ∣₁)

  -- the frames of the first four steps
  abbrev first : Frame
  first = given m (entered 0) 0 (Marked (Code 3))

  abbrev second : Frame
  second = given m first 2 (Plain 1)

  abbrev third : Frame
  third = given m second 4 (Plain 3)

  fourth : given m third 5 (Plain 2147483648) ≡ standing
  fourth = rw (sensitive_x, kept_plain first 2 1, kept_plain second 4 3, kept_plain third 5 2147483648) refl

  -- a step whose instruction gives a local a value
  steps : (f : Frame) (i : Instruction) (x : ℕ) (v : Value) → instruction_at four f.function f.place ≡ Some i → make m (seen m f) f [] i ≡ gives m (seen m f) f [] other x v → Step m (seen m f) (Ok other) (seen m (given m f x v))
  steps f i x v at does =
      let s : Sight = seen m f in
      let long : (10 == (said m).memory) ≡ true = ap (λ c. 10 == c.memory) e in
      let here : instruction m f ≡ Some i = subst (λ c. instruction_at c f.function f.place ≡ Some i) (sym e) at in
      let turns : turn m s s.state.stack ≡ gives m s f [] other x v = cond-true _ _ _ long ∙ ap (take_turn m s f []) here ∙ does in
      subst (λ l. Does s l (Ok other) (seen m (given m f x v))) (sym turns) (record { answer = refl; state = refl; store = (refl, refl); memory = refl })

  stands : (f : Frame) × (g : Frame) × (h : Frame) × Step m (seen m (entered 0)) (Ok other) (seen m f) × Step m (seen m f) (Ok other) (seen m g) × Step m (seen m g) (Ok other) (seen m h) × Step m (seen m h) (Ok other) (seen m standing)
  stands =
      (first, second, third, steps (entered 0) (op.Function 0 3) 0 (Marked (Code 3)) refl refl, steps first (op.Set 2 1) 2 (Plain 1) refl refl, steps second (op.Set 4 3) 4 (Plain 3) refl refl, subst (λ f. Step m (seen m third) (Ok other) (seen m f)) fourth (steps third (op.Set 5 2147483648) 5 (Plain 2147483648) refl refl))

  holding : Holding3 m standing 0 1 2
  holding =
      (refl, refl, sensitive_x, of_local (λ l. l.sensitive ≡ true) 1 (marked 8 ∣ link 8 7 refl (link 7 6 refl (here 6 tt)) ∣₁), of_local (λ l. unwrap_or l.size 0 ≡ 1) 1 refl, omega arith, omega arith, λ p. absurd (omega (arith, p)))

  asked : Asked m (seen m standing) standing 3 4 5
  asked = (ap (λ c. c.memory) e, ap (λ c. words c.types c.globals) e, refl, of_local (λ l. unwrap_or l.size 0 ≡ 2) 3 refl, refl, refl)

-- a vector of these items
vec : {X : Type 0} (xs : List X) → length xs < 2 ^ 63 → Vec X
vec xs lt = record { ptr = null_ptr; len = length xs; cap = length xs; alloc = record { memory = record { seal = tt } }; items = xs; ok = (refl, omega arith); small = lt }

module _ {V : Type 0} where
  -- one slot more holds one address more
  count_more : (k : ℕ) (v : V) (xs : List (SlotOf V)) → k < 2 ^ 32 → lookup xs k ≡ None → held_count (lookup (Some (k, v) ∷ xs)) ≡ held_count (lookup xs) + 1
  count_more k v xs lt none =
      let c = count_change (lookup xs) (lookup (Some (k, v) ∷ xs)) k (λ b ne. rw (ne_eqb k b (λ p. ne (sym p))) refl) lt in
      let c = rw (none, eq-eqb k k refl) at c in
      omega (arith, c)

  count_one : (k : ℕ) (v : V) → k < 2 ^ 32 → held_count (lookup (Some (k, v) ∷ [])) ≡ 1
  count_one k v lt = omega (arith, count_more k v [] lt refl, count_none {V = V} (lookup []) (λ a. refl))

  module _ (v u : V) where
    abbrev two : List (SlotOf V)
    two = Some (9, u) ∷ Some (5, v) ∷ []

    abbrev one : List (SlotOf V)
    one = None ∷ Some (9, u) ∷ []

    two_at : (i a : ℕ) → has (slot_at two i) a ≡ true → 4 * i + a ≡ 9
    two_at zero a h = let e : 9 ≡ a = eqb-true 9 a h in omega (arith, e)
    two_at (suc zero) a h = let e : 5 ≡ a = eqb-true 5 a h in omega (arith, e)
    two_at (suc (suc i)) a h = absurd (both_ways _ refl h)

    two_ordered : Ordered 2 two
    unfolding home_of
    two_ordered zero lt = omega arith
    two_ordered (suc zero) lt = omega arith
    two_ordered (suc (suc i)) lt = absurd (omega arith)

    two_sound : Sound two
    two_sound =
        record {
          counts = count_more 9 u (Some (5, v) ∷ []) (omega arith) refl ∙ ap (λ n. n + 1) (count_one 5 v (omega arith));
          single = λ t. omega (arith, two_at t.i t.a t.one, two_at t.j t.a t.other);
          ordered = two_ordered;
        }

    one_at : (i a : ℕ) → has (slot_at one i) a ≡ true → (i ≡ 1) × (9 ≡ a)
    one_at zero a h = absurd (both_ways _ refl h)
    one_at (suc zero) a h = (refl, eqb-true 9 a h)
    one_at (suc (suc i)) a h = absurd (both_ways _ refl h)

    one_ordered : Ordered 2 one
    unfolding home_of
    one_ordered zero lt = omega arith
    one_ordered (suc zero) lt = omega arith
    one_ordered (suc (suc i)) lt = absurd (omega arith)

    one_held : held_count (lookup one) ≡ 1
    one_held = count_one 9 u (omega arith)

    one_sound : Sound one
    one_sound =
        record {
          counts = one_held;
          single = λ t. (one_at t.i t.a t.one).0 ∙ sym (one_at t.j t.a t.other).0;
          ordered = one_ordered;
        }

    dropped : Dropped (hash_entry two) (hash_entry one) (hash_taken two) (hash_taken one) 5
    unfolding counted
    dropped =
        let room : (b : ℕ) → hash_taken one b ≡ true = λ b. or_right (is_some (lookup one b)) (nat_lt (held_count (lookup one)) 2) (lt-ltb (held_count (lookup one)) 2 (omega (arith, one_held))) in
        record {
          gone = refl;
          others = λ b ne. rw (ne_eqb 5 b (λ p. ne (sym p))) refl;
          free = λ h. room 5;
          still = λ b ne h. room b;
        }

    kept : SlotsKept two one
    kept = record { long = refl; uncounted = refl }

-- a hash store of these slots
hash : (xs : List (SlotOf Mark)) → length xs < 2 ^ 63 → Sound (counted xs) → HashStore Mark
unfolding vec
hash xs lt s = record { slots = vec xs lt; sound = s }

hashed : (v u : Mark) → (h : HashStore Mark) × (i : HashStore Mark) × (vec_items h.slots ≡ Some (9, u) ∷ Some (5, v) ∷ []) × (vec_items i.slots ≡ None ∷ Some (9, u) ∷ []) × FiveAndNine h
    × Dropped (hash_entry (vec_items h.slots)) (hash_entry (vec_items i.slots)) (hash_taken (vec_items h.slots)) (hash_taken (vec_items i.slots)) 5 × SlotsKept (vec_items h.slots) (vec_items i.slots)
unfolding vec hash counted
hashed v u = (hash (two v u) (omega arith) (two_sound v u), hash (one v u) (omega arith) (one_sound v u), refl, refl, (refl, refl, refl), dropped v u, kept v u)

-- a window of 8 from 100 on
over : (xs : List (Option Mark)) → length xs < 2 ^ 63 → Window (ArrayStore Mark)
over xs lt = record { base = 100; len = 8; below = record { slots = vec xs lt } }

window : (v : Mark) → (w : Window (ArrayStore Mark)) × (x : Window (ArrayStore Mark)) × (vec_items w.below.slots ≡ replicate 200 None) × (vec_items x.below.slots ≡ slice_set (replicate 200 None) 107 (Some v)) × Eight w × Eight x
    × Put (window_entry array_entry w) (window_entry array_entry x) (window_taken array_taken w) (window_taken array_taken x) 7 v
unfolding vec over counted
window v =
    let xs : List (Option Mark) = replicate 200 None in
    let ys : List (Option Mark) = slice_set xs 107 (Some v) in
    let put : Put (window_entry array_entry (over xs (omega arith))) (window_entry array_entry (over ys (omega arith))) (window_taken array_taken (over xs (omega arith))) (window_taken array_taken (over ys (omega arith))) 7 v =
    record {
      holds = refl;
      others = λ b ne. ap (λ o. cond (shows (over xs (omega arith)) b) o None) (rw (counted_set xs 107 (Some v)) (get_or-set_other (counted xs) 107 (100 + b) (Some v) None (λ e. ne (omega (arith, e)))));
      still = λ h. absurd (both_ways _ refl h);
    } in
    (over xs (omega arith), over ys (omega arith), refl, refl, (refl, refl, refl), (refl, refl, refl), put)

pub met : Met
met =
    record {
      four_to_six = (record { low = 4; high = 6; some = omega arith; inside = omega arith }, (refl, refl));
      says = module_of;
      stands = stands;
      holding = holding;
      asked = asked;
      hashed = hashed;
      window = window;
    }
