-- The worked cases hold.
use Rattle.std.specs.Prelude.{◌≡◌, ℕ, suc, ◌+◌, ◌^◌, ◌<◌, ◌≤◌, Bool, true, false, cond, ◌&&◌, ◌||◌, ◌*◌, nat_le, ◌⊎◌, List, [], ◌∷◌, length, min, is_some, None, Option, ◌==◌, nat_lt, vec_items, refl}
use Rattle.std.proofs.Common.{sym, ap, ◌∙◌, inl, inr, ⊎_elim, arith}
use Rattle.std.proofs.lemmas.Bool.{cond-true, cond-false, lt-ltb, le-ltb, eq-eqb, ne_eqb, or_from, or_right, false_from_ne_true}
use Rattle.std.proofs.lemmas.List.{get_or-set_same, get_or-set_other, length-set}
use mathlib.Core.HLevel.{⊥_prop}
use Rattle.std.specs.List.{slice_get}
use Rattle.content.specs.declared.kind.Kind.{Kind}
use Rattle.content.specs.declared.kind.Kind.TheVariants.{Pointer}
use Rattle.content.specs.declared.typed.Typed.{Typed}
use Rattle.sensitivity.specs.Sensitive.{ChainFrom, EndsChain, Links, here, link, Sensitive}
use Rattle.stores.specs.Slots.{SlotsKept, counted}
use Rattle.stores.proofs.Counted.{counted_length, counted_long}
use Rattle.hash_store.specs.Counting.{held_count, one_if}
use Rattle.hash_store.specs.Holding.{SlotOf, is_empty}
use Rattle.hash_store.specs.inside.Probing.{count, lookup}
use Rattle.hash_store.specs.Hash.{hash_entry, hash_taken}
use Rattle.stores.specs.Meaning.{Dropped}
use Rattle.hash_store.specs.declared.HashStore.{HashStore}
use Rattle.hash_store.proofs.Counts.{count_change}
use Rattle.content.specs.declared.instruction.Instruction.TheVariants as op
use Rattle.module.specs.Modules.{said}
use Rattle.module.specs.declared.module.Module.{Module}
use Rattle.values.specs.declared.bounds.Bounds.{Bounds}
use Rattle.values.specs.declared.marked.Marked.{Marked as Mark}
use Rattle.values.specs.declared.marked.Marked.TheVariants.{Code, Data}
use Rattle.machine.specs.declared.value.Value.{Value}
use Rattle.machine.specs.declared.value.Value.TheVariants.{Plain, Marked}
use Rattle.machine.specs.declared.frame.Frame.{Frame}
use Rattle.machine.specs.Values.{word}
use Rattle.machine.specs.inside.Parts.{within}
use Rattle.machine.specs.Frames.{value}
use Rattle.machine.specs.declared.event.EventKind.TheVariants.{Allocated}
use Rattle.machine.specs.declared.refusal.Stop.TheVariants.{HeapFull}
use Rattle.machine.specs.Events.{event, other}
use Rattle.machine.specs.Machine.{Sight, given, gives, keeps, make, makes, stops, size, sensitive, enter_through}
use Rattle.machine.specs.inside.Parts.{kept}
use Rattle.machine.proofs.Bounding.{bounded}
use Rattle.worked.specs.Worked.{four, FourToSix, Asked, Holding3, Spoilt, FiveAndNine, Worked}

-- the types and fields of the module
abbrev pub kinds : List Kind
kinds = four.types

abbrev pub both : List Typed
both = four.fields

-- where no link leads out of Q, and Q has no end, no chain begins in Q
pub unending : (types : List Kind) (fields : List Typed) (Q : ℕ → Type 0) → ((i : ℕ) → Q i → EndsChain (slice_get types i) → ⊥) → ((i j : ℕ) → Q i → Links fields (slice_get types i) j → Q j) → {i : ℕ} → ChainFrom types fields i → Q i → ⊥
unending types fields Q e l (here i p) q = e i q p
unending types fields Q e l (link i j r s) q = unending types fields Q e l s (l i j q r)

circle : Sensitive (Pointer 0 ∷ []) [] 0 → ⊥
circle = ∥∥₁_rec ⊥_prop (λ c. unending _ _ (λ i. i ≡ 0) (λ i q p. rw q at p) (λ i j q r. sym (rw q at r)) c refl)

pub to_number : Sensitive kinds both 5 → ⊥
to_number =
    ∥∥₁_rec ⊥_prop (λ c.
    unending _ _ (λ i. (i ≡ 5) ⊎ (i ≡ 0))
    (λ i q p. ⊎_elim (λ (e : i ≡ 5). rw e at p) (λ (e : i ≡ 0). rw e at p) q)
    (λ i j q r. ⊎_elim (λ (e : i ≡ 5). inr (sym (rw e at r))) (λ (e : i ≡ 0). absurd (rw e at r)) q)
    c (inl refl))

-- what lies within the bounds from 4 to 6
lies : (b : Bounds) → FourToSix b → (w n : ℕ) (t : Bool) → (nat_le 4 w && nat_le (w + n) 6) ≡ t → within b w n ≡ t
lies b r w n t e = rw (r.0, r.1) e

-- a sensitive local holds what it is given
holds : (m : Module) (f : Frame) (x : ℕ) (v : Value) → sensitive m f x ≡ true → x < length f.locals → value (given m f x v) x ≡ v
holds m f x v s lt = get_or-set_same f.locals x (kept m f x v) (Plain 0) lt ∙ rw s refl

spoilt : (m : Module) (s : Sight) (f : Frame) (rest : List Frame) (x y z : ℕ) → Holding3 m f x y z → Spoilt m s f rest x y z
spoilt m s f rest x y z (three, one, sensitive_x, sensitive_y, size_y, there_x, there_y, apart) =
    let cast : Frame = given m f y (Marked (Code 3)) in
    let moved : Frame = given m cast y (Plain 4) in
    let long : (g : Frame) (v : Value) (n : ℕ) → n < length g.locals → n < length (given m g y v).locals = λ g v n lt. rw (length-set g.locals y (kept m g y v)) lt in
    let on : value cast y ≡ Marked (Code 3) = holds m f y (Marked (Code 3)) sensitive_y there_y in
    let by : word (value cast z) ≡ 1 = ap word (get_or-set_other f.locals y z (kept m f y (Marked (Code 3))) (Plain 0) apart) ∙ one in
    let off : value moved y ≡ Plain 4 = holds m cast y (Plain 4) sensitive_y (long f (Marked (Code 3)) y there_y) in
    let last : value (given m moved x (Plain 4)) x ≡ Plain 4 = holds m moved x (Plain 4) sensitive_x (long cast (Plain 4) x (long f (Marked (Code 3)) x there_x)) in (
      ap (gives m s f rest other y) three,
      on,
      rw (on, by, size_y) refl,
      off,
      ap (gives m s moved rest other x) off,
      ap (enter_through m s (given m moved x (Plain 4)) rest) last,
    )

module _ (m : Module) (s : Sight) (f : Frame) (rest : List Frame) (x y z : ℕ) (r : Asked m s f x y z) where
  three_fit : (word (value f y) == 0 || nat_lt (said m).memory (s.state.heap + word (value f y) * size m f x)) ≡ false
  three_fit = rw (r.4, r.3, r.2, r.1, r.0) refl

  too_many : (word (value f z) == 0 || nat_lt (said m).memory (s.state.heap + word (value f z) * size m f x)) ≡ true
  too_many = rw (r.5, r.3, r.2, r.1, r.0) refl

  heap : ((b : Bounds) × (b.low ≡ 4) × (b.high ≡ 10) × (make m s f rest (op.Allocate x y) ≡ makes (event Allocated 3) (given m f x (Marked (Data 4 b)) ∷ rest) 10 keeps s.memory)) × (make m s f rest (op.Allocate x z) ≡ stops s HeapFull)
  heap =
      let b : Bounds = record { low = 4; high = 10; some = omega arith; inside = omega arith } in
      let at : s.state.heap ≡ 4 = r.2 ∙ r.1 in
      ((b, refl, refl, cond-false _ _ _ three_fit ∙ rw (r.4, r.3, at, bounded 4 10 b refl refl) refl), cond-true _ _ _ too_many)

module _ {V : Type 0} where
  count_le : (xs : List (SlotOf V)) → count xs ≤ length xs
  count_le [] = omega arith
  count_le (x ∷ xs) = at (is_empty x) (count_le xs)
    where
      at : (b : Bool) → count xs ≤ length xs → cond b 0 1 + count xs ≤ suc (length xs)
      at true le = omega arith
      at false le = omega arith

  -- what is held but for what is held at a
  abbrev without : (ℕ → Option V) → ℕ → ℕ → Option V
  without e a b = cond (b == a) None (e b)

  fewer : (e : ℕ → Option V) (a : ℕ) → a < 2 ^ 32 → is_some (e a) ≡ true → held_count (without e a) + 1 ≡ held_count e
  fewer e a lt h =
      let none : without e a a ≡ None = rw (eq-eqb a a refl) refl in
      let c : held_count (without e a) + one_if (is_some (e a)) ≡ held_count e + one_if (is_some (without e a a)) = count_change e (without e a) a (λ b ne. rw (ne_eqb b a ne) refl) lt in
      let c : held_count (without e a) + 1 ≡ held_count e + 0 = rw (h, none) at c in
      omega (arith, c)

  module _ (e : ℕ → Option V) (five : is_some (e 5) ≡ true) (nine : is_some (e 9) ≡ true) where
    two_held : 2 ≤ held_count e
    two_held = omega (arith, fewer e 5 (omega arith) five, fewer (without e 5) 9 (omega arith) nine)

    three_held : is_some (e 7) ≡ true → 3 ≤ held_count e
    three_held seven = omega (arith, fewer e 5 (omega arith) five, fewer (without e 5) 9 (omega arith) nine, fewer (without (without e 5) 9) 7 (omega arith) seven)

hashed : (h i : HashStore Mark) → FiveAndNine h
    → (hash_taken (vec_items h.slots) 7 ≡ false) × (Dropped (hash_entry (vec_items h.slots)) (hash_entry (vec_items i.slots)) (hash_taken (vec_items h.slots)) (hash_taken (vec_items i.slots)) 5 → SlotsKept (vec_items h.slots) (vec_items i.slots) → hash_taken (vec_items i.slots) 7 ≡ true)
hashed h i r =
    let xs : List (SlotOf Mark) = counted (vec_items h.slots) in
    let ys : List (SlotOf Mark) = counted (vec_items i.slots) in
    let long : length xs ≡ 2 = counted_length (vec_items h.slots) ∙ ap (min 65536) r.0 in
    let most : held_count (lookup xs) ≤ 2 = omega (arith, h.sound.counts, count_le xs, long) in
    let not_seven : is_some (lookup xs 7) ≡ false = false_from_ne_true _ (λ seven. absurd (omega (arith, most, three_held (lookup xs) r.1 r.2 seven))) in
    let full : nat_lt (held_count (lookup xs)) (length xs) ≡ false = le-ltb (held_count (lookup xs)) (length xs) (omega (arith, long, two_held (lookup xs) r.1 r.2)) in (
      or_from _ _ not_seven full,
      λ d k.
          let c : held_count (lookup ys) + one_if (is_some (lookup xs 5)) ≡ held_count (lookup xs) + one_if (is_some (lookup ys 5)) = count_change (lookup xs) (lookup ys) 5 d.others (omega arith) in
          let c : held_count (lookup ys) + 1 ≡ held_count (lookup xs) + 0 = rw (r.1, d.gone) at c in
          or_right _ _ (lt-ltb (held_count (lookup ys)) (length ys) (omega (arith, c, most, long, counted_long _ _ k))),
    )

pub worked : Worked
worked =
    record {
      circle = circle;
      through_record = ∣ link 4 3 refl (link 3 2 (1, (omega arith), refl) (link 2 1 refl (here 1 tt))) ∣₁;
      to_number = to_number;
      load = λ m s f rest x b r. (cond-true _ _ _ (lies b r 5 1 true refl), cond-false _ _ _ (lies b r 6 1 false refl));
      field = λ m s f rest x k b r. (cond-true _ _ _ (lies b r 4 2 true refl), cond-false _ _ _ (lies b r 5 2 false refl));
      around = λ m s f rest x b. (refl, refl);
      spoilt = spoilt;
      heap = heap;
      hashed = hashed;
      window = λ w x v r t. (
        rw (r.0, r.1, counted_length (vec_items w.below.slots), r.2) refl,
        rw (counted_length (vec_items w.below.slots), r.2) refl,
        rw (r.0, r.1) refl,
        (λ p. sym (rw (t.0, t.1) refl) ∙ p.holds),
        rw (r.0, r.1) refl,
      );
    }
