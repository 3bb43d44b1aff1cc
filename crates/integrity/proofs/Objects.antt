-- Globals and blocks don't overlap, and lie within the memory: what stays so through a run.
use Rattle.std.proofs.Common.{◌≡◌, ◌≢◌, ℕ, ◌+◌, ◌*◌, ◌<◌, ◌≤◌, ◌⊎◌, inl, inr, List, [], ◌∷◌, ◌++◌, length, Some, Ok, refl, sym, ap, ◌∙◌, subst, arith, ⊎_elim}
use Rattle.std.proofs.Math.Nat.{mul-pos}
use Rattle.std.proofs.lemmas.Bool.{cases_lt}
use Rattle.std.proofs.lemmas.Option.{slice_get_within}
use Rattle.content.specs.declared.instruction.Instruction.{Instruction}
use Rattle.content.specs.declared.instruction.Instruction.TheVariants as op
use Rattle.tables.specs.Tables.{words}
use Rattle.module.specs.Modules.{said}
use Rattle.module.specs.declared.module.Module.{Module}
use Rattle.machine.specs.declared.frame.Frame.{Frame}
use Rattle.machine.specs.declared.event.Event.{Event}
use Rattle.machine.specs.Values.{word}
use Rattle.machine.specs.Frames.{value}
use Rattle.machine.specs.Machine.{State, Sight, Left, Step, size, make}
use Rattle.machine.specs.Goes.{Made, made}
use Rattle.integrity.specs.Histories.{Allocated, Name, global, block, Object}
use Rattle.integrity.specs.Integrity.{Begun}
use Rattle.integrity.proofs.Each.{get_cases}
use Rattle.integrity.proofs.Forms.{Form, gave, allocated, went, wrote, entered_in, left}
use Rattle.integrity.proofs.Runs.{Quiet, Turn, turned, turn_is, form_turn}
use Rattle.integrity.proofs.Sizes.{globals_fit, global_some, start_before, start_within, allocate_some, starts_up}

-- the block of step n
abbrev Block : Module → List Made → ℕ → ℕ → ℕ → Type 0
Block m h n low high = Object m h (block n) low high

-- the heap begins behind the globals, and the blocks fill it in the order in which they were allocated
pub record Laid (m : Module) (h : List Made) (s : Sight) : Type 0 where
  pub from : words (said m).types (said m).globals ≤ s.state.heap
  pub upto : s.state.heap ≤ (said m).memory
  pub blocks : (n low high : ℕ) → Block m h n low high → (words (said m).types (said m).globals ≤ low) × (low < high) × (high ≤ s.state.heap)
  pub apart : (n n' low high low' high' : ℕ) → n < n' → Block m h n low high → Block m h n' low' high' → high ≤ low'

-- a step leaves the heap, or hands out the words that it begins with
record Grows (m : Module) (s : Sight) (d : Made) (s' : Sight) : Type 0 where
  up : s.state.heap ≤ s'.state.heap
  upto : s'.state.heap ≤ (said m).memory
  new : (low high : ℕ) → Allocated m d low high → (low ≡ s.state.heap) × (low < high) × (high ≡ s'.state.heap)

module _ (m : Module) where
  block_more : (h : List Made) (d : Made) (n low high : ℕ) → Block m (h ++ d ∷ []) n low high → Block m h n low high ⊎ ((n ≡ length h) × Allocated m d low high)
  block_more h d n low high b = ⊎_elim
      (λ a. inl (b.0, a, b.2))
      (λ a. inr (a.0, subst (λ (c : Made). Allocated m c low high) (sym a.1) b.2))
      (get_cases h d n b.0 b.1)

  block_before : (h : List Made) (n low high : ℕ) → Block m h n low high → n < length h
  block_before h n low high b = slice_get_within h n b.0 b.1

  laid_more : (h : List Made) (s : Sight) (d : Made) (s' : Sight) → Laid m h s → Grows m s d s' → Laid m (h ++ d ∷ []) s'
  laid_more h s d s' l g =
      record {
        from = omega (arith, l.from, g.up);
        upto = g.upto;
        blocks = λ n low high b. ⊎_elim
            (λ a. let o = l.blocks n low high a in (o.0, o.1, omega (arith, o.2, g.up)))
            (λ a. let o = g.new low high a.1 in (omega (arith, l.from, o.0), o.1, omega (arith, o.2)))
            (block_more h d n low high b);
        apart = λ n n' low high low' high' lt b b'. ⊎_elim
            (λ a. ⊎_elim
            (λ a'. l.apart n n' low high low' high' lt a a')
            (λ a'. omega (arith, (l.blocks n low high a).2, (g.new low' high' a'.1).0))
            (block_more h d n' low' high' b'))
            (λ a. ⊎_elim
            (λ a'. absurd (omega (arith, lt, a.0, block_before h n' low' high' a')))
            (λ a'. absurd (omega (arith, lt, a.0, a'.0)))
            (block_more h d n' low' high' b'))
            (block_more h d n low high b);
      }

  -- whether an instruction allocates
  allocates : (i : Instruction) → ((x : ℕ) × (y : ℕ) × (i ≡ op.Allocate x y)) ⊎ ((x y : ℕ) → i ≡ op.Allocate x y → ⊥)
  allocates (op.Allocate x y) = inl (x, y, refl)
  allocates i = inr (λ x y e. cc)

  module _ (s : Sight) (f : Frame) (rest : List Frame) where
    -- an allocation hands out as many words as it asks for, and they are there
    asked : (x y : ℕ) (e : Event) (l : Left) → Form m s f rest (op.Allocate x y) e l → (word (value f y) ≢ 0) × (s.state.heap + word (value f y) * size m f x ≤ (said m).memory) × (l.state.heap ≡ s.state.heap + word (value f y) * size m f x)
    asked x y e l (gave z v g is) = elim g [ ]
    asked x y e l (allocated x' y' q n fits k is) = let a : x ≡ x' = cc in let b : y ≡ y' = cc in rw (a, b) (n, fits, ap (λ (k : Left). k.state.heap) is)
    asked x y e l (went p g k is) = elim g [ ]
    asked x y e l (wrote a w g k is) = elim g [ ]
    asked x y e l (entered_in k g n b q is) = elim n [ ]
    asked x y e l (left q k is) = absurd (cc)

    -- any other step leaves the heap
    stays : (i : Instruction) (e : Event) (l : Left) → ((x y : ℕ) → i ≡ op.Allocate x y → ⊥) → Form m s f rest i e l → l.state.heap ≡ s.state.heap
    stays i e l u (gave z v g is) = ap (λ (k : Left). k.state.heap) is
    stays i e l u (allocated x y q n fits k is) = absurd (u x y q)
    stays i e l u (went p g k is) = ap (λ (k : Left). k.state.heap) is
    stays i e l u (wrote a w g k is) = ap (λ (k : Left). k.state.heap) is
    stays i e l u (entered_in k g n b q is) = ap (λ (k : Left). k.state.heap) is
    stays i e l u (left q k is) = ap (λ (k : Left). k.state.heap) is

  grows : (s : Sight) (e : Event) (s' : Sight) → s.state.heap ≤ (said m).memory → Turn m s e s' → Grows m s (made s e s') s'
  grows s e s' upto t =
      let f = t.frame in
      let form = form_turn t in
      let heap : s'.state.heap ≡ (make m s f t.others t.instr).state.heap = ap (λ (k : State). k.heap) t.does.state in
      ⊎_elim
      (λ (x, y, q).
      let n = word (value f y) * size m f x in
      let (w, fits, h) = asked s f t.others x y e _ (subst (λ i. Form m s f t.others i e (make m s f t.others t.instr)) q form) in
      let some : 0 < n = mul-pos (omega (arith, w)) (allocate_some m f x y (t.instruction_is ∙ ap Some q)) in
      record {
        up = omega (arith, heap, h);
        upto = omega (arith, heap, h, fits);
        new = λ low high a.
            let same = turn_is t a.3 in
            let it : op.Allocate a.1 a.2 ≡ op.Allocate x y = same.1 ∙ q in
            let b : a.1 ≡ x = cc in
            let c : a.2 ≡ y = cc in
            let as_many : word (value a.0 a.2) * size m a.0 a.1 ≡ n = rw (same.0, b, c) refl in
            (a.4, omega (arith, a.4, a.5, as_many, some), omega (arith, a.5, as_many, heap, h));
      })
      (λ u. let h : s'.state.heap ≡ s.state.heap = heap ∙ stays s f t.others t.instr e _ u form in
      record {
        up = omega (arith, h);
        upto = omega (arith, h, upto);
        new = λ low high a. let same = turn_is t a.3 in absurd (u a.1 a.2 (sym same.1));
      })
      (allocates t.instr)

-- so it is as a run begins
pub laid_begin : {m : Module} {s : Sight} → Begun m s → Laid m [] s
laid_begin {m} b =
    let e = ap (λ (t : State). t.heap) b.state in
    record {
      from = omega (arith, e);
      upto = omega (arith, e, globals_fit m);
      blocks = λ n low high b. absurd (omega (arith, block_before m [] n low high b));
      apart = λ n n' low high low' high' lt b b'. absurd (omega (arith, block_before m [] n low high b));
    }

-- where nothing is made
pub laid_quiet : {m : Module} {h : List Made} {s s' : Sight} → Laid m h s → Quiet s s' → Laid m h s'
laid_quiet l q =
    record {
      from = omega (arith, q.heap, l.from);
      upto = omega (arith, q.heap, l.upto);
      blocks = λ n low high b. let o = l.blocks n low high b in (o.0, o.1, omega (arith, q.heap, o.2));
      apart = l.apart;
    }

-- and behind a made step
pub laid_step : {m : Module} {h : List Made} {s : Sight} {e : Event} {s' : Sight} → Laid m h s → Step m s (Ok e) s' → Laid m (h ++ made s e s' ∷ []) s'
laid_step {m} {h} {s} {e} {s'} l p = laid_more m h s (made s e s') s' l (grows m s e s' l.upto (turned m s e s' p))

-- no two of all globals and blocks overlap
pub apart_of : {m : Module} {h : List Made} {s : Sight} → Laid m h s → (o o' : Name) (low high low' high' : ℕ) → o ≢ o' → Object m h o low high → Object m h o' low' high' → (high ≤ low') ⊎ (high' ≤ low)
apart_of {m} l (global k) (global k') low high low' high' ne a b =
    let up = starts_up (said m).types (said m).globals in
    ⊎_elim
    (λ lt. inl (omega (arith, a.2, b.1, up (k + 1) k' (omega (arith, lt)))))
    (λ le. let u : k ≢ k' = λ e. ne (ap global e) in inr (omega (arith, b.2, a.1, up (k' + 1) k (omega (arith, le, u)))))
    (cases_lt k k')
apart_of {m} l (global k) (block n) low high low' high' ne a b = inl (omega (arith, a.2, start_before m (k + 1), (l.blocks n low' high' b).0))
apart_of {m} l (block n) (global k) low high low' high' ne a b = inr (omega (arith, b.2, start_before m (k + 1), (l.blocks n low high a).0))
apart_of l (block n) (block n') low high low' high' ne a b =
    ⊎_elim
    (λ lt. inl (l.apart n n' low high low' high' lt a b))
    (λ le. let u : n ≢ n' = λ e. ne (ap block e) in inr (l.apart n' n low' high' low high (omega (arith, le, u)) b a))
    (cases_lt n n')

-- each has a word at least, and lies within the memory
pub inside_of : {m : Module} {h : List Made} {s : Sight} → Laid m h s → (o : Name) (low high : ℕ) → Object m h o low high → (low < high) × (high ≤ (said m).memory)
inside_of {m} l (global k) low high a = (omega (arith, a.1, a.2, global_some m k a.0), omega (arith, a.2, start_within m (k + 1)))
inside_of l (block n) low high a = let o = l.blocks n low high a in (o.1, omega (arith, o.2, l.upto))
