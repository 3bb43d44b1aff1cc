-- Two steps on alike states: if both are made and decide alike, they tell and leave the same but for plain words.
use Rattle.std.proofs.Common.{◌≡◌, refl, sym, ap, ◌∙◌, ℕ, ◌+◌, ◌<◌, Bool, true, false, cond, List, [], ◌∷◌, map, Ok, nat_lt, ◌==◌, unwrap_or, slice_index_or, arith, ltb-false}
use Rattle.std.proofs.lemmas.Bool.{or_parts}
use Rattle.content.specs.declared.instruction.Instruction.{Instruction}
use Rattle.content.specs.declared.instruction.Instruction.TheVariants as op
use Rattle.tables.specs.Tables.{layout_at, plain}
use Rattle.module.specs.Modules.{said}
use Rattle.module.specs.declared.module.Module.{Module}
use Rattle.values.specs.declared.marked.Marked.TheVariants.{Code, Data}
use Rattle.machine.specs.declared.value.Value.{Value}
use Rattle.machine.specs.declared.value.Value.TheVariants.{Plain, Marked}
use Rattle.machine.specs.declared.frame.Frame.{Frame}
use Rattle.machine.specs.declared.event.Event.{Event}
use Rattle.machine.specs.declared.event.EventKind.{EventKind}
use Rattle.machine.specs.declared.event.EventKind.TheVariants.{Called, CalledThrough, Returned, Ended, Branched, Moved, Allocated}
use Rattle.machine.specs.declared.refusal.Refusal.TheVariants.{Stopped}
use Rattle.machine.specs.declared.refusal.Stop.{Stop}
use Rattle.machine.specs.declared.refusal.Stop.TheVariants.{Address, NotData, Outside, NotCode, StackFull, HeapFull, NotTaken}
use Rattle.machine.specs.Values.{word, with_word, read, wrapped}
use Rattle.machine.specs.Frames.{entered, value}
use Rattle.machine.specs.Events.{event, other}
use Rattle.machine.specs.Machine.{Sight, Act, keeps, puts, drops, sensitive, size, at_place, given, stops, makes, gives, goes, writes, enter, enter_through, leave, allocate, move, field_within, load_within, keep, make}
use Rattle.machine.specs.inside.Parts.{behind, store_within}
use Rattle.machine.specs.inside.Parts.{kept}
use Rattle.machine.proofs.Bounding.{within_parts}
use Rattle.integrity.proofs.Each.{each_set}
use Rattle.integrity.proofs.Sizes.{start_within}
use Rattle.integrity.proofs.AlikeFrames.{mark_of, SameMark, both_plain, both_marked, Shape, shape, mark_at, set_same, cond_same, read_mark, Low, LowFrames, low_value, low_cond, low_entered, low_bounds}
use Rattle.integrity.proofs.AlikeOutcomes.{AlikeRun, LowAct, SameDecision, Both, left_not, both_made, if_made, unless_made, by_same}

module _ (m : Module) (s t : Sight) (f g : Frame) (fs gs : List Frame) (al : AlikeRun m s t) (stands : s.state.stack ≡ f ∷ fs) (stands' : t.state.stack ≡ g ∷ gs) where
  stacks : map shape (f ∷ fs) ≡ map shape (g ∷ gs)
  stacks = rw (stands, stands') at al.stack

  same : shape f ≡ shape g
  same = let z = stacks in cc

  others : map shape fs ≡ map shape gs
  others = let z = stacks in cc

  lows : LowFrames (said m).memory (f ∷ fs)
  lows = rw stands at al.low

  low : (x : ℕ) → Low (said m).memory (mark_of (value f x))
  low = low_value (said m).memory f lows.0

  marks : (x : ℕ) → SameMark (value f x) (value g x)
  marks x = mark_at f g same x

  function_same : f.function ≡ g.function
  function_same = ap (λ (z : Shape). z.function) same

  behind_same : f.place + 1 ≡ g.place + 1
  behind_same = ap (λ (z : Shape). z.place + 1) same

  marks_same : map mark_of f.locals ≡ map mark_of g.locals
  marks_same = ap (λ (z : Shape). z.marks) same

  size_same : (x : ℕ) → size m f x ≡ size m g x
  size_same x = ap (λ (k : ℕ). unwrap_or (slice_index_or (layout_at (said m) m.sensitive k) x plain).size 0) function_same

  sensitive_same : (x : ℕ) → sensitive m f x ≡ sensitive m g x
  sensitive_same x = ap (λ (k : ℕ). (slice_index_or (layout_at (said m) m.sensitive k) x plain).sensitive) function_same

  given_same : (x : ℕ) (v v' : Value) → mark_of v ≡ mark_of v' → shape (given m f x v) ≡ shape (given m g x v')
  given_same x v v' e =
      let k : mark_of (kept m f x v) ≡ mark_of (kept m g x v') = rw (← sensitive_same x) (cond_same (sensitive m f x) v v' e) in
      let l = set_same f g same x (kept m f x v) (kept m g x v') k in
      let p = behind_same in let n = function_same in cc

  at_same : (p p' : ℕ) → p ≡ p' → shape (at_place f p) ≡ shape (at_place g p')
  at_same p p' e = let n = function_same in let l = marks_same in cc

  neither : (why : Stop) → Both m (stops s why) (stops t why)
  neither why = left_not m (Stopped why) (stops s why) (stops t why) refl

  -- x takes a value
  gave : (e e' : Event) (x : ℕ) (v v' : Value) (h h' : ℕ) → (SameDecision e e' → (e ≡ e') × (mark_of v ≡ mark_of v') × (h ≡ h') × Low (said m).memory (mark_of v))
      → Both m (makes e (given m f x v ∷ fs) h keeps s.memory) (makes e' (given m g x v' ∷ gs) h' keeps t.memory)
  gave e e' x v v' h h' w =
      both_made m e e' (makes e (given m f x v ∷ fs) h keeps s.memory) (makes e' (given m g x v' ∷ gs) h' keeps t.memory) refl refl
      (λ d.
      let k = w d in
      record {
        answer = ap Ok k.0;
        stack = let z = given_same x v v' k.1 in let o = others in cc;
        heap = k.2;
        act = refl;
        low = (each_set (λ (u : Value). Low (said m).memory (mark_of u)) f.locals x (kept m f x v) (low_cond (said m).memory (sensitive m f x) v k.3) lows.0, lows.1);
        low_act = tt;
      })

  -- with no decision
  gave_other : (x : ℕ) (v v' : Value) → mark_of v ≡ mark_of v' → Low (said m).memory (mark_of v) → Both m (gives m s f fs other x v) (gives m t g gs other x v')
  gave_other x v v' e p = gave other other x v v' s.state.heap t.state.heap (λ d. (refl, e, al.heap, p))

  gave_plain : (x n n' : ℕ) → Both m (gives m s f fs other x (Plain n)) (gives m t g gs other x (Plain n'))
  gave_plain x n n' = gave_other x (Plain n) (Plain n') refl tt

  -- the next instruction is at a place, or the store changes
  went : (e e' : Event) (p p' : ℕ) (act : Act) (memory memory' : List ℕ) → LowAct (said m).memory act → (SameDecision e e' → (e ≡ e') × (p ≡ p'))
      → Both m (makes e (at_place f p ∷ fs) s.state.heap act memory) (makes e' (at_place g p' ∷ gs) t.state.heap act memory')
  went e e' p p' act memory memory' q w =
      both_made m e e' (makes e (at_place f p ∷ fs) s.state.heap act memory) (makes e' (at_place g p' ∷ gs) t.state.heap act memory') refl refl
      (λ d.
      let k = w d in
      record { answer = ap Ok k.0; stack = let z = at_same p p' k.1 in let o = others in cc; heap = al.heap; act = refl; low = lows; low_act = q })

  wrote : (act : Act) (memory memory' : List ℕ) → LowAct (said m).memory act → Both m (writes m s f fs act memory) (writes m t g gs act memory')
  wrote act memory memory' q = went other other (f.place + 1) (g.place + 1) act memory memory' q (λ d. (refl, behind_same))

  branch_by : (b b' : Bool) (to : ℕ) → Both m (cond b (goes m s f fs (event Branched 0) (f.place + 1)) (goes m s f fs (event Branched 1) to)) (cond b' (goes m t g gs (event Branched 0) (g.place + 1)) (goes m t g gs (event Branched 1) to))
  branch_by true true to = went (event Branched 0) (event Branched 0) (f.place + 1) (g.place + 1) keeps s.memory t.memory tt (λ d. (refl, behind_same))
  branch_by true false to = went (event Branched 0) (event Branched 1) (f.place + 1) to keeps s.memory t.memory tt (λ d. let z = ap (λ (a : Event). a.word) (d refl refl) in absurd (omega arith))
  branch_by false true to = went (event Branched 1) (event Branched 0) to (g.place + 1) keeps s.memory t.memory tt (λ d. let z = ap (λ (a : Event). a.word) (d refl refl) in absurd (omega arith))
  branch_by false false to = went (event Branched 1) (event Branched 1) to to keeps s.memory t.memory tt (λ d. (refl, refl))

  entered_both : (k : EventKind) (h : ℕ) → Both m (enter m s f fs k h) (enter m t g gs k h)
  entered_both k h =
      if_made m s t StackFull StackFull _ _ (makes (event k h) (entered h ∷ behind f ∷ fs) s.state.heap keeps s.memory) (makes (event k h) (entered h ∷ behind g ∷ gs) t.state.heap keeps t.memory)
      (λ _. both_made m (event k h) (event k h) _ _ refl refl
      (λ d. record {
        answer = refl;
        stack = let z = at_same (f.place + 1) (g.place + 1) behind_same in let o = others in cc;
        heap = al.heap;
        act = refl;
        low = (low_entered (said m).memory h, lows);
        low_act = tt;
      }))

  through_both : {v v' : Value} → SameMark v v' → Both m (enter_through m s f fs v) (enter_through m t g gs v')
  through_both (both_plain w w') = neither NotCode
  through_both (both_marked (Code h)) = entered_both CalledThrough h
  through_both (both_marked (Data w b)) = neither NotCode

  left_both : (xs ys : List Frame) → map shape xs ≡ map shape ys → LowFrames (said m).memory xs → Both m (leave m s f fs xs) (leave m t g gs ys)
  left_both [] [] e p = both_made m (event Ended 0) (event Ended 0) _ _ refl refl (λ d. record { answer = refl; stack = refl; heap = al.heap; act = refl; low = tt; low_act = tt })
  left_both [] (y ∷ ys) e p = absurd cc
  left_both (x ∷ xs) [] e p = absurd cc
  left_both (x ∷ xs) (y ∷ ys) e p = both_made m (event Returned 0) (event Returned 0) _ _ refl refl (λ d. record { answer = refl; stack = e; heap = al.heap; act = refl; low = p; low_act = tt })

  allocate_both : (x n n' k k' : ℕ) → (n ≡ n' → k ≡ k') → Both m (allocate m s f fs x n k) (allocate m t g gs x n' k')
  allocate_both x n n' k k' sizes =
      unless_made m s t HeapFull HeapFull _ _ _ _
      (λ free. gave (event Allocated n) (event Allocated n') x _ _ _ _
      (λ d.
      let e = d refl refl in
      let kk : k ≡ k' = sizes (ap (λ (z : Event). z.word) e) in
      let h = al.heap in
      let room = ltb-false (said m).memory (s.state.heap + k) (or_parts (n == 0) (nat_lt (said m).memory (s.state.heap + k)) free).1 in
      (e, cc, omega arith, low_bounds (said m).memory s.state.heap (s.state.heap + k) s.state.heap room)))

  move_both : {v v' : Value} (x n n' k k' : ℕ) → SameMark v v' → Low (said m).memory (mark_of v) → k ≡ k' → Both m (move m s f fs x v n k) (move m t g gs x v' n' k')
  move_both x n n' k k' (both_plain w w') p e = gave_plain x _ _
  move_both x n n' k k' (both_marked (Code h)) p e = gave_plain x _ _
  move_both x n n' k k' (both_marked (Data w b)) p e =
      gave (event Moved n) (event Moved n') x _ _ s.state.heap t.state.heap (λ d. let z = d refl refl in let q = ap (λ (a : Event). a.word) z in (z, cc, al.heap, p))

  field_both : {v v' : Value} (x c k k' : ℕ) → SameMark v v' → Low (said m).memory (mark_of v) → k ≡ k' → Both m (field_within m s f fs x v c k) (field_within m t g gs x v' c k')
  field_both x c k k' (both_plain w w') p e = neither NotData
  field_both x c k k' (both_marked (Code h)) p e = neither NotData
  field_both x c k k' (both_marked (Data w b)) p e =
      if_made m s t Outside Outside _ _ _ _ (λ _. gave_other x (Marked (Data (wrapped (w + c)) b)) (Marked (Data (wrapped (w + c)) b)) refl p)

  field_plain_both : {v v' : Value} (x c : ℕ) → SameMark v v' → Low (said m).memory (mark_of v)
      → Both m (gives m s f fs other x (with_word v (wrapped (word v + c)))) (gives m t g gs other x (with_word v' (wrapped (word v' + c))))
  field_plain_both x c (both_plain w w') p = gave_plain x _ _
  field_plain_both x c (both_marked (Code h)) p = gave_other x _ _ refl tt
  field_plain_both x c (both_marked (Data w b)) p = gave_other x (Marked (Data (wrapped (w + c)) b)) (Marked (Data (wrapped (w + c)) b)) refl p

  load_both : {v v' : Value} (x : ℕ) → SameMark v v' → Low (said m).memory (mark_of v) → Both m (load_within m s f fs x v) (load_within m t g gs x v')
  load_both x (both_plain w w') p = neither NotData
  load_both x (both_marked (Code h)) p = neither NotData
  load_both x (both_marked (Data a b)) p =
      if_made m s t Outside Outside _ _ _ _
      (λ i.
      let lt : a < (said m).memory = omega (arith, p, (within_parts b a 1 i).1) in
      gave_other x (read (s.entries a) _) (read (t.entries a) _) (read_mark (s.entries a) _ ∙ al.held a lt ∙ sym (read_mark (t.entries a) _))
      (rw read_mark (al.low_held a lt)))

  keep_both : {v v' : Value} (a : ℕ) → SameMark v v' → Low (said m).memory (mark_of v) → Both m (keep m s f fs v a) (keep m t g gs v' a)
  keep_both a (both_plain n n') p = wrote (drops a) _ _ tt
  keep_both a (both_marked v) p = if_made m s t NotTaken NotTaken _ _ _ _ (λ _. wrote (puts a v) s.memory t.memory p)

  store_both : {v v' u u' : Value} → SameMark v v' → SameMark u u' → Low (said m).memory (mark_of v) → Both m (store_within m s f fs v u) (store_within m t g gs v' u')
  store_both k (both_plain w w') p = neither NotData
  store_both k (both_marked (Code h)) p = neither NotData
  store_both k (both_marked (Data a b)) p = if_made m s t Outside Outside _ _ _ _ (λ _. keep_both a k p)

  cast_both : {v v' : Value} (x : ℕ) → SameMark v v' → Low (said m).memory (mark_of v) → Both m (gives m s f fs other x v) (gives m t g gs other x v')
  cast_both x (both_plain w w') p = gave_plain x w w'
  cast_both x (both_marked v) p = gave_other x (Marked v) (Marked v) refl p

  pub make_both : (i : Instruction) → Both m (make m s f fs i) (make m t g gs i)
  make_both (op.Set x n) = gave_plain x _ _
  make_both (op.Add x y z) = gave_plain x _ _
  make_both (op.Subtract x y z) = gave_plain x _ _
  make_both (op.Less x y z) = gave_plain x _ _
  make_both (op.Cast x y) = cast_both x (marks y) (low y)
  make_both (op.Jump to) = went other other to to keeps s.memory t.memory tt (λ d. (refl, refl))
  make_both (op.Branch x to) = branch_by _ _ to
  make_both (op.Function x h) = gave_other x (Marked (Code h)) (Marked (Code h)) refl tt
  make_both (op.Global x h) = gave_other x _ _ refl (low_bounds (said m).memory _ _ _ (start_within m (h + 1)))
  make_both (op.Allocate x y) = allocate_both x _ _ _ _ (λ e. let z = size_same x in cc)
  make_both (op.Move x y z) = move_both x _ _ _ _ (marks y) (low y) (size_same x)
  make_both (op.Field x y k) = by_same m _ _ _ _ _ _ (sensitive_same y) (field_both x k _ _ (marks y) (low y) (size_same y)) (field_plain_both x k (marks y) (low y))
  make_both (op.Load x y) = by_same m _ _ _ _ _ _ (sensitive_same x) (load_both x (marks y) (low y)) (if_made m s t Address Address _ _ _ _ (λ _. gave_plain x _ _))
  make_both (op.Store x y) = by_same m _ _ _ _ _ _ (sensitive_same x) (store_both (marks x) (marks y) (low x)) (if_made m s t Address Address _ _ _ _ (λ _. wrote keeps _ _ tt))
  make_both (op.Call h) = entered_both Called h
  make_both (op.CallThrough x) = through_both (marks x)
  make_both op.Return = left_both fs gs others lows.1
