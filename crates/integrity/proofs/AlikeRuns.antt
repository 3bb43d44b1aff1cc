-- Two histories whose decisions agree: they enter the same functions, and the stores hold the same within the memory.
use Rattle.std.proofs.Common.{◌≡◌, refl, sym, ap, ◌∙◌, ℕ, zero, suc, ◌<◌, ◌≤◌, inl, inr, Bool, true, false, cond, List, [], ◌∷◌, length, map, filter, take, Some, None, Ok, Option, arith}
use Rattle.std.specs.List.{slice_get}
use Rattle.std.proofs.lemmas.Bool.Decides.{eqb_tells}
use Rattle.stores.specs.Meaning.{OthersStay}
use Rattle.module.specs.Modules.{said, in_function}
use Rattle.module.specs.declared.module.Module.{Module}
use Rattle.values.specs.declared.marked.Marked.{Marked as Mark}
use Rattle.machine.specs.declared.frame.Frame.{Frame}
use Rattle.machine.specs.declared.event.Event.{Event}
use Rattle.machine.specs.Events.{decides, enters}
use Rattle.machine.specs.Machine.{Entries, Taken, Sight, Act, keeps, puts, drops, Acts, Left, Does, Step, instruction}
use Rattle.machine.specs.Goes.{Made, made}
use Rattle.integrity.specs.Histories.{decisions, entered_by, Agree}
use Rattle.integrity.proofs.Held.{held_from}
use Rattle.integrity.specs.Integrity.{Begun, Alike}
use Rattle.integrity.proofs.Runs.{Quiet, Runs, rest, quiet, step, turned}
use Rattle.integrity.proofs.AlikeFrames.{Shape, shape, Low, low_entered}
use Rattle.integrity.proofs.AlikeOutcomes.{AlikeRun, LowAct, Same, SameDecision}
use Rattle.integrity.proofs.AlikeSteps.{make_both}

-- two stores hold the same below n, all of it with bounds that end at n at most
abbrev pub HoldAlike : ℕ → Entries → Entries → Type 0
HoldAlike n e f = (a : ℕ) → a < n → (e a ≡ f a) × Low n (e a)

-- where both change at b alone, to the same
at_one : (n b : ℕ) (o : Option Mark) (e f e' f' : Entries) → Low n o → e' b ≡ o → f' b ≡ o → OthersStay e e' b → OthersStay f f' b → HoldAlike n e f → HoldAlike n e' f'
at_one n b o e f e' f' low p q stay stay' al a lt =
    elim (eqb_tells a b) [
      | inl (_, same) ↦ (rw same (p ∙ sym q), rw (same, p) low)
      | inr (_, apart) ↦ (stay a apart ∙ (al a lt).0 ∙ sym (stay' a apart), rw stay (al a lt).1)
    ]

-- what one act does to both
acts_alike : (n : ℕ) (act : Act) (e f e' f' : Entries) (t u t' u' : Taken) → LowAct n act → Acts act e t e' t' → Acts act f u f' u' → HoldAlike n e f → HoldAlike n e' f'
acts_alike n keeps e f e' f' t u t' u' low p q al = rw (p.0, q.0) al
acts_alike n (puts b v) e f e' f' t u t' u' low p q al = at_one n b (Some v) e f e' f' low p.holds q.holds p.others q.others al
acts_alike n (drops b) e f e' f' t u t' u' low p q al = at_one n b None e f e' f' tt p.gone q.gone p.others q.others al

module _ (m : Module) where
  -- what the same steps leave is alike
  does_alike : (s t s' t' : Sight) (l l' : Left) (e e' : Event) → AlikeRun m s t → Does s l (Ok e) s' → Does t l' (Ok e') t' → Same m l l' → AlikeRun m s' t'
  does_alike s t s' t' l l' e e' al d d' same =
      let held : HoldAlike (said m).memory s'.entries t'.entries =
      acts_alike (said m).memory l.act s.entries t.entries s'.entries t'.entries s.taken t.taken s'.taken t'.taken same.low_act d.store
      (rw (← same.act) at d'.store) (λ a lt. (al.held a lt, al.low_held a lt)) in
      record {
        stack = rw (d.state, d'.state) same.stack;
        heap = rw (d.state, d'.state) same.heap;
        held = λ a lt. (held a lt).0;
        low = rw d.state same.low;
        low_held = λ a lt. (held a lt).1;
      }

  instruction_same : (f g : Frame) → shape f ≡ shape g → instruction m f ≡ instruction m g
  instruction_same f g e = ap (λ (z : Shape). in_function (said m) (slice_get (said m).functions z.function) z.place) e

  pub step_alike : (s t s' t' : Sight) (e e' : Event) → AlikeRun m s t → Step m s (Ok e) s' → Step m t (Ok e') t' → SameDecision e e' → (e ≡ e') × AlikeRun m s' t'
  step_alike s t s' t' e e' al p p' d =
      let c = turned m s e s' p in
      let c' = turned m t e' t' p' in
      let stacks : map shape (c.frame ∷ c.others) ≡ map shape (c'.frame ∷ c'.others) = rw (c.stack_is, c'.stack_is) at al.stack in
      let same : shape c.frame ≡ shape c'.frame = cc in
      let z = instruction_same c.frame c'.frame same in
      let i : c.instr ≡ c'.instr = cc in
      let k = make_both m s t c.frame c'.frame c.others c'.others al c.stack_is c'.stack_is c.instr e e' c.answer (rw i c'.answer) d in
      (let a = k.answer in let b = c.answer in let b' = c'.answer in cc, does_alike s t s' t' _ _ e e' al c.does (rw i c'.does) k)

-- the events that enter a function
abbrev enterings : List Made → List Event
enterings h = filter (λ e. enters e.kind) (map (λ d. d.event) h)

agree_none : {X : Type 0} (xs : List X) → Agree xs []
agree_none [] = refl
agree_none (x ∷ xs) = refl

none_agrees : {X : Type 0} (ys : List X) → Agree [] ys
none_agrees [] = refl
none_agrees (y ∷ ys) = refl

agree_head : {X : Type 0} (x y : X) (xs ys : List X) → Agree (x ∷ xs) (y ∷ ys) → x ≡ y
agree_head x y xs ys ag = cc

agree_tail : {X : Type 0} (x y : X) (xs ys : List X) → Agree (x ∷ xs) (y ∷ ys) → Agree xs ys
agree_tail x y xs ys ag = cc

agree_decide : (e e' : Event) (ds ds' : List Event) → Agree (cond (decides e.kind) (e ∷ ds) ds) (cond (decides e'.kind) (e' ∷ ds') ds') → SameDecision e e'
agree_decide e e' ds ds' ag p p' = agree_head e e' ds ds' (rw (p, p') at ag)

agree_rest : {X : Type 0} (b : Bool) (x : X) (xs ys : List X) → Agree (cond b (x ∷ xs) xs) (cond b (x ∷ ys) ys) → Agree xs ys
agree_rest true x xs ys ag = agree_tail x x xs ys ag
agree_rest false x xs ys ag = ag

agree_more : (b : Bool) (x : Event) (xs ys : List Event) → Agree (map (λ e. e.word) xs) (map (λ e. e.word) ys) → Agree (map (λ e. e.word) (cond b (x ∷ xs) xs)) (map (λ e. e.word) (cond b (x ∷ ys) ys))
agree_more true x xs ys ag = ap (λ zs. x.word ∷ zs) ag
agree_more false x xs ys ag = ag

-- after as many steps the stores hold the same below n
abbrev pub HoldSame : ℕ → Entries → Entries → List Made → List Made → Type 0
HoldSame n e f h h' = (k a : ℕ) → k ≤ length h → k ≤ length h' → a < n → held_from e (take k h) a ≡ held_from f (take k h') a

hold_none : (n : ℕ) (e f : Entries) (h : List Made) → ((a : ℕ) → a < n → e a ≡ f a) → HoldSame n e f [] h
hold_none n e f h al zero a le le' lt = al a lt
hold_none n e f h al (suc k) a le le' lt = absurd (omega arith)

hold_short : (n : ℕ) (e f : Entries) (h : List Made) → ((a : ℕ) → a < n → e a ≡ f a) → HoldSame n e f h []
hold_short n e f h al zero a le le' lt = al a lt
hold_short n e f h al (suc k) a le le' lt = absurd (omega arith)

hold_more : (n : ℕ) (e f : Entries) (d d' : Made) (h h' : List Made) → ((a : ℕ) → a < n → e a ≡ f a) → HoldSame n d.left d'.left h h' → HoldSame n e f (d ∷ h) (d' ∷ h')
hold_more n e f d d' h h' al p zero a le le' lt = al a lt
hold_more n e f d d' h h' al p (suc k) a le le' lt = p k a (omega arith) (omega arith) lt

-- what was held before a history tells as its address does
held_clear : (e f : Entries) (h : List Made) (a : ℕ) → e a ≡ f a → held_from e h a ≡ held_from f h a
held_clear e f [] a p = p
held_clear e f (d ∷ h) a p = refl

module _ (m : Module) where
  quiet_left : {s s' : Sight} (t : Sight) → Quiet s s' → AlikeRun m s t → AlikeRun m s' t
  quiet_left t q al = record {
    stack = rw q.stack al.stack;
    heap = rw q.heap al.heap;
    held = rw q.entries al.held;
    low = rw q.stack al.low;
    low_held = rw q.entries al.low_held;
  }

  quiet_right : {t t' : Sight} (s : Sight) → Quiet t t' → AlikeRun m s t → AlikeRun m s t'
  quiet_right s q al = record { stack = rw q.stack al.stack; heap = rw q.heap al.heap; held = rw q.entries al.held; low = al.low; low_held = al.low_held }

  -- what is to be shown of two histories from s and t
  abbrev pub Concludes : Sight → Sight → List Made → List Made → Type 0
  Concludes s t h h' = Agree (entered_by h) (entered_by h') × HoldSame (said m).memory s.entries t.entries h h'

  -- the first run makes a step, and what follows it has been shown
  step_against : {t t'' : Sight} {h' : List Made} (s s' : Sight) (e : Event) (h : List Made)
      → ((t t'' : Sight) (h' : List Made) → Runs m t h' t'' → AlikeRun m s' t → Agree (decisions h) (decisions h') → Concludes s' t h h')
      → Step m s (Ok e) s' → Runs m t h' t'' → AlikeRun m s t → Agree (decisions (made s e s' ∷ h)) (decisions h') → Concludes s t (made s e s' ∷ h) h'
  step_against {t} s s' e h next p rest al ag = (agree_none (entered_by (made s e s' ∷ h)), hold_short (said m).memory s.entries t.entries (made s e s' ∷ h) al.held)
  step_against s s' e h next p (quiet q r) al ag = let k = step_against s s' e h next p r (quiet_right s q al) ag in rw q.entries at k
  step_against {t} {t'' = t''} s s' e h next p (step {s' = t'} {h = h'} e' p' r) al ag =
      let k = step_alike m s t s' t' e e' al p p' (agree_decide e e' (decisions h) (decisions h') ag) in
      let ag' : Agree (decisions h) (decisions h') = agree_rest (decides e.kind) e (decisions h) (decisions h') (rw (← k.0) at ag) in
      let n = next t' t'' h' r k.1 ag' in (
        rw (← k.0) (agree_more (enters e.kind) e (enterings h) (enterings h') n.0),
        hold_more (said m).memory s.entries t.entries (made s e s') (made t e' t') h h' al.held n.1,
      )

  pub runs_alike : {s s'' : Sight} {h : List Made} → Runs m s h s'' → (t t'' : Sight) (h' : List Made) → Runs m t h' t'' → AlikeRun m s t → Agree (decisions h) (decisions h') → Concludes s t h h'
  runs_alike {s} rest t t'' h' r' al ag = (none_agrees (entered_by h'), hold_none (said m).memory s.entries t.entries h' al.held)
  runs_alike (quiet q r) t t'' h' r' al ag = let k = runs_alike r t t'' h' r' (quiet_left t q al) ag in rw q.entries at k
  runs_alike {s} (step {s' = s'} {h = h} e p r) t t'' h' r' al ag = step_against s s' e h (runs_alike r) p r' al ag

  pub begun_alike : (s t : Sight) → Begun m s → Begun m t → AlikeRun m s t
  begun_alike s t b b' = record {
    stack = rw (b.state, b'.state) refl;
    heap = rw (b.state, b'.state) refl;
    held = λ a lt. b.clear a lt ∙ sym (b'.clear a lt);
    low = rw b.state (low_entered (said m).memory 0, tt);
    low_held = λ a lt. let z = b.clear a lt in rw z tt;
  }

  pub alike_of : (s t s' t' : Sight) (h h' : List Made) → Begun m s → Begun m t → Runs m s h s' → Runs m t h' t' → Agree (decisions h) (decisions h') → Alike m h h'
  alike_of s t s' t' h h' b b' r r' ag =
      let k = runs_alike r t t' h' r' (begun_alike s t b b') ag in
      record {
        enter = k.0;
        hold = λ n a le le' lt.
            sym (held_clear s.entries (λ _. None) (take n h) a (b.clear a lt)) ∙ k.1 n a le le' lt ∙ held_clear t.entries (λ _. None) (take n h') a (b'.clear a lt);
      }
