-- A made step keeps a run fair.
use Rattle.std.proofs.Common.{◌≡◌, ◌≢◌, ℕ, ◌+◌, ◌*◌, ◌<◌, ◌≤◌, ⊎_elim, true, false, List, [], ◌∷◌, ◌++◌, length, Some, Ok, refl, sym, ap, ◌∙◌, subst, arith}
use Rattle.std.proofs.lemmas.Bool.{both_ways, cases_eq, cases_lt}
use Rattle.std.proofs.lemmas.Option.{same_Some, none-some}
use Rattle.content.specs.declared.instruction.Instruction.{Instruction}
use Rattle.content.specs.declared.instruction.Instruction.TheVariants as op
use Rattle.module.specs.Modules.{said}
use Rattle.module.specs.declared.module.Module.{Module}
use Rattle.values.specs.declared.bounds.Bounds.{Bounds}
use Rattle.values.specs.declared.marked.Marked.{Marked as Mark}
use Rattle.values.specs.declared.marked.Marked.TheVariants.{Code, Data}
use Rattle.machine.specs.declared.value.Value.{Value}
use Rattle.machine.specs.declared.value.Value.TheVariants.{Marked}
use Rattle.machine.specs.declared.frame.Frame.{Frame}
use Rattle.machine.specs.declared.event.Event.{Event}
use Rattle.machine.specs.Values.{word, bounds_of, data_in}
use Rattle.machine.specs.inside.Parts.{within}
use Rattle.machine.specs.Frames.{value}
use Rattle.machine.specs.Machine.{State, Entries, Taken, Sight, Act, Acts, Left, Step, sensitive, size, start_of}
use Rattle.machine.specs.inside.Parts.{behind}
use Rattle.machine.proofs.Parts.{bounds}
use Rattle.machine.specs.Goes.{Made, made}
use Rattle.machine.proofs.Bounding.{bounds_are, within_parts}
use Rattle.integrity.specs.Histories.{Did, global, block, Known}
use Rattle.integrity.proofs.Forms.{Gives, address, named, moved, cast, field, field_plain, loaded, Writes, put, dropped, written, Form, gave, allocated, went, wrote, entered_in, left}
use Rattle.integrity.proofs.Runs.{turned, did_turn, form_turn}
use Rattle.integrity.proofs.Each.{Each, each_cons, each_first, each_rest, get_last}
use Rattle.integrity.proofs.Sizes.{start_behind}
use Rattle.integrity.proofs.Fair.{FairFrame, FairStore, Fair, Ending, KnownValue, marked_known, plain_known, data_known, read_known, with_word_known, known_more, value_there, begun_frame, at_place_fair, given_fair, frame_more}

-- a step of the frame f above the others
module _ (m : Module) (h : List Made) (s : Sight) (f : Frame) (rest : List Frame) (d : Made) (fair : Fair m h s) (stack_is : s.state.stack ≡ f ∷ rest) where
  before_frames : Each (FairFrame m h) (f ∷ rest)
  before_frames = subst (λ l. Each (FairFrame m h) l) stack_is fair.frames

  pub before_frame : FairFrame m h f
  before_frame = each_first (FairFrame m h) f rest before_frames

  frame_after : FairFrame m (h ++ d ∷ []) f
  frame_after = frame_more m h d f before_frame

  rest_after : Each (FairFrame m (h ++ d ∷ [])) rest
  rest_after k g e = frame_more m h d g (each_rest (FairFrame m h) f rest before_frames k g e)

  value_known : (y : ℕ) → KnownValue m (h ++ d ∷ []) (value f y)
  value_known y v e = frame_after.known y v (value_there f y v e)

  -- a marked value stands only in a local whose type is sensitive
  not_marked : (y : ℕ) (v : Mark) → sensitive m f y ≡ false → value f y ≡ Marked v → ⊥
  not_marked y v n e = both_ways _ n (before_frame.typed y v (value_there f y v e))

  -- what is within known bounds is within the memory
  in_memory : Ending m h → (y a : ℕ) (b : Bounds) → value f y ≡ Marked (Data a b) → within b a 1 ≡ true → a < (said m).memory
  in_memory ending y a b e w =
      let k : Known m h (Data a b) = before_frame.known y (Data a b) (value_there f y (Data a b) e) in
      let l : b.high ≤ (said m).memory = ending k.0 b.low b.high k.1 in
      omega (arith, l, (within_parts b a 1 w).1)

  global_known : (g w : ℕ) (b : Bounds) → bounds m s f rest g ≡ Some b → Known m (h ++ d ∷ []) (Data w b)
  global_known g w b e =
      let c = said m in
      let p = bounds_are (start_of c.types c.globals g) (start_of c.types c.globals (g + 1)) b e in
      let there : g < length c.globals = ⊎_elim (λ l. l) (λ l. absurd (omega (arith, p.2, start_behind c.types c.globals g l, start_behind c.types c.globals (g + 1) (omega (arith, l))))) (cases_lt g (length c.globals)) in
      (global g, (there, p.0, p.1))

  gives_known : Ending m h → {i : Instruction} {e : Event} {x : ℕ} {v : Value} → Gives m s f rest i e x v → Did m d f i → KnownValue m (h ++ d ∷ []) v
  gives_known ending (address x g) did = marked_known m _ (Code g) (length h, d, f, x, get_last h d, did)
  gives_known ending (named x g) did = data_known m _ (bounds m s f rest g) _ (λ b q. global_known g (start_of (said m).types (said m).globals g) b q)
  gives_known ending (moved x y z w b is) did = marked_known m _ (Data _ b) (value_known y (Data w b) is)
  gives_known ending (cast x y) did = value_known y
  gives_known ending (field x y k w b t is l) did = marked_known m _ (Data _ b) (value_known y (Data w b) is)
  gives_known ending (field_plain x y k t) did = with_word_known m _ (value f y) _ (λ w q. not_marked y w t q)
  gives_known ending (loaded x y a n b t is l) did = read_known m _ (s.entries a) n (λ w q. known_more m h d w (fair.held a w (in_memory ending y a b is l) q))
  gives_known ending p did = plain_known m _ _

  allocated_known : (x y : ℕ) → Did m d f (op.Allocate x y) → (low high : ℕ) → low ≡ d.found.heap → high ≡ d.found.heap + word (value f y) * size m f x → KnownValue m (h ++ d ∷ []) (data_in (bounds_of low high) low)
  allocated_known x y did low high li hi =
      data_known m _ (bounds_of low high) low (λ b e.
      let p = bounds_are low high b e in
      (block (length h), (d, get_last h d, (f, x, y, did, p.0 ∙ li, p.1 ∙ hi))))

  -- the frames that a made step leaves
  frames_after : Ending m h → {i : Instruction} {e : Event} {l : Left} → d.found ≡ s.state → Did m d f i → Form m s f rest i e l → Each (FairFrame m (h ++ d ∷ [])) l.state.stack
  frames_after ending w did (gave x v g is) = rw is (each_cons (FairFrame m (h ++ d ∷ [])) _ rest (given_fair m _ f x v frame_after (gives_known ending g did)) rest_after)
  frames_after ending w did (allocated x y i_is nonzero fits e_is is) =
      let high = s.state.heap + word (value f y) * size m f x in
      let k = allocated_known x y (subst (Did m d f) i_is did) s.state.heap high (ap (λ (t : State). t.heap) (sym w)) (ap (λ (t : State). t.heap + word (value f y) * size m f x) (sym w)) in
      rw is (each_cons (FairFrame m (h ++ d ∷ [])) _ rest (given_fair m _ f x (data_in (bounds_of s.state.heap high) s.state.heap) frame_after k) rest_after)
  frames_after ending w did (went p n e_is is) = rw is (each_cons (FairFrame m (h ++ d ∷ [])) _ rest (at_place_fair m _ f p frame_after) rest_after)
  frames_after ending w did (wrote act memory p e_is is) = rw is (each_cons (FairFrame m (h ++ d ∷ [])) _ rest (at_place_fair m _ f (f.place + 1) frame_after) rest_after)
  frames_after ending w did (entered_in k g p room e_is is) = rw is (each_cons (FairFrame m (h ++ d ∷ [])) _ (behind f ∷ rest) (begun_frame m _ g) (each_cons (FairFrame m (h ++ d ∷ [])) _ rest (at_place_fair m _ f (f.place + 1) frame_after) rest_after))
  frames_after ending w did (left i_is e_is is) = rw is rest_after

  -- what the store holds then: what it held elsewhere, and at the address what was put
  other_held : (e' : Entries) (a : ℕ) → ((b : ℕ) → b ≢ a → e' b ≡ s.entries b) → ((v : Mark) → e' a ≡ Some v → Known m (h ++ d ∷ []) v) → FairStore m (h ++ d ∷ []) e'
  other_held e' a others here c v l e =
      ⊎_elim
      (λ q. here v (ap e' (sym q) ∙ e))
      (λ n. known_more m h d v (fair.held c v l (sym (others c n) ∙ e)))
      (cases_eq c a)

  same_held : (e' : Entries) → e' ≡ s.entries → FairStore m (h ++ d ∷ []) e'
  same_held e' q a v l e = known_more m h d v (fair.held a v l (rw q at e))

  writes_held : {i : Instruction} {act : Act} (e' : Entries) (t' : Taken) → Writes m s f rest i act → Acts act s.entries s.taken e' t' → FairStore m (h ++ d ∷ []) e'
  writes_held e' t' (put x y a v b t x_is y_is l) p = other_held e' a p.others (λ w q. value_known x w (x_is ∙ ap Marked (same_Some v w (sym p.holds ∙ q))))
  writes_held e' t' (dropped x y a n b t x_is y_is l) p = other_held e' a p.others (λ w q. absurd (none-some w (sym p.gone ∙ q)))
  writes_held e' t' (written x y t) p = same_held e' p.0

  store_after : {i : Instruction} {e : Event} {l : Left} (e' : Entries) (t' : Taken) → Form m s f rest i e l → Acts l.act s.entries s.taken e' t' → FairStore m (h ++ d ∷ []) e'
  store_after e' t' (gave x v g is) q = same_held e' (rw is at q).0
  store_after e' t' (allocated x y i_is nonzero fits e_is is) q = same_held e' (rw is at q).0
  store_after e' t' (went p n e_is is) q = same_held e' (rw is at q).0
  store_after e' t' (wrote act memory p e_is is) q = writes_held e' t' p (rw is at q)
  store_after e' t' (entered_in k g p room e_is is) q = same_held e' (rw is at q).0
  store_after e' t' (left i_is e_is is) q = same_held e' (rw is at q).0

pub fair_step : (m : Module) (h : List Made) (s s' : Sight) (e : Event) → Ending m h → Fair m h s → Step m s (Ok e) s' → Fair m (h ++ made s e s' ∷ []) s'
fair_step m h s s' e ending fair p =
    let t = turned m s e s' p in
    let d = made s e s' in
    let form = form_turn t in
    record {
      frames = subst (λ (l : State). Each (FairFrame m (h ++ d ∷ [])) l.stack) (sym t.does.state) (frames_after m h s t.frame t.others d fair t.stack_is ending refl (did_turn t) form);
      held = store_after m h s t.frame t.others d fair t.stack_is s'.entries s'.taken form t.does.store;
    }
