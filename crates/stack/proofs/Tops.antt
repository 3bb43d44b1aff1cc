-- The standing frames as the array changes.
use Rattle.std.specs.Prelude.{◌≡◌, ℕ, zero, suc, ◌+◌, ◌-◌, ◌<◌, ◌≤◌, List, [], ◌∷◌, length, None, slice_index_or, slice_set, drop, Some, refl}
use Rattle.std.specs.List.{slice_get}
use Rattle.std.proofs.Common.{arith, ap, ◌∙◌, sym}
use Rattle.std.proofs.lemmas.Bool.{lt-ltb}
use Rattle.std.proofs.lemmas.List.{get_or_default, get_or-set_same, get_or-set_other}
use Rattle.std.proofs.lemmas.Option.{slice_get-get_or, slice_get_past}
use Rattle.machine.specs.declared.frame.Frame.{Frame}
use Rattle.machine.specs.Frames.{entered}
use Rattle.stack.specs.inside.Standing.{standing, topped, Topped}
use Rattle.stack.specs.Stack.{newest, with_newest, entering}

length_standing : (d : ℕ) (fs : List Frame) → length (standing d fs) ≡ d
length_standing zero fs = refl
length_standing (suc d) fs = ap suc (length_standing d fs)

-- a change behind them changes none
standing_past : (d i : ℕ) (fs : List Frame) (f : Frame) → d ≤ i → standing d (slice_set fs i f) ≡ standing d fs
standing_past zero i fs f h = refl
standing_past (suc d) i fs f h =
    let first : slice_index_or (slice_set fs i f) d (entered 0) ≡ slice_index_or fs d (entered 0) = get_or-set_other fs i d f (entered 0) (λ e. absurd (omega (arith, e, h))) in
    ap (λ g. g ∷ standing d (slice_set fs i f)) first ∙ ap (λ gs. slice_index_or fs d (entered 0) ∷ gs) (standing_past d i fs f (omega (arith, h)))

push : (d : ℕ) (fs : List Frame) (f : Frame) → d < length fs → standing (suc d) (slice_set fs d f) ≡ f ∷ standing d fs
push d fs f h =
    ap (λ g. g ∷ standing d (slice_set fs d f)) (get_or-set_same fs d f (entered 0) h) ∙ ap (λ gs. f ∷ gs) (standing_past d d fs f (omega arith))

read_at : (d k j : ℕ) (fs : List Frame) → d ≡ j + suc k → d ≤ length fs → slice_get (standing d fs) k ≡ slice_get fs j
read_at zero k j fs e h = absurd (omega (arith, e))
read_at (suc d) zero j fs e h =
    let same : d ≡ j = omega (arith, e) in
    sym (slice_get-get_or fs d (entered 0) (omega (arith, h))) ∙ ap (slice_get fs) same
read_at (suc d) (suc k) j fs e h = read_at d k j fs (omega (arith, e)) (omega (arith, h))

-- the newest of them is the last that counts, and so on downwards
standing_at : (d k : ℕ) (fs : List Frame) → k < d → d ≤ length fs → slice_get (standing d fs) k ≡ slice_get fs (d - 1 - k)
standing_at d k fs p q = read_at d k (d - 1 - k) fs (omega (arith, p)) q

pub length_topped : (d : ℕ) (f : Frame) (fs : List Frame) → length (topped d f fs) ≡ d
length_topped zero f fs = refl
length_topped (suc d) f fs = ap suc (length_standing d fs)

-- also where none stands
pub newest_topped : (d : ℕ) (f : Frame) (fs : List Frame) → Topped d f → newest (topped d f fs) ≡ f
newest_topped zero f fs t = sym (t.fresh refl)
newest_topped (suc d) f fs t = refl

pub topped_first : (d : ℕ) (f : Frame) (fs : List Frame) → 0 < d → slice_get (topped d f fs) 0 ≡ Some f
topped_first zero f fs p = absurd (omega (arith, p))
topped_first (suc d) f fs p = refl

pub topped_at : (d k : ℕ) (f : Frame) (fs : List Frame) → k < d → 0 < k → d ≤ length fs → slice_get (topped d f fs) k ≡ slice_get fs (d - 1 - k)
topped_at zero k f fs p q r = absurd (omega (arith, p))
topped_at (suc d) zero f fs p q r = absurd (omega (arith, q))
topped_at (suc d) (suc k) f fs p q r =
    let e : d - 1 - k ≡ suc d - 1 - suc k = omega arith in
    standing_at d k fs (omega (arith, p)) (omega (arith, r)) ∙ ap (slice_get fs) e

pub topped_none : (d k : ℕ) (f : Frame) (fs : List Frame) → d ≤ k → slice_get (topped d f fs) k ≡ None
topped_none d k f fs p = slice_get_past (topped d f fs) k (omega (arith, p, length_topped d f fs))

-- one more stands on the newest
pub topped_push : (d : ℕ) (f g : Frame) (fs : List Frame) → 0 < d → d ≤ length fs → topped (d + 1) g (slice_set fs (d - 1) f) ≡ g ∷ topped d f fs
topped_push zero f g fs p q = absurd (omega (arith, p))
topped_push (suc d) f g fs p q =
    let n : suc d + 1 ≡ suc (suc d) = omega arith in
    let k : suc d - 1 ≡ d = omega arith in
    rw (n, k) (ap (λ gs. g ∷ gs) (push d fs f (omega (arith, q))))

-- the newest is another
pub topped_with : (d : ℕ) (f : Frame) (fs : List Frame) (g : Frame → Frame) → topped d (g f) fs ≡ with_newest g (topped d f fs)
topped_with zero f fs g = refl
topped_with (suc d) f fs g = refl

-- a function is entered on the newest, or as the first
pub enter_more : (d : ℕ) (f : Frame) (fs : List Frame) (function : ℕ) → d < 16 → 0 < d → d ≤ length fs → topped (d + 1) (entered function) (slice_set fs (d - 1) f) ≡ entering function (topped d f fs)
enter_more d f fs function p q r = rw (length_topped d f fs, lt-ltb d 16 p) (topped_push d f (entered function) fs q r)

pub enter_first : (d : ℕ) (f : Frame) (fs : List Frame) (function : ℕ) → d ≤ 0 → topped (d + 1) (entered function) fs ≡ entering function (topped d f fs)
enter_first zero f fs function p = refl
enter_first (suc d) f fs function p = absurd (omega (arith, p))

-- the newest goes, and the one below it is the newest, or none stands
pub leave_more : (d : ℕ) (f g : Frame) (fs : List Frame) → 1 < d → d ≤ length fs → topped (d - 1) (slice_index_or fs (d - 2) g) fs ≡ drop 1 (topped d f fs)
leave_more zero f g fs p q = absurd (omega (arith, p))
leave_more (suc zero) f g fs p q = absurd (omega (arith, p))
leave_more (suc (suc d)) f g fs p q =
    let k : suc (suc d) - 1 ≡ suc d = omega arith in
    let j : suc (suc d) - 2 ≡ d = omega arith in
    rw (k, j) (ap (λ h. h ∷ standing d fs) (get_or_default fs d g (entered 0) (omega (arith, q))))

pub leave_last : (d : ℕ) (f : Frame) (fs : List Frame) → d ≤ 1 → [] ≡ drop 1 (topped d f fs)
leave_last zero f fs p = refl
leave_last (suc zero) f fs p = refl
leave_last (suc (suc d)) f fs p = absurd (omega (arith, p))

-- the same, of the list that the stack is seen as
pub topped_none_at : (d k : ℕ) (f : Frame) (fs s : List Frame) → topped d f fs ≡ s → d ≤ k → None ≡ slice_get s k
topped_none_at d k f fs s e p = rw (← e) (sym (topped_none d k f fs p))

pub topped_some_at : (d k : ℕ) (f r : Frame) (fs s : List Frame) → topped d f fs ≡ s → k < d → 0 < k → d ≤ length fs → Some (slice_index_or fs (d - 1 - k) r) ≡ slice_get s k
topped_some_at d k f r fs s e p q h = rw (← e, topped_at d k f fs p q h) (sym (slice_get-get_or fs (d - 1 - k) r (omega (arith, p, q, h))))
