-- One line more, or none.
use Rattle.std.proofs.Common.{◌≡◌, ℕ, ◌+◌, ◌-◌, ◌<◌, cond, List, [], ◌∷◌, ◌++◌, length, drop, flat_map, get_or, is_some, reverse, Some, None, Option, String, string_bytes, refl, ap, sym, ◌∙◌, add-one, arith}
use Rattle.std.specs.List.{slice_get}
use Rattle.std.specs.Option.{option_map_or}
use Rattle.std.proofs.lemmas.Bool.{lt-ltb}
use Rattle.std.proofs.lemmas.Grind.{flat_map-append, reverse_onto}
use Rattle.std.proofs.lemmas.List.{append-nil, drop_more, length-append}
use Rattle.std.proofs.lemmas.Option.{slice_get-get_or}
use Rattle.std.specs.Prelude.{nat_lt}
use Rattle.machine.specs.Frames.{entered}
use Rattle.machine.specs.Machine.{Entries}
use Rattle.machine.specs.declared.frame.Frame.{Frame}
use Rattle.values.specs.declared.marked.Marked.{Marked}
use Rattle.std.specs.declared.alloc.Global.{Global}
use Rattle.board.specs.Runs.{AreLines}
use Rattle.board.specs.declared.report.Report.TheVariants as tells
use Rattle.board.specs.Shown.{entry_line, frame_line, held}

last_line : (f : Frame) (fs : List Frame) → flat_map frame_line (reverse (f ∷ fs)) ≡ flat_map frame_line (reverse fs) ++ frame_line f
last_line f fs =
    ap (flat_map frame_line) (reverse_onto fs f [])
    ∙ flat_map-append frame_line (reverse fs) (f ∷ [])
    ∙ ap (λ l. flat_map frame_line (reverse fs) ++ l) (append-nil (frame_line f))

pub one_frame : (fs : List Frame) (d i : ℕ) → d ≡ length fs → i < d
    → flat_map frame_line (reverse (drop (d - (i + 1)) fs)) ≡ flat_map frame_line (reverse (drop (d - i) fs)) ++ option_map_or frame_line (slice_get fs (d - 1 - i)) []
one_frame fs d i all more =
    let within : d - 1 - i < length fs = omega arith in
    let next : d - 1 - i + 1 ≡ d - i = omega arith in
    let here : d - (i + 1) ≡ d - 1 - i = omega arith in
    ap (λ (k : ℕ). flat_map frame_line (reverse (drop k fs))) here
    ∙ ap (λ l. flat_map frame_line (reverse l)) (drop_more fs (d - 1 - i) (entered 0) within)
    ∙ last_line (get_or fs (d - 1 - i) (entered 0)) (drop (d - 1 - i + 1) fs)
    ∙ ap (λ (k : ℕ). flat_map frame_line (reverse (drop k fs)) ++ frame_line (get_or fs (d - 1 - i) (entered 0))) next
    ∙ ap (λ (o : Option Frame). flat_map frame_line (reverse (drop (d - i) fs)) ++ option_map_or frame_line o []) (sym (slice_get-get_or fs (d - 1 - i) (entered 0) within))

-- What is held at one address, as a list.
abbrev one : ℕ → Option Marked → List (ℕ × Marked)
one a o = option_map_or (λ v. (a, v) ∷ []) o []

one_text : (a : ℕ) (o : Option Marked) → flat_map entry_line (one a o) ≡ option_map_or (λ v. entry_line (a, v)) o []
one_text a None = refl
one_text a (Some v) = append-nil (entry_line (a, v))

one_count : (a : ℕ) (o : Option Marked) → length (one a o) ≡ cond (is_some o) 1 0
one_count a None = refl
one_count a (Some v) = omega arith

module _ (e : Entries) where
  pub below_is : (n a : ℕ) → a < n → cond (nat_lt a n) (e a) None ≡ e a
  below_is n a h = ap (λ b. cond b (e a) None) (lt-ltb a n h)

  pub one_line : (a : ℕ) → flat_map entry_line (held e (a + 1)) ≡ flat_map entry_line (held e a) ++ option_map_or (λ v. entry_line (a, v)) (e a) []
  one_line a =
      ap (λ n. flat_map entry_line (held e n)) (add-one a)
      ∙ flat_map-append entry_line (held e a) (one a (e a))
      ∙ ap (λ l. flat_map entry_line (held e a) ++ l) (one_text a (e a))

  pub one_held : (a : ℕ) → length (held e (a + 1)) ≡ length (held e a) + cond (is_some (e a)) 1 0
  one_held a =
      ap (λ n. length (held e n)) (add-one a)
      ∙ length-append (held e a) (one a (e a))
      ∙ ap (λ n. length (held e a) + n) (one_count a (e a))

pub listed : (text : List ℕ) (lines : String Global) → string_bytes lines ≡ text → AreLines text (tells.Lines lines)
listed text lines e = (lines, refl, e)
