-- How a text is cut into lines, and a line into words.
use Rattle.std.proofs.Common.{◌≡◌, ℕ, suc, ◌+◌, ◌-◌, ◌<◌, ◌≤◌, Bool, true, false, not, filter, ◌==◌, List, [], ◌∷◌, length, take, drop, Option, Some, None, nat_lt, sym, refl, ap, ◌∙◌, subst, ⊎_elim, arith}
use Rattle.std.proofs.lemmas.Bool.{cases_Bool}
use Rattle.std.proofs.lemmas.Bool.Decides.{nat_tests}
use Rattle.std.proofs.lemmas.List.{drop-drop, drop_all, take_rest}
use Rattle.std.proofs.lemmas.List.Sums.{prefix_len-le-length}
use Rattle.std.specs.List.{after_first, before_first, onto_first, position, position_or_len, slice_split}
use Rattle.std.specs.Option.{unwrap_or}
use Rattle.std.specs.Str.{bytes_eq}
use Rattle.words.specs.Words.{lines, words}

-- Where the first byte that passes stands.
module _ (p : ℕ → Bool) (xs : List ℕ) where
  abbrev here : ℕ
  here = position_or_len p xs

  pub here_within : here ≤ length xs
  here_within = prefix_len-le-length (λ x. not (p x)) xs

  found_none : position p xs ≡ None → length xs ≤ here
  found_none e = ⊎_elim (λ t. let n : ◌≡◌ {A = Option ℕ} (Some here) None = rw t at e in absurd (cc)) (λ f. grind (arith, nat_tests, f)) (cases_Bool (nat_lt here (length xs)))

  found_at : (i : ℕ) → position p xs ≡ Some i → (here ≡ i) × (here < length xs)
  found_at i e = ⊎_elim (λ t. let n : ◌≡◌ {A = Option ℕ} (Some here) (Some i) = rw t at e in (cc, grind (arith, nat_tests, t))) (λ f. let n : ◌≡◌ {A = Option ℕ} None (Some i) = rw f at e in absurd (cc)) (cases_Bool (nat_lt here (length xs)))

  pub or_length : unwrap_or (position p xs) (length xs) ≡ here
  or_length = ⊎_elim (λ t. rw t refl) (λ f. rw f (grind (arith, nat_tests, f, here_within))) (cases_Bool (nat_lt here (length xs)))

-- One more byte is kept, or left out.
module _ (n b : ℕ) (bs : List ℕ) where
  one : 1 + n ≡ suc n
  one = omega arith

  take_one : take (1 + n) (b ∷ bs) ≡ b ∷ take n bs
  take_one = rw one refl

  drop_one : drop (1 + n) (b ∷ bs) ≡ drop n bs
  drop_one = rw one refl

  drop_past : drop (1 + n + 1) (b ∷ bs) ≡ drop (n + 1) bs
  drop_past = let past : 1 + n + 1 ≡ suc (n + 1) = omega arith in rw past refl

abbrev blank : ℕ → Bool
blank b = b == 32

abbrev rest : List ℕ → List ℕ
rest xs = drop (position_or_len blank xs) xs

abbrev filled : List (List ℕ) → List (List ℕ)
filled = filter (λ w. not (bytes_eq w []))

skip : (b : ℕ) (bs : List ℕ) → blank b ≡ true → words (b ∷ bs) ≡ words bs
unfolding words
skip b bs t = rw t refl

-- The first part ends at the first blank, and the words of the others are those from there on.
parted : (xs : List ℕ) → (parts : List (List ℕ)) × (slice_split blank xs ≡ before_first blank xs ∷ parts) × (filled parts ≡ words (rest xs))
unfolding words
parted [] = ([], refl, refl)
parted (b ∷ bs) =
    ⊎_elim
    (λ t. (slice_split blank bs, rw t refl, rw t (sym (skip b bs t))))
    (λ f. let ih = parted bs in (ih.0, rw f (ap (onto_first b) ih.1 ∙ ap (λ w. w ∷ ih.0) (sym (take_one _ b bs))), rw f (ih.2 ∙ ap words (sym (drop_one _ b bs)))))
    (cases_Bool (blank b))

-- What begins with a letter begins with a word.
word_first : (b : ℕ) (bs : List ℕ) → blank b ≡ false → words (b ∷ bs) ≡ before_first blank (b ∷ bs) ∷ words (rest (b ∷ bs))
unfolding words
word_first b bs f =
    let all = parted bs in
    rw f
    (ap (λ l. filled (onto_first b l)) all.1
    ∙ ap (λ ws. (b ∷ before_first blank bs) ∷ ws) (all.2 ∙ ap words (sym (drop_one (position_or_len blank bs) b bs)))
    ∙ ap (λ w. w ∷ words (drop (1 + position_or_len blank bs) (b ∷ bs))) (sym (take_one (position_or_len blank bs) b bs)))

-- Blanks in front of the first letter hide no word.
abbrev letter : ℕ → Bool
letter b = not (blank b)

at_letter : (b : ℕ) (bs : List ℕ) → blank b ≡ false → position_or_len letter (b ∷ bs) ≡ 0
at_letter b bs f = rw f refl

behind_blanks : (xs : List ℕ) → words xs ≡ words (drop (position_or_len letter xs) xs)
unfolding words
behind_blanks [] = refl
behind_blanks (b ∷ bs) = ⊎_elim (λ t. rw t (behind_blanks bs ∙ ap words (sym (drop_one _ b bs)))) (λ f. ap (λ n. words (drop n (b ∷ bs))) (sym (at_letter b bs f))) (cases_Bool (blank b))

pub no_letter : (xs : List ℕ) → position letter xs ≡ None → words xs ≡ []
unfolding words
no_letter xs e = behind_blanks xs ∙ ap words (drop_all (position_or_len letter xs) xs (found_none letter xs e))

lettered : (xs : List ℕ) → position_or_len letter xs < length xs → let ys = drop (position_or_len letter xs) xs in words ys ≡ before_first blank ys ∷ words (rest ys)
lettered [] lt = absurd (omega arith)
lettered (b ∷ bs) lt =
    ⊎_elim
    (λ t. rw t (subst (λ ys. words ys ≡ before_first blank ys ∷ words (rest ys)) (sym (drop_one _ b bs)) (lettered bs (let h = rw t at lt in omega arith))))
    (λ f. subst (λ n. let ys = drop n (b ∷ bs) in words ys ≡ before_first blank ys ∷ words (rest ys)) (sym (at_letter b bs f)) (word_first b bs f))
    (cases_Bool (blank b))

pub from_letter : (xs ys : List ℕ) (i : ℕ) → position letter xs ≡ Some i → ys ≡ take (length xs - i) (drop i xs) → words xs ≡ before_first blank ys ∷ words (rest ys)
from_letter xs ys i e is =
    let h = found_at letter xs i e in
    let at : drop (position_or_len letter xs) xs ≡ ys = ap (λ n. drop n xs) h.0 ∙ sym (is ∙ take_rest xs i) in
    behind_blanks xs ∙ lettered xs h.1 ∙ ap (λ l. before_first blank l ∷ words (rest l)) at

pub one_past : (n : ℕ) (xs : List ℕ) → drop (n + 1) xs ≡ drop 1 (drop n xs)
one_past n xs = sym (drop-drop 1 n xs)

pub first_line : (xs : List ℕ) → 0 < length xs → lines xs ≡ before_first (λ b. b == 10) xs ∷ lines (after_first (λ b. b == 10) xs)
first_line [] lt = absurd (omega arith)
first_line (b ∷ []) lt = ⊎_elim (λ t. rw t refl) (λ f. rw f refl) (cases_Bool (b == 10))
first_line (b ∷ c ∷ cs) lt =
    let n = position_or_len (λ b. b == 10) (c ∷ cs) in
    ⊎_elim
    (λ t. rw t refl)
    (λ f. rw f
    (ap (onto_first b) (first_line (c ∷ cs) (omega arith))
    ∙ ap (λ w. w ∷ lines (drop (n + 1) (c ∷ cs))) (sym (take_one n b (c ∷ cs)))
    ∙ ap (λ r. take (1 + n) (b ∷ c ∷ cs) ∷ lines r) (sym (drop_past n b (c ∷ cs)))))
    (cases_Bool (b == 10))
