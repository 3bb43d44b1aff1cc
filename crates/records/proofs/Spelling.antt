-- Words that are written as bytes are read again.
use Rattle.std.proofs.Common.{◌≡◌, ℕ, zero, suc, ◌+◌, ◌*◌, ◌<◌, ◌≤◌, List, [], ◌∷◌, ◌++◌, length, get_or, take, drop, sym, refl, ap, ◌∙◌, arith, rules, drop-drop}
use Rattle.std.proofs.lemmas.List.{drop_more, take-append-drop, append_assoc}
use Rattle.std.proofs.lemmas.Nat.{le_bytes_4}
use Rattle.records.specs.Words.{word_at, bytes_of, spell, words_from}

-- the bytes of a word that is made of four bytes
pub word_bytes : (a b c d : ℕ) → a < 256 → b < 256 → c < 256 → d < 256 → bytes_of (a + b * 256 + c * 65536 + d * 16777216) ≡ a ∷ b ∷ c ∷ d ∷ []
word_bytes a b c d ha hb hc hd = le_bytes_4 (a ∷ b ∷ c ∷ d ∷ []) _ refl (search rules) (omega arith)

-- the four bytes from byte i on
pub four_there : (s : List ℕ) (i : ℕ) → i + 4 ≤ length s → take 4 (drop i s) ≡ get_or s i 0 ∷ get_or s (i + 1) 0 ∷ get_or s (i + 2) 0 ∷ get_or s (i + 3) 0 ∷ []
four_there s i h =
    let p : i + 1 + 1 ≡ i + 2 = omega arith in
    let q : i + 2 + 1 ≡ i + 3 = omega arith in
    let e0 : drop i s ≡ get_or s i 0 ∷ drop (i + 1) s = drop_more s i 0 (omega arith) in
    let e1 : drop (i + 1) s ≡ get_or s (i + 1) 0 ∷ drop (i + 2) s = drop_more s (i + 1) 0 (omega arith) ∙ ap (λ n. get_or s (i + 1) 0 ∷ drop n s) p in
    let e2 : drop (i + 2) s ≡ get_or s (i + 2) 0 ∷ drop (i + 3) s = drop_more s (i + 2) 0 (omega arith) ∙ ap (λ n. get_or s (i + 2) 0 ∷ drop n s) q in
    let e3 : drop (i + 3) s ≡ get_or s (i + 3) 0 ∷ drop (i + 3 + 1) s = drop_more s (i + 3) 0 (omega arith) in
    rw (e0, e1, e2, e3) refl

-- every byte is one
abbrev pub Bytes : List ℕ → Type 0
Bytes s = (i : ℕ) → get_or s i 0 < 256

-- the bytes of the word at byte i
pub word_there : (s : List ℕ) (i : ℕ) → Bytes s → i + 4 ≤ length s → take 4 (drop i s) ≡ bytes_of (word_at s i)
word_there s i t h = four_there s i h ∙ sym (word_bytes _ _ _ _ (t i) (t (i + 1)) (t (i + 2)) (t (i + 3)))

-- the bytes from byte i on are those of the words there, and the rest
pub spell_from : (n : ℕ) (s : List ℕ) (i : ℕ) → Bytes s → i + 4 * n ≤ length s → drop i s ≡ spell (words_from s i n) ++ drop (i + 4 * n) s
spell_from zero s i t h = let e : i + 4 * 0 ≡ i = omega arith in rw e refl
spell_from (suc n) s i t h =
    let e : i + 4 + 4 * n ≡ i + 4 * suc n = omega arith in
    let a : drop i s ≡ bytes_of (word_at s i) ++ drop (i + 4) s = sym (take-append-drop 4 (drop i s)) ∙ ap (λ x. x ++ drop 4 (drop i s)) (word_there s i t (omega arith)) ∙ ap (λ y. bytes_of (word_at s i) ++ y) (drop-drop 4 i s) in
    let b : drop (i + 4) s ≡ spell (words_from s (i + 4) n) ++ drop (i + 4 + 4 * n) s = spell_from n s (i + 4) t (omega arith) in
    a ∙ ap (λ l. bytes_of (word_at s i) ++ l) (b ∙ ap (λ k. spell (words_from s (i + 4) n) ++ drop k s) e) ∙ sym (append_assoc (bytes_of (word_at s i)) (spell (words_from s (i + 4) n)) (drop (i + 4 * suc n) s))
