-- Bytes put behind bytes.
use Rattle.std.proofs.Common.{◌≡◌, ℕ, ◌+◌, ◌-◌, ◌*◌, ◌<◌, ◌≤◌, List, [], ◌∷◌, ◌++◌, length, get_or, take, drop, sym, refl, ap, ◌∙◌, mul-le-mul_left, mul-zero, mul-one, mul-add, mul_assoc, arith}
use Rattle.std.specs.List.{flat_map}
use Rattle.std.proofs.lemmas.List.{length-append, length-take-le, append_assoc, take-append-drop, take_at, drop_at, drop-drop, take_all, take_more, flat_map_more}
use Rattle.std.proofs.lemmas.Grind.{flat_map-append}
use Rattle.records.specs.Words.{bytes_of, spell}
use Rattle.writing.specs.inside.Putting.{placed}

-- bytes put behind bytes
pub placed_more : (s bs cs : List ℕ) (at m : ℕ) → at + length bs ≤ length s → m ≡ at + length bs → placed (placed s at bs) m cs ≡ placed s at (bs ++ cs)
unfolding placed
placed_more s bs cs at m h e =
    let front = take at s ++ bs in
    let rest = drop (at + length bs) s in
    let lt : length (take at s) ≡ at = length-take-le at s (omega arith) in
    let lf : length front ≡ m = length-append (take at s) bs ∙ omega arith in
    let split : take at s ++ (bs ++ rest) ≡ front ++ rest = sym (append_assoc (take at s) bs rest) in
    let t : take m (take at s ++ (bs ++ rest)) ≡ front = ap (take m) split ∙ take_at front rest m lf in
    let d0 : drop m (take at s ++ (bs ++ rest)) ≡ rest = ap (drop m) split ∙ drop_at front rest m lf in
    let k : at + length bs + length cs ≡ at + length (bs ++ cs) = omega (arith, length-append bs cs) in
    let d : drop (m + length cs) (take at s ++ (bs ++ rest)) ≡ drop (at + length (bs ++ cs)) s = sym (drop-drop (length cs) m (take at s ++ (bs ++ rest))) ∙ ap (drop (length cs)) d0 ∙ drop-drop (length cs) (at + length bs) s ∙ ap (λ i. drop i s) k in
    rw (t, d, append_assoc (take at s) bs, append_assoc bs cs) refl

pub placed_none : (s : List ℕ) (at : ℕ) → placed s at [] ≡ s
unfolding placed
placed_none s at = let e : at + 0 ≡ at = omega arith in rw e (take-append-drop at s)

pub placed_first : (s bs : List ℕ) → placed s 0 bs ≡ bs ++ drop (length bs) s
unfolding placed
placed_first s bs = let e : 0 + length bs ≡ length bs = omega arith in rw e refl

pub length_joined : {X : Type 0} (f : X → List ℕ) (w : ℕ) → ((x : X) → length (f x) ≡ w) → (xs : List X) → length (flat_map f xs) ≡ w * length xs
length_joined f w h [] = sym (mul-zero w)
length_joined f w h (x ∷ xs) =
    let a = length_joined f w h xs in
    let b = h x in
    length-append (f x) (flat_map f xs) ∙ omega (arith, mul-add w 1 (length xs), mul-one w)

pub length_spell : (ws : List ℕ) → length (spell ws) ≡ 4 * length ws
length_spell ws = length_joined bytes_of 4 (λ x. refl) ws

-- one more piece, of pieces that are all as long
pub piece_more : {X : Type 0} (g : X → List ℕ) (w : ℕ) → ((x : X) → length (g x) ≡ w) → (xs : List X) (i start at : ℕ) (x d : X) (s out : List ℕ) → start + w * length xs ≤ length s → i < length xs → x ≡ get_or xs i d → at ≡ start + w * i → out ≡ placed s start (flat_map g (take i xs)) → placed out at (g x) ≡ placed s start (flat_map g (take (i + 1) xs))
piece_more g w h xs i start at x d s out fits l e ea eo =
    let front = flat_map g (take i xs) in
    let more : front ++ g x ≡ flat_map g (take (i + 1) xs) = flat_map_more g [] (take i xs) x ∙ ap (λ y. flat_map g (take i xs ++ y ∷ [])) e ∙ ap (flat_map g) (sym (take_more xs i d l)) in
    let n : length front ≡ w * i = length_joined g w h (take i xs) ∙ ap (λ m. w * m) (length-take-le i xs (omega arith)) in
    let le : w * i ≤ w * length xs = mul-le-mul_left w (omega arith) in
    ap (λ o. placed o at (g x)) eo ∙ placed_more s front (g x) start at (omega arith) (omega arith) ∙ ap (placed s start) more

-- the bytes of a record's words
abbrev pub bytes : {X : Type 0} → (X → List ℕ) → X → List ℕ
bytes f x = spell (f x)

pub spelt_joined : {X : Type 0} (f : X → List ℕ) (xs : List X) → flat_map (bytes f) xs ≡ spell (flat_map f xs)
spelt_joined f [] = refl
spelt_joined f (x ∷ xs) = ap (λ t. spell (f x) ++ t) (spelt_joined f xs) ∙ sym (flat_map-append bytes_of (f x) (flat_map f xs))

-- the places of n records of w words
pub place_first : (w s : ℕ) → s ≡ s + 4 * w * 0
place_first w s = omega (arith, mul-zero (4 * w))

pub place_next : (w i s at : ℕ) → at ≡ s + 4 * w * i → at + 4 * w ≡ s + 4 * w * (i + 1)
place_next w i s at e = omega (arith, mul-add (4 * w) i 1, mul-one (4 * w))

pub place_last : (w n s : ℕ) → s + 4 * (w * n) ≡ s + 4 * w * n
place_last w n s = ap (λ m. s + m) (sym (mul_assoc 4 w n))

-- one word put in the place of four bytes
pub word_placed : (s bs : List ℕ) (at : ℕ) → take at s ++ (bs ++ drop (at + 4 - at) (drop at s)) ≡ take at s ++ (bs ++ drop (at + 4) s)
word_placed s bs at =
    let four : at + 4 - at ≡ 4 = omega arith in
    ap (λ k. take at s ++ (bs ++ drop k (drop at s))) four ∙ ap (λ d. take at s ++ (bs ++ d)) (drop-drop 4 at s)

-- one more word, and all of them
pub word_more : (ws : List ℕ) (k at : ℕ) (s out : List ℕ) → out ≡ placed s at (spell (take k ws)) → at + 4 * length ws ≤ length s → k < length ws → placed out (at + 4 * k) (bytes_of (get_or ws k 0)) ≡ placed s at (spell (take (k + 1) ws))
word_more ws k at s out e h l = piece_more bytes_of 4 (λ _. refl) ws k at _ _ 0 s out h l refl refl e

pub all_words : (ws : List ℕ) (k at : ℕ) (s : List ℕ) → length ws ≤ k → placed s at (spell (take k ws)) ≡ placed s at (spell ws)
all_words ws k at s h = ap (λ xs. placed s at (spell xs)) (take_all k ws h)
