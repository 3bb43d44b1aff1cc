-- Records as their words stand in an image: what they mean together, and that they are those at the front of the bytes.
use Rattle.std.proofs.Common.{◌≡◌, ℕ, zero, suc, ◌+◌, ◌*◌, ◌<◌, ◌≤◌, cond, not, List, [], ◌∷◌, ◌++◌, length, get_or, take, drop, drop-drop, is_none, unwrap_or, position, nat_lt, ◌-◌, ◌/◌, Some, None, Ok, Err, Option, Result, sym, refl, ap, ◌∙◌, arith}
use Rattle.std.specs.List.{position_or_len}
use Rattle.std.specs.Result.{result_err}
use Rattle.std.specs.Simd.{first_chunks}
use Rattle.std.proofs.lemmas.Bool.Decides.{nat_tests}
use Rattle.std.specs.Int.{from_le_bytes}
use mir.Syntax.{w32}
use Rattle.std.proofs.lemmas.Nat.{le-div}
use Rattle.std.proofs.Math.ListN.{set, get_or-map}
use Rattle.std.proofs.lemmas.List.{get_or-take, get_or-drop, length-map, take_more, take_more_set}
use Rattle.records.specs.Words.{word_at, words_from}
use Rattle.records.specs.Records.{before, records}
use Rattle.records.specs.Rows.{rows, words_in, readings, read_all}

pub le_word : (bytes : List ℕ) → from_le_bytes w32 bytes ≡ word_at bytes 0
le_word bytes = omega arith

-- words of which each is that of the four bytes there
pub each_word : (row : List (List ℕ)) (ws : List ℕ) → length ws ≡ length row → ((k : ℕ) → k < length row → get_or ws k 0 ≡ word_at (get_or row k []) 0) → ws ≡ words_in row
each_word [] [] l h = refl
each_word [] (w ∷ ws) l h = absurd (omega arith)
each_word (b ∷ row) [] l h = absurd (omega arith)
each_word (b ∷ row) (w ∷ ws) l h =
    let a : w ≡ word_at b 0 = h 0 (omega arith) in
    let r : ws ≡ words_in row = each_word row ws (omega arith) (λ k lt. h (suc k) (omega arith)) in
    cc

module _ {R : Type 0} (meant : List ℕ → Option R) where
  no_more : (o : Option R) (n m : ℕ) (r : Result (List R) ℕ) → suc n ≤ cond (not (is_none o)) (1 + m) 0 → (n ≤ m → result_err r ≡ None) → result_err (before o r) ≡ None
  no_more None n m r h f = absurd (omega arith)
  no_more (Some x) n m (Ok rs) h f = refl
  no_more (Some x) n m (Err k) h f = absurd (let e = f (omega arith) in cc)

  one_more : (o : Option R) (blank : R) (r : Result (List R) ℕ) (rs : List R) → result_err (before o r) ≡ None → (result_err r ≡ None → r ≡ Ok rs) → before o r ≡ Ok (unwrap_or o blank ∷ rs)
  one_more None blank r rs e f = absurd (cc)
  one_more (Some x) blank (Ok ys) rs e f = ap (before (Some x)) (f refl)
  one_more (Some x) blank (Err k) rs e f = absurd (cc)

  one_first : (o : Option R) (n m : ℕ) (r : Result (List R) ℕ) → cond (not (is_none o)) (1 + m) 0 < suc n → (m < n → r ≡ Err m) → before o r ≡ Err (cond (not (is_none o)) (1 + m) 0)
  one_first None n m r h f = refl
  one_first (Some x) n m r h f = let e : suc m ≡ 1 + m = omega arith in rw (f (omega arith)) (ap Err e)

  all_long : (rs : List (List (List ℕ))) → length rs ≤ position_or_len (λ r. is_none (meant (words_in r))) rs → result_err (read_all meant rs) ≡ None
  all_long [] h = refl
  all_long (row ∷ rs) h = no_more (meant (words_in row)) (length rs) (position_or_len (λ r. is_none (meant (words_in r))) rs) (read_all meant rs) h (all_long rs)

  one_short : (rs : List (List (List ℕ))) → position_or_len (λ r. is_none (meant (words_in r))) rs < length rs → read_all meant rs ≡ Err (position_or_len (λ r. is_none (meant (words_in r))) rs)
  one_short [] h = absurd (omega arith)
  one_short (row ∷ rs) h = one_first (meant (words_in row)) (length rs) (position_or_len (λ r. is_none (meant (words_in r))) rs) _ h (one_short rs)

  none_long : (m n : ℕ) → ◌≡◌ {A = Option ℕ} (cond (nat_lt m n) (Some m) None) None → n ≤ m
  none_long m n e = grind (arith, nat_tests)

  some_short : (m n k : ℕ) → ◌≡◌ {A = Option ℕ} (cond (nat_lt m n) (Some m) None) (Some k) → (m < n) × (m ≡ k)
  some_short m n k e = grind (arith, nat_tests)

  pub all_mean : (rs : List (List (List ℕ))) → position (λ r. is_none (meant (words_in r))) rs ≡ None → result_err (read_all meant rs) ≡ None
  all_mean rs e = all_long rs (none_long _ (length rs) e)

  pub one_fails : (rs : List (List (List ℕ))) (k : ℕ) → position (λ r. is_none (meant (words_in r))) rs ≡ Some k → read_all meant rs ≡ Err k
  one_fails rs k e = let s = some_short _ (length rs) k e in one_short rs s.0 ∙ ap Err s.1

byte_there : (s : List ℕ) (i j : ℕ) → j < 4 → get_or s (i + j) 0 ≡ get_or (take 4 (drop i s)) j 0
byte_there s i j h = sym (get_or-take 4 (drop i s) j 0 h ∙ get_or-drop i s j 0)

word_there : (s : List ℕ) (i : ℕ) → word_at s i ≡ word_at (take 4 (drop i s)) 0
word_there s i =
    let e : i + 0 ≡ i = omega arith in
    let a = ap (λ k. get_or s k 0) (sym e) ∙ byte_there s i 0 (omega arith) in
    omega (arith, a, byte_there s i 1 (omega arith), byte_there s i 2 (omega arith), byte_there s i 3 (omega arith))

-- the words of four bytes at the front are those of the first record
pub first_words : (s : List ℕ) (i n : ℕ) → words_from s i n ≡ words_in (first_chunks 4 n (drop i s))
first_words s i zero = refl
first_words s i (suc n) =
    let a : word_at s i ≡ word_at (take 4 (drop i s)) 0 = word_there s i in
    let b : words_from s (i + 4) n ≡ words_in (first_chunks 4 n (drop 4 (drop i s))) = first_words s (i + 4) n ∙ ap (λ t. words_in (first_chunks 4 n t)) (sym (drop-drop 4 i s)) in
    cc

-- what the records at the front mean is what their words mean
pub rows_read : {R : Type 0} (meant : List ℕ → Option R) (w n : ℕ) (s : List ℕ) → records meant w n s ≡ read_all meant (rows w n s)
rows_read meant w zero s = refl
rows_read meant w (suc n) s = ap (λ ws. before (meant ws) (records meant w n (drop (4 * w) s))) (first_words s 0 w) ∙ ap (before (meant (words_in (first_chunks 4 w s)))) (rows_read meant w n (drop (4 * w) s))

rows_told : {R : Type 0} (meant : List ℕ → Option R) (blank : R) (rs : List (List (List ℕ))) → result_err (read_all meant rs) ≡ None → read_all meant rs ≡ Ok (readings meant blank rs)
rows_told meant blank [] e = refl
rows_told meant blank (row ∷ rs) e = one_more meant (meant (words_in row)) blank (read_all meant rs) (readings meant blank rs) e (rows_told meant blank rs)

-- where none of the records at the front means nothing, they are told
pub all_told : {R : Type 0} (meant : List ℕ → Option R) (w n : ℕ) (s : List ℕ) (blank : R) (rs : List (List (List ℕ))) → rs ≡ rows w n s → result_err (records meant w n s) ≡ None → records meant w n s ≡ Ok (readings meant blank rs)
all_told meant w n s blank rs e h =
    let r = rows_read meant w n s in
    r ∙ rows_told meant blank (rows w n s) (ap result_err (sym r) ∙ h) ∙ ap (λ (x : List (List (List ℕ))). Ok (readings meant blank x)) (sym e)

-- the first that means nothing is the same, from its bytes and from its words
pub fails_there : {R : Type 0} (meant : List ℕ → Option R) (w n k : ℕ) (s : List ℕ) (rs : List (List (List ℕ))) → rs ≡ rows w n s → read_all meant rs ≡ Err k → records meant w n s ≡ Err k
fails_there meant w n k s rs e h = rows_read meant w n s ∙ ap (read_all meant) (sym e) ∙ h

pub none_there : {R : Type 0} (meant : List ℕ → Option R) (w n : ℕ) (s : List ℕ) (rs : List (List (List ℕ))) → rs ≡ rows w n s → result_err (read_all meant rs) ≡ None → result_err (records meant w n s) ≡ None
none_there meant w n s rs e h = ap result_err (rows_read meant w n s ∙ ap (read_all meant) (sym e)) ∙ h

take_chunks : {X : Type 0} (w n m : ℕ) (xs : List X) → n ≤ m → take n (first_chunks w m xs) ≡ first_chunks w n xs
take_chunks w zero m xs h = refl
take_chunks w (suc n) zero xs h = absurd (omega arith)
take_chunks w (suc n) (suc m) xs h = ap (λ t. take w xs ∷ t) (take_chunks w n m (drop w xs) (omega arith))

drop_chunks : (w r m : ℕ) (s : List ℕ) → w + r ≡ m → drop w (first_chunks 4 m s) ≡ first_chunks 4 r (drop (4 * w) s)
drop_chunks zero r m s h = let e : m ≡ r = omega arith in ap (λ k. first_chunks 4 k s) e
drop_chunks (suc w) r zero s h = absurd (omega arith)
drop_chunks (suc w) r (suc m) s h =
    let e : 4 + 4 * w ≡ 4 * suc w = omega arith in
    drop_chunks w r m (drop 4 s) (omega arith) ∙ ap (first_chunks 4 r) (drop-drop (4 * w) 4 s ∙ ap (λ k. drop k s) e)

-- words of four bytes, as many to a record as it has
pub chunk_rows : (w n m : ℕ) (s : List ℕ) → w * n ≤ m → first_chunks w n (first_chunks 4 m s) ≡ rows w n s
chunk_rows w zero m s h = refl
chunk_rows w (suc n) m s h =
    let e : w * suc n ≡ w + w * n = grind arith in
    let f : w + (m - w) ≡ m = omega (arith, e) in
    let a : take w (first_chunks 4 m s) ≡ first_chunks 4 w s = take_chunks 4 w m s (omega (arith, e)) in
    let b : drop w (first_chunks 4 m s) ≡ first_chunks 4 (m - w) (drop (4 * w) s) = drop_chunks w (m - w) m s f in
    let t : first_chunks w n (first_chunks 4 (m - w) (drop (4 * w) s)) ≡ rows w n (drop (4 * w) s) = chunk_rows w n (m - w) (drop (4 * w) s) (omega (arith, e)) in
    ap (λ x. x ∷ first_chunks w n (drop w (first_chunks 4 m s))) a ∙ ap (λ y. first_chunks 4 w s ∷ first_chunks w n y) b ∙ ap (λ z. first_chunks 4 w s ∷ z) t

pub length_rows : (w n : ℕ) (s : List ℕ) → length (rows w n s) ≡ n
length_rows w zero s = refl
length_rows w (suc n) s = let e = length_rows w n (drop (4 * w) s) in omega (arith, e)

-- the front of the bytes in words, and these in records
pub rows_taken : (w n : ℕ) (s : List ℕ) (words : List (List ℕ)) (rs : List (List (List ℕ))) → 0 < w → 4 * (w * n) ≤ length s → words ≡ first_chunks 4 (length s / 4) s → length words ≡ length s / 4 → rs ≡ first_chunks w (length words / w) words → take n rs ≡ rows w n s
rows_taken w n s words rs p h ws l r =
    let e : n * w ≡ w * n = grind arith in
    let long : w * n ≤ length s / 4 = omega (arith, h) in
    ap (take n) r ∙ take_chunks w n (length words / w) words (le-div n (length words) w p (omega (arith, e, l, long))) ∙ ap (first_chunks w n) ws ∙ chunk_rows w n (length s / 4) s long

-- one more is read into the front of out
pub read_more : {R : Type 0} (meant : List ℕ → Option R) (blank : R) (rs : List (List (List ℕ))) (k : ℕ) (d : List (List ℕ)) (out : List R) (x : R) → k < length rs → k < length out → x ≡ unwrap_or (meant (words_in (get_or rs k d))) blank → take k out ≡ take k (readings meant blank rs) → take (k + 1) (set out k x) ≡ take (k + 1) (readings meant blank rs)
read_more {R} meant blank rs k d out x l m e t =
    let read : List (List ℕ) → R = λ row. unwrap_or (meant (words_in row)) blank in
    let here : get_or (readings meant blank rs) k (read d) ≡ x = get_or-map read rs k d ∙ sym e in
    take_more_set out k x m
    ∙ ap (λ front. front ++ x ∷ []) t
    ∙ ap (λ y. take k (readings meant blank rs) ++ y ∷ []) (sym here)
    ∙ sym (take_more (readings meant blank rs) k (read d) (omega (arith, length-map rs read, l)))
