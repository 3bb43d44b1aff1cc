-- An image whose lists say a content is the content's own image.
use Rattle.std.proofs.Common.{◌≡◌, ℕ, zero, suc, ◌+◌, ◌*◌, ◌<◌, ◌≤◌, true, List, [], ◌++◌, length, drop, Some, Ok, Option, sym, refl, ap, ◌∙◌, subst, mul-zero, mul-one, mul-add, arith, rules}
use Rattle.std.specs.List.{flat_map}
use Rattle.std.proofs.lemmas.List.{append_assoc, append-nil, drop-drop, drop_all, get_or-drop, length-drop}
use Rattle.std.proofs.lemmas.Bool.Decides.{nat_tests}
use Rattle.std.proofs.lemmas.Grind.{flat_map-append}
use Rattle.records.specs.Words.{word_at, bytes_of, spell, words_from}
use Rattle.records.specs.Records.{records}
use Rattle.records.proofs.Spelling.{Bytes, spell_from}
use Rattle.records.proofs.Runs.{led, ok_same}
use Rattle.content.specs.Records.{kind_from, kind_words, typed_from, typed_words, global_from, global_words, function_from, function_words, instruction_from, instruction_words}
use Rattle.content.specs.inside.Faithful.{kind_faithful, typed_faithful, global_faithful, function_faithful, instruction_faithful}
use Rattle.header.specs.declared.counts.Counts.{Counts}
use Rattle.header.specs.Header.{fields_at, globals_at, locals_at, functions_at, code_at, end_at, counts_in, laid, Headed}
use Rattle.parts.specs.Content.{Content, lengths}
use Rattle.parts.specs.Holding.{Holds}
use Rattle.writing.specs.Image.{image_of, header_words}

length_words : (n : ℕ) (s : List ℕ) (i : ℕ) → length (words_from s i n) ≡ n
length_words zero s i = refl
length_words (suc n) s i = ap suc (length_words n s (i + 4))

bytes_behind : (s : List ℕ) (k : ℕ) → Bytes s → Bytes (drop k s)
bytes_behind s k t i = subst (λ b. b < 256) (sym (get_or-drop k s i 0)) (t (k + i))

module _ {R : Type 0} (meant : List ℕ → Option R) (spelt : R → List ℕ) (w : ℕ) (faithful : (ws : List ℕ) (r : R) → length ws ≡ w → meant ws ≡ Some r → spelt r ≡ ws) where
  -- a record's bytes, and those behind it
  record_there : (s : List ℕ) (r : R) → Bytes s → 4 * w ≤ length s → meant (words_from s 0 w) ≡ Some r → s ≡ spell (spelt r) ++ drop (4 * w) s
  record_there s r t h m =
      let z : 0 + 4 * w ≡ 4 * w = omega arith in
      let e : spelt r ≡ words_from s 0 w = faithful (words_from s 0 w) r (length_words w s 0) m in
      spell_from w s 0 t (omega arith) ∙ ap (λ ws. spell ws ++ drop (0 + 4 * w) s) (sym e) ∙ ap (λ k. spell (spelt r) ++ drop k s) z

  list_there : (n : ℕ) (s : List ℕ) (rs : List R) → Bytes s → 4 * (w * n) ≤ length s → records meant w n s ≡ Ok rs → (s ≡ spell (flat_map spelt rs) ++ drop (4 * (w * n)) s) × (length rs ≡ n)
  list_there zero s rs t h e =
      let n : [] ≡ rs = ok_same [] rs e in
      let z : 4 * (w * 0) ≡ 0 = omega (arith, mul-zero w) in
      (ap (λ k. drop k s) (sym z) ∙ ap (λ xs. spell (flat_map spelt xs) ++ drop (4 * (w * 0)) s) n, ap length (sym n))
  list_there (suc n) s rs t h e =
      let k : 4 * w + 4 * (w * n) ≡ 4 * (w * suc n) = omega (arith, mul-add w n 1, mul-one w) in
      let l = led (meant (words_from s 0 w)) (records meant w n (drop (4 * w) s)) rs e in
      let rest = drop (4 * (w * suc n)) s in
      let a : s ≡ spell (spelt l.head) ++ drop (4 * w) s = record_there s l.head t (omega arith) l.head_is in
      let ih = list_there n (drop (4 * w) s) l.tail (bytes_behind s (4 * w) t) (omega (arith, length-drop (4 * w) s)) l.tail_is in
      let b : drop (4 * w) s ≡ spell (flat_map spelt l.tail) ++ rest = ih.0 ∙ ap (λ d. spell (flat_map spelt l.tail) ++ d) (drop-drop (4 * (w * n)) (4 * w) s ∙ ap (λ i. drop i s) k) in
      let j : spell (spelt l.head) ++ (spell (flat_map spelt l.tail) ++ rest) ≡ spell (flat_map spelt rs) ++ rest = sym (append_assoc (spell (spelt l.head)) (spell (flat_map spelt l.tail)) rest) ∙ ap (λ bs. bs ++ rest) (sym (flat_map-append bytes_of (spelt l.head) (flat_map spelt l.tail))) ∙ ap (λ xs. spell (flat_map spelt xs) ++ rest) (sym l.all_is) in
      (a ∙ ap (λ d. spell (spelt l.head) ++ d) b ∙ j, ap length l.all_is ∙ ap suc ih.1)

  list_from : (n at end : ℕ) (s : List ℕ) (rs : List R) → Bytes s → end ≡ at + 4 * (w * n) → end ≤ length s → records meant w n (drop at s) ≡ Ok rs → (drop at s ≡ spell (flat_map spelt rs) ++ drop end s) × (length rs ≡ n)
  list_from n at end s rs t e h r =
      let l = list_there n (drop at s) rs (bytes_behind s at t) (omega (arith, length-drop at s)) r in
      (l.0 ∙ ap (λ d. spell (flat_map spelt rs) ++ d) (drop-drop (4 * (w * n)) at s ∙ ap (λ i. drop i s) (sym e)), l.1)

-- the words that say where the lists start and the image ends
record Laid (s : List ℕ) (n : Counts) : Type 0 where
  types : word_at s 12 ≡ 60
  fields : word_at s 20 ≡ fields_at n
  globals : word_at s 28 ≡ globals_at n
  locals : word_at s 36 ≡ locals_at n
  functions : word_at s 44 ≡ functions_at n
  code : word_at s 52 ≡ code_at n
  end : length s ≡ end_at n

starts : (s : List ℕ) (n : Counts) → laid s n ≡ true → Laid s n
starts s n e = search (rules, nat_tests)

-- the header's words
header_there : (s : List ℕ) (m d : ℕ) → Headed s m d (counts_in s) → words_from s 0 15 ≡ header_words m d (counts_in s)
header_there s m d h =
    let p = starts s (counts_in s) h.in_place in
    cc (h.version, h.memory_is, h.depth_is, p.types, p.fields, p.globals, p.locals, p.functions, p.code)

-- parts that follow one another
parts_spelt : (h a b c d e f : List ℕ) → spell (h ++ (a ++ (b ++ (c ++ (d ++ (e ++ f)))))) ≡ spell h ++ (spell a ++ (spell b ++ (spell c ++ (spell d ++ (spell e ++ spell f)))))
parts_spelt h a b c d e f = simp (flat_map-append bytes_of)

module _ (s s1 s2 s3 s4 s5 s6 s7 h a b c d e f : List ℕ) where
  parts_joined : s ≡ spell h ++ s1 → s1 ≡ spell a ++ s2 → s2 ≡ spell b ++ s3 → s3 ≡ spell c ++ s4 → s4 ≡ spell d ++ s5 → s5 ≡ spell e ++ s6 → s6 ≡ spell f ++ s7 → s7 ≡ [] → s ≡ spell (h ++ (a ++ (b ++ (c ++ (d ++ (e ++ f))))))
  parts_joined e0 e1 e2 e3 e4 e5 e6 e7 =
      let n = append-nil (spell f) in
      let p = parts_spelt h a b c d e f in
      cc

same_lengths : (c : Content) (n : Counts) → length c.types ≡ n.types → length c.fields ≡ n.fields → length c.globals ≡ n.globals → length c.locals ≡ n.locals → length c.functions ≡ n.functions → length c.code ≡ n.code → lengths c ≡ n
same_lengths c n e1 e2 e3 e4 e5 e6 = rw (e1, e2, e3, e4, e5, e6) refl

-- an image that holds c is the one that is written of c
pub held_image : (s : List ℕ) (c : Content) → Bytes s → Holds s c → s ≡ image_of c
unfolding image_of
held_image s c t h =
    let n = counts_in s in
    let l = h.listed in
    let p = starts s n h.headed.in_place in
    let types = list_from kind_from kind_words 3 kind_faithful n.types 60 (fields_at n) s c.types t (omega arith) (omega (arith, p.end)) l.types_are in
    let fields = list_from typed_from typed_words 1 typed_faithful n.fields (fields_at n) (globals_at n) s c.fields t (omega arith) (omega (arith, p.end)) l.fields_are in
    let globals = list_from global_from global_words 2 global_faithful n.globals (globals_at n) (locals_at n) s c.globals t (omega arith) (omega (arith, p.end)) l.globals_are in
    let locals = list_from typed_from typed_words 1 typed_faithful n.locals (locals_at n) (functions_at n) s c.locals t (omega arith) (omega (arith, p.end)) l.locals_are in
    let functions = list_from function_from function_words 4 function_faithful n.functions (functions_at n) (code_at n) s c.functions t (omega arith) (omega (arith, p.end)) l.functions_are in
    let code = list_from instruction_from instruction_words 4 instruction_faithful n.code (code_at n) (end_at n) s c.code t (omega arith) (omega (arith, p.end)) l.code_is in
    let same : lengths c ≡ n = same_lengths c n types.1 fields.1 globals.1 locals.1 functions.1 code.1 in
    let words : words_from s 0 15 ≡ header_words c.memory c.depth (lengths c) = header_there s c.memory c.depth h.headed ∙ ap (header_words c.memory c.depth) (sym same) in
    let front : s ≡ spell (header_words c.memory c.depth (lengths c)) ++ drop 60 s = spell_from 15 s 0 t h.headed.long ∙ ap (λ ws. spell ws ++ drop 60 s) words in
    parts_joined s (drop 60 s) (drop (fields_at n) s) (drop (globals_at n) s) (drop (locals_at n) s) (drop (functions_at n) s) (drop (code_at n) s) (drop (end_at n) s) (header_words c.memory c.depth (lengths c)) (flat_map kind_words c.types) (flat_map typed_words c.fields) (flat_map global_words c.globals) (flat_map typed_words c.locals) (flat_map function_words c.functions) (flat_map instruction_words c.code) front types.0 fields.0 globals.0 locals.0 functions.0 code.0 (drop_all (end_at n) s (omega (arith, p.end)))
