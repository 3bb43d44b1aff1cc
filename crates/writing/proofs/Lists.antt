-- The words of lists, one behind another.
use Rattle.std.proofs.Common.{◌≡◌, ℕ, ◌+◌, ◌*◌, ◌≤◌, List, ◌++◌, length, sym, refl, ap, ◌∙◌, arith, rules}
use Rattle.std.specs.List.{flat_map}
use Rattle.std.proofs.lemmas.List.{length-append, append_assoc}
use Rattle.std.proofs.lemmas.Grind.{flat_map-append}
use Rattle.records.specs.Words.{bytes_of, spell}
use Rattle.content.specs.declared.kind.Kind.{Kind}
use Rattle.content.specs.declared.instruction.Instruction.{Instruction}
use Rattle.content.specs.Records.{kind_words, typed_words, global_words, function_words, instruction_words}
use Rattle.header.specs.declared.starts.Starts.{Starts}
use Rattle.header.specs.Header.{starts_of, end_at}
use Rattle.parts.specs.Content.{Content, lengths}
use Rattle.writing.specs.Image.{list_words}
use Rattle.writing.specs.inside.Putting.{placed}
use Rattle.writing.proofs.Placing.{placed_more, length_joined, length_spell}

kind_long : (k : Kind) → length (kind_words k) ≡ 3
kind_long k = search rules

instruction_long : (i : Instruction) → length (instruction_words i) ≡ 4
instruction_long i = search rules

-- words put behind words
pub words_more : (s o o' xs ys : List ℕ) (at m : ℕ) → at + 4 * length xs ≤ length s → m ≡ at + 4 * length xs → o ≡ placed s at (spell xs) → o' ≡ placed o m (spell ys) → o' ≡ placed s at (spell (xs ++ ys))
words_more s o o' xs ys at m h e eo en =
    let n = length_spell xs in
    let q = placed_more s (spell xs) (spell ys) at m (omega arith) (omega arith) in
    en ∙ ap (λ t. placed t m (spell ys)) eo ∙ q ∙ ap (placed s at) (sym (flat_map-append bytes_of xs ys))

-- the lengths of the six lists in words
pub record Long (c : Content) : Type 0 where
  pub types : length (flat_map kind_words c.types) ≡ 3 * length c.types
  pub fields : length (flat_map typed_words c.fields) ≡ 1 * length c.fields
  pub globals : length (flat_map global_words c.globals) ≡ 2 * length c.globals
  pub locals : length (flat_map typed_words c.locals) ≡ 1 * length c.locals
  pub functions : length (flat_map function_words c.functions) ≡ 4 * length c.functions
  pub code : length (flat_map instruction_words c.code) ≡ 4 * length c.code

pub all_long : (c : Content) → Long c
all_long c = record {
  types = length_joined kind_words 3 kind_long c.types;
  fields = length_joined typed_words 1 (λ _. refl) c.fields;
  globals = length_joined global_words 2 (λ _. refl) c.globals;
  locals = length_joined typed_words 1 (λ _. refl) c.locals;
  functions = length_joined function_words 4 (λ _. refl) c.functions;
  code = length_joined instruction_words 4 instruction_long c.code;
}

pub length_lists : (c : Content) → 60 + 4 * length (list_words c) ≡ end_at (lengths c)
length_lists c = let l = all_long c in simp length-append (omega arith)

-- each list put behind the one before it
module _ (c : Content) (at : Starts) (s o1 o2 o3 o4 o5 o6 : List ℕ) where
  pub lists_placed : at ≡ starts_of (lengths c) → end_at (lengths c) ≤ length s
      → o1 ≡ placed s at.types (spell (flat_map kind_words c.types))
      → o2 ≡ placed o1 at.fields (spell (flat_map typed_words c.fields))
      → o3 ≡ placed o2 at.globals (spell (flat_map global_words c.globals))
      → o4 ≡ placed o3 at.locals (spell (flat_map typed_words c.locals))
      → o5 ≡ placed o4 at.functions (spell (flat_map function_words c.functions))
      → o6 ≡ placed o5 at.code (spell (flat_map instruction_words c.code))
      → o6 ≡ placed s 60 (spell (list_words c))
  lists_placed e h p1 p2 p3 p4 p5 p6 =
      let ws1 = flat_map kind_words c.types in
      let ws2 = flat_map typed_words c.fields in
      let ws3 = flat_map global_words c.globals in
      let ws4 = flat_map typed_words c.locals in
      let ws5 = flat_map function_words c.functions in
      let ws6 = flat_map instruction_words c.code in
      let l = all_long c in
      let a = length-append {A = ℕ} in
      let q1 : o1 ≡ placed s 60 (spell ws1) = p1 ∙ ap (λ x. placed s x.types (spell ws1)) e in
      let q2 : o2 ≡ placed s 60 (spell (ws1 ++ ws2)) = words_more s o1 o2 ws1 ws2 60 at.fields (omega (arith, a)) (ap (λ x. x.fields) e ∙ omega (arith, a)) q1 p2 in
      let q3 : o3 ≡ placed s 60 (spell ((ws1 ++ ws2) ++ ws3)) = words_more s o2 o3 (ws1 ++ ws2) ws3 60 at.globals (omega (arith, a)) (ap (λ x. x.globals) e ∙ omega (arith, a)) q2 p3 in
      let q4 : o4 ≡ placed s 60 (spell (((ws1 ++ ws2) ++ ws3) ++ ws4)) = words_more s o3 o4 ((ws1 ++ ws2) ++ ws3) ws4 60 at.locals (omega (arith, a)) (ap (λ x. x.locals) e ∙ omega (arith, a)) q3 p4 in
      let q5 : o5 ≡ placed s 60 (spell ((((ws1 ++ ws2) ++ ws3) ++ ws4) ++ ws5)) = words_more s o4 o5 (((ws1 ++ ws2) ++ ws3) ++ ws4) ws5 60 at.functions (omega (arith, a)) (ap (λ x. x.functions) e ∙ omega (arith, a)) q4 p5 in
      let q6 : o6 ≡ placed s 60 (spell (((((ws1 ++ ws2) ++ ws3) ++ ws4) ++ ws5) ++ ws6)) = words_more s o5 o6 ((((ws1 ++ ws2) ++ ws3) ++ ws4) ++ ws5) ws6 60 at.code (omega (arith, a)) (ap (λ x. x.code) e ∙ omega (arith, a)) q5 p6 in
      let flat : ((((ws1 ++ ws2) ++ ws3) ++ ws4) ++ ws5) ++ ws6 ≡ list_words c = simp append_assoc in
      q6 ∙ ap (λ ws. placed s 60 (spell ws)) flat
