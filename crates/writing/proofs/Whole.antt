-- The image that is written is long enough for all, and each part lies in its place.
use Rattle.std.proofs.Common.{◌≡◌, ℕ, ◌+◌, ◌≤◌, List, ◌++◌, length, drop, refl, ◌∙◌, arith}
use Rattle.std.proofs.lemmas.List.{length-append}
use Rattle.records.specs.Words.{spell}
use Rattle.header.specs.Header.{end_at}
use Rattle.parts.specs.Content.{Content, lengths}
use Rattle.writing.specs.Image.{image_of, header_words, list_words}
use Rattle.writing.specs.inside.Putting.{placed}
use Rattle.writing.proofs.Placing.{placed_first, length_spell}
use Rattle.writing.proofs.Lists.{words_more, length_lists}

pub length_image : (c : Content) → length (image_of c) ≡ end_at (lengths c)
unfolding image_of
length_image c =
    let front = header_words c.memory c.depth (lengths c) in
    let n : length (front ++ list_words c) ≡ 15 + length (list_words c) = length-append front (list_words c) in
    length_spell (front ++ list_words c) ∙ omega (arith, length_lists c)

-- the lists put behind the header
pub image_placed : (c : Content) (s o1 o2 : List ℕ) → length (image_of c) ≤ length s → o1 ≡ placed s 0 (spell (header_words c.memory c.depth (lengths c))) → o2 ≡ placed o1 60 (spell (list_words c)) → o2 ≡ image_of c ++ drop (length (image_of c)) s
unfolding image_of
image_placed c s o1 o2 h p1 p2 =
    let front = header_words c.memory c.depth (lengths c) in
    words_more s o1 o2 front (list_words c) 0 60 (omega (arith, length_image c)) refl p1 p2 ∙ placed_first s (spell (front ++ list_words c))
