use Rattle.std.proofs.Common.{◌≡◌, ap, sym, ◌∙◌}
use Rattle.records.specs.Words.{spell}
use Rattle.header.specs.declared.header.Header.{Header}
use Rattle.parts.specs.Content.{content, lengths}
use Rattle.writing.specs.Image.{header_words, list_words}
use Rattle.writing.specs.inside.Putting.{placed}
use Rattle.writing.proofs.Whole.{image_placed}
use Rattle.writing.proofs.put_image.Goals as goal

pub returns : goal.returns
returns c =
    let said = content c.args.parts.now in
    let words : c.header_words.result ≡ header_words said.memory said.depth (lengths said) = c.header_words.ensures ∙ ap (λ (h : Header). header_words h.memory h.depth h.counts) c.header-header.ensures.value ∙ ap (header_words said.memory said.depth) (sym c.header-header.ensures.counted) in
    image_placed said c.args.out.now c.put_words.new.out _ c.requires (c.put_words.ensures ∙ ap (λ ws. placed c.args.out.now 0 (spell ws)) words) (c.put_lists.ensures ∙ ap (λ v. placed c.put_words.new.out 60 (spell (list_words v))) c.lists.ensures)
