use Rattle.std.proofs.Common.{◌≡◌, ◌++◌, ap, ◌∙◌, take}
use Rattle.term_text.proofs.Texts.{cut_len, cut_short}
use Rattle.term_text.proofs.NameShapes.{word_taken}
use Rattle.mg_word.specs.Spelling.{is_word_byte}
use Rattle.term_text.proofs.names.take_word.Goals as goal

pub front-requires : goal.front-requires
front-requires c = cut_short is_word_byte c.args.bytes.now c.word_len-count.result c.word_len-count.ensures

pub returns : goal.returns
returns c =
    let cut = cut_len is_word_byte c.args.bytes.now c.word_len-count.result c.word_len-count.ensures in
    let name : c.extend_from_slice.new.self.items ≡ take c.word_len-count.result c.args.bytes.now =
    c.in_ok-extend_from_slice.ensures.items ∙ (ap (λ l. l ++ c.front.result.now) c.clear.ensures.items ∙ c.front.ensures) in
    rw (name, c.skip.ensures) (word_taken c.args.bytes.now _ _ c.requires cut)
