use Rattle.std.proofs.Common.{sym, ◌∙◌, length}
use Rattle.std.proofs.lemmas.Bool.{eqb-false}
use Rattle.carte_words.proofs.Cutting.{word_boundary, next_is}
use Rattle.carte_words.proofs.cuts.next_word.Goals as goal

pub split_at-requires : goal.split_at-requires
split_at-requires c = word_boundary c.skip-text.result.now c.word_len.result c.word_len.ensures

pub returns : goal.returns
returns c = next_is c.args.text.now c.skip-text.result.now c.split_at.result.0.now c.split_at.result.1.now c.word_len.result c.skip-text.ensures c.word_len.ensures c.split_at.ensures.front c.split_at.ensures.back
    (eqb-false (length c.skip-text.result.now) 0 (sym c.is_empty.ensures ∙ c.if-is_empty.false))
