use Rattle.std.proofs.Common.{◌≡◌, ◌∙◌, ◌&&◌, eqb, length, slice_index, ap, ap₂}
use Rattle.std.specs.Char.{is_ascii_lowercase}
use Rattle.std.specs.List.{count_by}
use Rattle.carte_name.specs.Names.{is_lower, is_name_byte}
use Rattle.carte_name.specs.Fronts.{front_of}
use Rattle.carte_name.proofs.Counted.{rule_in_front}
use Rattle.carte_name.proofs.name_text.is_rule_front.Goals as goal

pub returns : goal.returns
returns c =
    let t = c.args.text.now in
    let lower : c.is_ascii_lowercase.result ≡ is_lower (slice_index t 0) = c.is_ascii_lowercase.ensures.value ∙ ap is_ascii_lowercase c.first.ensures in
    let count : c.bytes_of_rules.result ≡ count_by is_name_byte (front_of t) = c.bytes_of_rules.ensures ∙ ap (count_by is_name_byte) c.requires.padded in
    ap₂ (λ a n. a && eqb n (length t)) lower count ∙ rule_in_front t c.requires.few
