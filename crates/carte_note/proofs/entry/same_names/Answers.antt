use Rattle.std.proofs.Common.{sym, ◌∙◌}
use Rattle.carte_note.proofs.Names.{unlike}
use Rattle.carte_note.proofs.entry.same_names.Goals as goal

pub returns-then-len : goal.returns-then-len
returns-then-len c = sym (unlike c.args.names.now c.args.links.now (λ same. c.if-len.true (c.len.ensures.number ∙ (same ∙ sym c.len-2.ensures.number))))
