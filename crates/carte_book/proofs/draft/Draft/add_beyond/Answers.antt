use Rattle.std.proofs.Common.{◌≡◌, sym, ◌∙◌}
use Rattle.carte_name.specs.declared.kind.Kind.TheVariants.{Sheet}
use Rattle.carte_book.proofs.draft.Draft.add_beyond.Goals as goal

pub returns-in-Rules-clause-takes : goal.returns-in-Rules-clause-takes
returns-in-Rules-clause-takes c = λ m x h new. c.keep_name.ensures.takes m x h

pub returns-in-Sheet-clause-takes : goal.returns-in-Sheet-clause-takes
returns-in-Sheet-clause-takes c = λ m x h new. let sheet : c.kind.result ≡ Sheet = cc in c.note_name.ensures.takes m x h (new (sym c.kind.ensures ∙ sheet))
