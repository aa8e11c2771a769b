use Rattle.std.proofs.Common.{ap, ◌∙◌, sym}
use Rattle.std.specs.Option.{option_copied}
use Rattle.std.specs.Prelude.{find}
use Rattle.carte_table.specs.Lookups.{digest_in, is_link_of}
use Rattle.carte_table.proofs.seen.Seen.find.Goals as goal

pub returns-in-Some : goal.returns-in-Some
returns-in-Some c = ap digest_in (sym (ap option_copied c.in-Some.is) ∙ c.find.ensures ∙ ap (find (is_link_of c.args.name.now)) c.self.view_is)

pub returns-in-None : goal.returns-in-None
returns-in-None c = ap digest_in (sym (ap option_copied c.in-None.is) ∙ c.find.ensures ∙ ap (find (is_link_of c.args.name.now)) c.self.view_is)
