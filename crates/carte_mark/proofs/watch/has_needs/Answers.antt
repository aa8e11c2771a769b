use Rattle.std.proofs.Common.{ap, sym, ◌∙◌, option_copied}
use Rattle.carte_mark.proofs.Watching.{same_needs}
use Rattle.carte_mark.proofs.watch.has_needs.Goals as goal

pub returns-in-Some : goal.returns-in-Some
returns-in-Some c yes_told = (
  c.in-Some.old.now,
  sym c.find.ensures ∙ ap option_copied c.in-Some.is,
  same_needs c.in-Some.old.now.needs c.args.entry.now.needs c.as_slice.result.now c.as_slice-in-Some.result.now c.eq.result c.as_slice.ensures c.as_slice-in-Some.ensures c.eq.ensures yes_told,
)
