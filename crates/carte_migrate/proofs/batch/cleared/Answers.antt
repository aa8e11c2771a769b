use Rattle.std.proofs.Common.{◌∙◌, ap, sym}
use Rattle.carte_migrate.specs.Cleared.{cleared}
use Rattle.carte_migrate.proofs.Migrated.{cleared_new}
use Rattle.carte_migrate.proofs.batch.cleared.Goals as goal

pub returns-in-None : goal.returns-in-None
returns-in-None c = c.from_nothing-in-None.ensures ∙ cleared_new c.new.result c.new.ensures ∙ ap cleared (sym c.in-None.is)
