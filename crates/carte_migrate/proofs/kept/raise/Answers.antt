use Rattle.std.proofs.Common.{ap}
use Rattle.carte_record.specs.Kept.{SomeKept}
use Rattle.carte_migrate.proofs.Firsts.{none_stored}
use Rattle.carte_migrate.proofs.kept.raise.Goals as goal

pub returns-clause-once : goal.returns-clause-once
returns-clause-once c = none_stored c.empty.result.values (λ d. ap (λ (K : SomeKept). K.stored d) c.empty.ensures)
