use Rattle.std.proofs.Common.{subst}
use Rattle.carte_state.specs.Parts.{IsNext}
use Rattle.carte_state.specs.Versions.{Ones}
use Rattle.carte_state.specs.declared.any.AnyBatch.TheVariants.{One}
use Rattle.carte_state.proofs.Reading.{first_one}
use Rattle.carte_state.proofs.made.Made.with_one.Goals as goal

pub returns-in-Nothing : goal.returns-in-Nothing
returns-in-Nothing c =
    rw c.in-Nothing.is (first_one c.args.batch c.old_with.result (subst (λ K. IsNext (Ones K) (One c.args.batch) c.old_with.result) c.empty.ensures c.old_with.ensures))

pub returns-in-Before : goal.returns-in-Before
returns-in-Before c = rw c.in-Before.is (λ never. never)

pub returns : goal.returns
returns c = rw c.in-Now.is (λ never. never)
