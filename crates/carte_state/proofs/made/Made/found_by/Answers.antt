use Rattle.std.proofs.Common.{refl}
use Rattle.carte_record_one.specs.Kept.{kept_one_view}
use Rattle.carte_state.proofs.made.Made.found_by.Goals as goal

pub returns-in-Nothing : goal.returns-in-Nothing
returns-in-Nothing c = rw c.in-Nothing.is (tt, c.empty.ensures)

pub returns-in-Old : goal.returns-in-Old
returns-in-Old c = rw c.in-Old.is (c.found_behind_old.ensures (kept_one_view c.in-Old.field-0))

pub returns-in-Before : goal.returns-in-Before
returns-in-Before c = rw c.in-Before.is (tt, refl)

pub returns : goal.returns
returns c = rw c.in-Now.is (tt, refl)
