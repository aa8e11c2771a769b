use Rattle.std.proofs.Common.{◌≡◌, true, [], ◌∷◌, Result, Ok, Err, ap, ◌∙◌, subst}
use Rattle.std.specs.Prelude.{OnOk}
use Rattle.carte_state.specs.Around.{OverDisk, over_disk}
use Rattle.carte_state.specs.States.{Stand, any_in}
use Rattle.carte_state.specs.Versions.{InTwo, apply_to}
use Rattle.carte_state.specs.declared.fault.ApplyFault.{ApplyFault}
use Rattle.carte_record.specs.declared.batch.Batch.{Batch}
use Rattle.carte_record.specs.Kept.{nothing_kept}
use Rattle.carte_engine.specs.Clearing.{clearing}
use Rattle.carte_engine.specs.Committing.{Commits, CommitsAll}
use Rattle.carte_engine.proofs.Committing.{has_put}
use Rattle.carte_engine.proofs.Emptying.{clearing_empties}
use Rattle.carte_engine.proofs.Looping.{one_batch}
use Rattle.carte_engine.proofs.engine.Engine.clean.Goals as goal

cleaned : (d : OverDisk) (s t : Stand) (B : Batch) (r : Result (Unit {0}) ApplyFault) → B ≡ clearing s → Commits true d s t B r → OnOk r (any_in t ≡ InTwo nothing_kept)
cleaned d s t B (Ok done) is commits = (has_put true d s t B commits).any ∙ ap (λ (C : Batch). apply_to C (any_in s)) is ∙ clearing_empties s
cleaned d s t B (Err fault) is commits = tt

pub returns-clause-cleaned : goal.returns-clause-cleaned
returns-clause-cleaned g c =
    cleaned (over_disk g.D.Disk.tells g.D.Disk.story g.D.Disk.faults c.args.disk.now c.commit_one.new.disk) c.args.self.now c.commit_one.new.self c.clearing-batch.result c.commit_one.result
    (c.clearing-batch.ensures ∙ ap clearing c.self.view_is) c.commit_one.ensures

pub returns-clause-commits : goal.returns-clause-commits
returns-clause-commits g c =
    let d = over_disk g.D.Disk.tells g.D.Disk.story g.D.Disk.faults c.args.disk.now c.commit_one.new.disk in
    subst (λ (B : Batch). CommitsAll d c.args.self.now c.commit_one.new.self (B ∷ []) c.commit_one.result)
    (c.clearing-batch.ensures ∙ ap clearing c.self.view_is) (one_batch d c.args.self.now c.commit_one.new.self c.clearing-batch.result c.commit_one.result c.commit_one.ensures)
