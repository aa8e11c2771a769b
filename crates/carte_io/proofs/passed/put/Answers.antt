use Rattle.std.proofs.Common.{arith, ◌∙◌}
use Rattle.std.proofs.lemmas.List.{take_at}
use Rattle.carte_io.proofs.MemDiskLemmas.{put_at_grown}
use Rattle.carte_io.proofs.passed.put.Goals as goal

pub returns-clause-ok : goal.returns-clause-ok
returns-clause-ok c =
    take_at c.overwrite.new.bytes _ _ (omega arith) ∙ c.overwrite.ensures
    ∙ put_at_grown c.args.bytes.now.items c.args.at c.in-Some.end c.args.piece.now _ (omega arith) (c.deref_mut.ensures.value ∙ c.in_ok-grow.ensures.ok)
