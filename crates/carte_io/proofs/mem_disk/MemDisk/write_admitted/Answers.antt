use Rattle.std.proofs.Common.{ap, ◌∙◌}
use Rattle.carte_io.specs.Disk.{put_at}
use Rattle.carte_io.specs.MemDisks.{MemoryOfDisk, begun}
use Rattle.carte_io.specs.declared.passed.Passed.TheVariants.{Wrote}
use Rattle.carte_io.proofs.MemDiskLemmas.{reads_on, story_on}
use Rattle.carte_io.proofs.mem_disk.MemDisk.write_admitted.Goals as goal

pub invariant_of-self : goal.invariant_of-self
invariant_of-self c =
    reads_on (begun c.self.inside.first.items) _ _ (Wrote c.args.at c.args.piece.now) _ c.in-Ok.ensures.ok.1
    (c.in-Ok.ensures.ok.0 ∙ ap (λ reads. put_at reads c.args.at c.args.piece.now) c.self.invariant)

pub returns-in-Ok-clause-ok : goal.returns-in-Ok-clause-ok
returns-in-Ok-clause-ok c =
    story_on c.args.self.now c.self.inside.first.items c.self.inside.stop c.self.inside.passed.items _ (Wrote c.args.at c.args.piece.now) c.in-Ok.ensures.ok.1
    (ap (λ (d : MemoryOfDisk). d.first) c.self.view_is) (ap (λ (d : MemoryOfDisk). d.stop) c.self.view_is)
    (ap (λ (d : MemoryOfDisk). d.passed) c.self.view_is) c.requires
