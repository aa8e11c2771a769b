use Rattle.std.proofs.Common.{◌∙◌, ap, sym, subst}
use Rattle.carte_io.specs.Disk.{IsImage}
use Rattle.carte_io.specs.MemDisks.{MemoryOfDisk, image_of, story_of}
use Rattle.carte_io.proofs.CrashLemmas.{picked_image}
use Rattle.carte_io.proofs.mem_disk.MemDisk.crash.Goals as goal

pub returns-clause-image : goal.returns-clause-image
returns-clause-image c =
    subst (λ image. IsImage (story_of c.args.self.now).now image)
    (sym (ap (λ (d : MemoryOfDisk). d.first) c.in_ok-disk.ensures.begins ∙ c.deref.ensures.value))
    (picked_image c.args.pick (story_of c.args.self.now).now c.in_ok-image.image.items (image_of c.args.self.now) c.in_ok-image.ensures)
