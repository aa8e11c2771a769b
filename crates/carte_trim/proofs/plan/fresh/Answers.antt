use Rattle.std.proofs.Common.{subst}
use Rattle.carte_io.specs.MemDisks.{story_of}
use Rattle.carte_journal.specs.Journals.{IsRead}
use Rattle.carte_trim.proofs.Files.{read_fresh}
use Rattle.carte_trim.proofs.plan.fresh.Goals as goal

pub returns-in-Ok : goal.returns-in-Ok
returns-in-Ok c =
    let loaded = c.in-Ok.loaded in
    let read = c.in-Ok.ensures.read tt in
    let empty = subst (λ disk. IsRead loaded.0 loaded.1 (story_of disk).now.reads) ((c.in_ok-disk.ensures {u = tt}).begins) read in
    read_fresh 536870912 loaded.0 loaded.1 empty c.in-Ok.ensures.starts.0 c.in-Ok.ensures.starts.1
