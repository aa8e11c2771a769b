use Rattle.std.proofs.Common.{◌≡◌, rules}
use Rattle.carte_io.specs.MemDisks.{story_of}
use Rattle.carte_history.proofs.Showing.{next_read}
use Rattle.carte_history.proofs.show.bytes_left.Goals as goal

pub returns-clause-next : goal.returns-clause-next
returns-clause-next c =
    let next = c.begin_next.new.disk in
    let reads : c.in_ok-to_vec.field-0.items ≡ (story_of next).now.reads = search rules in
    next_read c.args.stop c.args.disk.now next _ c.in_ok-begin_next.ensures reads
