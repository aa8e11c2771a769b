use Rattle.std.proofs.Common.{◌≡◌, ◌<◌, length, rules}
use Rattle.carte_note.proofs.list.FinishedList.put.Goals as goal

pub invariant_of-self-2 : goal.invariant_of-self-2
invariant_of-self-2 c =
    let end : c.len-at.result ≡ length c.self.inside.finished.items = search rules in
    let room : length c.push_reserved.new.self.items < 4294967296 = search rules in (
      room,
      rw (c.push_reserved.ensures.items, c.make_place.ensures.items) ((c.in_ok-put_place.ensures {u = tt}).ok c.self.inside.finished.items end c.self.invariant.1),
    )
