use Rattle.std.proofs.Common.{refl}
use Rattle.carte_record_one.proofs.Growing.{links_taken, entries_taken}
use Rattle.carte_record_one.proofs.kept.KeptOne.take_keys.Goals as goal

pub returns : goal.returns
returns c =
    let old = c.args.self.now in
    record {
      rules = refl;
      values = (c.in_ok-take_in.ensures {u = tt}).ok;
      seen = links_taken c.args.seen old.seen c.in_ok-links.links.items c.make_ready.new.self c.take_in-2.new.self ((c.in_ok-links.ensures {u = tt}).ok) c.take_in-2.ensures;
      entries = entries_taken c.args.stale.now c.args.entries old.entries c.mark_each.new.self c.in_ok-entries.entries.items c.make_ready-2.new.self c.take_in-3.new.self c.mark_each.ensures ((c.in_ok-entries.ensures {u = tt}).ok) c.take_in-3.ensures;
      verifying = refl;
      constructive = refl;
      deep = refl;
      chain = refl;
    }
