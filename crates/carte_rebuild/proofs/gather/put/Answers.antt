use Rattle.std.proofs.Common.{sym, ◌∙◌, ap}
use Rattle.indexmap.specs.IndexMap.{insert_entry}
use Rattle.carte_name.specs.Names.{name_eq}
use Rattle.carte_rebuild.proofs.Gathered.{put_new}
use Rattle.carte_rebuild.proofs.gather.put.Goals as goal

pub returns : goal.returns
returns c =
    put_new c.args.gathered.now (record { name = c.args.name.now; digest = c.args.digest }) c.insert.new.self.entries (sym c.contains_key.ensures ∙ c.if-contains_key.false)
    ((c.in_ok-insert.ensures {u = tt}).entries ∙ ap (λ k. insert_entry name_eq c.args.gathered.now.entries k c.args.digest) (c.in_ok-copy.ensures {u = tt}))
