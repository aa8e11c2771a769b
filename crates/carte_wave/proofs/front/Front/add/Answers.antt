use Rattle.std.proofs.Common.{refl}
use Rattle.std.specs.BTreeSet.{contains}
use Rattle.carte_name.specs.Names.{name_cmp}
use Rattle.carte_wave.proofs.Sets.{put_only, put_stays, put_there}
use Rattle.carte_wave.proofs.front.Front.add.Goals as goal

pub returns : goal.returns
returns c =
    let old = contains name_cmp c.args.self.now.ready in
    let new = contains name_cmp c.insert.new.self in
    let put = (c.in_ok-insert.ensures {u = tt}).updates.0 in
    record {
      only = put_only old new c.args.key put;
      stays = put_stays old new c.args.key put;
      there = put_there old new c.args.key put;
      waits = λ q. refl;
    }
