use Rattle.carte_record.proofs.Gone.{without_view}
use Rattle.carte_record.proofs.kept.Kept.without_these.Goals as goal

pub returns : goal.returns
returns c = without_view c.args.self.now _ c.args.gone.now
    (c.in_ok-without.ensures {u = tt}) (c.in_ok-without-2.ensures {u = tt}) (c.in_ok-without-3.ensures {u = tt}) (c.in_ok-without-4.ensures {u = tt}) (c.in_ok-without-5.ensures {u = tt})
    (c.in_ok-copy.ensures {u = tt}) (c.in_ok-copy-2.ensures {u = tt})
