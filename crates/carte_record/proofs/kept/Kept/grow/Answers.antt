use Rattle.std.proofs.Common.{◌≡◌, subst}
use Rattle.std.specs.Option.{option_or}
use Rattle.carte_value.specs.declared.digest.Digest.{Digest}
use Rattle.carte_table.specs.Lookups.{first_value, is_link_of}
use Rattle.carte_record.specs.Lookups.{is_entry_of}
use Rattle.carte_table.specs.Steps.{IsReady}
use Rattle.carte_record.proofs.kept.Kept.grow.Goals as goal

pub returns-clause-rest : goal.returns-clause-rest
returns-clause-rest c =
    let same = c.grow_traces.ensures.rest in
    record {
      values = subst (λ vs. (d : Digest) → first_value c.take_in.new.self d ≡ option_or (first_value vs d) (first_value c.args.values d)) same.0 ((c.in_ok-take_in.ensures {u = tt}).ok);
      seen = subst (λ ls. IsReady is_link_of c.args.seen ls c.in_ok-links.links.items c.make_ready.new.self) same.1 ((c.in_ok-links.ensures {u = tt}).ok);
      entries = subst (λ es. IsReady is_entry_of c.args.entries es c.in_ok-entries.entries.items c.make_ready-2.new.self) same.2 ((c.in_ok-entries.ensures {u = tt}).ok);
    }
