-- How what is kept takes in a batch of version 1, part by part.
use Rattle.std.specs.Prelude.{ℕ, ◌≡◌, ◌++◌, List, option_map}
use Rattle.std.specs.Option.{option_or}
use Rattle.carte_value.specs.declared.digest.Digest.{Digest}
use Rattle.carte_value.specs.declared.link.Link.{Link}
use Rattle.carte_value.specs.declared.value.Value.{Value}
use Rattle.carte_table.specs.Lookups.{first_link, first_value, link_in}
use Rattle.carte_record.specs.Folds.{is_among}
use Rattle.carte_record_one.specs.declared.entry.EntryOne.{EntryOne}
use Rattle.carte_record_one.specs.declared.trace.TraceOne.{TraceOne}
use Rattle.carte_record_one.specs.declared.kept.KeptOne.{KeptOne}
use Rattle.carte_record_one.specs.Lookups.{entry_one_in, first_entry_one}
use Rattle.carte_record_one.specs.Kept.{staled_one}

-- values, links and entries, after marks
pub record TakesKeys (vs : List Value) (ls : List Link) (ks : List (List ℕ)) (es : List EntryOne) (old new : KeptOne) : Type 0 where
  pub rules : new.rules ≡ old.rules
  pub values : (d : Digest) → first_value new.values d ≡ option_or (first_value old.values d) (first_value vs d)
  pub seen : (k : List ℕ) → first_link new.seen k ≡ option_or (link_in ls k) (first_link old.seen k)
  pub entries : (k : List ℕ) → first_entry_one new.entries k ≡ option_or (entry_one_in es k) (option_map (staled_one (is_among ks k)) (first_entry_one old.entries k))
  pub verifying : new.verifying ≡ old.verifying
  pub constructive : new.constructive ≡ old.constructive
  pub deep : new.deep ≡ old.deep
  pub chain : new.chain ≡ old.chain

-- traces, behind the others
pub record TakesTraces (vs cs ds : List TraceOne) (old new : KeptOne) : Type 0 where
  pub rules : new.rules ≡ old.rules
  pub values : new.values ≡ old.values
  pub seen : new.seen ≡ old.seen
  pub entries : new.entries ≡ old.entries
  pub verifying : new.verifying ≡ old.verifying ++ vs
  pub constructive : new.constructive ≡ old.constructive ++ cs
  pub deep : new.deep ≡ old.deep ++ ds
  pub chain : new.chain ≡ old.chain
