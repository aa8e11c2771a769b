-- A batch that is cut in two.
use Rattle.std.specs.Prelude.{◌≡◌, ◌++◌, None}
use Rattle.carte_record.specs.declared.batch.Batch.{Batch}
use Rattle.carte_record.specs.declared.way.Way.{Way}
use Rattle.carte_record.specs.Folds.{batch_traces}

-- each list of the whole is that of the front with that of the rest behind it, and the rest has the chain
pub record IsCut (whole front rest : Batch) : Type 0 where
  pub values : whole.values ≡ front.values ++ rest.values
  pub seen : whole.seen ≡ front.seen ++ rest.seen
  pub entries : whole.entries ≡ front.entries ++ rest.entries
  pub traces : (w : Way) → batch_traces w whole ≡ batch_traces w front ++ batch_traces w rest
  pub none : front.chain ≡ None
  pub chain : whole.chain ≡ rest.chain
