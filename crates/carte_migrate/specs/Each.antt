-- A batch in which nothing stands twice.
use Rattle.std.specs.Prelude.{ℕ, ◌≡◌, List, [], map, Some}
use Rattle.carte_value.specs.Spelling.{digest_of}
use Rattle.carte_value.specs.Truths.{Among, NoneTwice}
use Rattle.carte_record.specs.declared.batch.Batch.{Batch}
use Rattle.carte_record.specs.declared.way.Way.{Way}
use Rattle.carte_record.specs.Folds.{batch_traces}
use Rattle.carte_sound.specs.Lists.{EachOnce}

-- it carries each thing once, marks none but its own entries, and has no chain without a key
pub record CarriesEach (B : Batch) : Type 0 where
  pub values : EachOnce (map digest_of B.values)
  pub gone : B.gone ≡ []
  pub seen : NoneTwice (map (λ l. l.name) B.seen)
  pub entries : NoneTwice (map (λ e. e.key) B.entries)
  pub stale : NoneTwice B.stale
  pub marked : (k : List ℕ) → Among B.stale k → Among (map (λ e. e.key) B.entries) k
  pub traces : (w : Way) → EachOnce (batch_traces w B)
  pub chain : ¬ (B.chain ≡ Some [])
