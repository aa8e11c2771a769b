-- Batches that carry just what one station of what is kept has besides another.
use Rattle.std.specs.Prelude.{ℕ, ◌≡◌, List, Some, None, map, unwrap_or}
use Rattle.std.specs.Option.{option_or}
use Rattle.carte_value.specs.declared.digest.Digest.{Digest}
use Rattle.carte_value.specs.declared.value.Value.{Value}
use Rattle.carte_value.specs.Spelling.{digest_of}
use Rattle.carte_value.specs.Truths.{NoneTwice}
use Rattle.carte_book.specs.Book.{Book}
use Rattle.carte_record.specs.declared.batch.Batch.{Batch}
use Rattle.carte_record.specs.declared.entry.Entry.{Entry}
use Rattle.carte_record.specs.declared.way.Way.{Way}
use Rattle.carte_record.specs.Folds.{batch_traces}
use Rattle.carte_record.specs.Kept.{SomeKept, traces_in}
use Rattle.carte_table.specs.Lookups.{link_in, first_value}
use Rattle.carte_record.specs.Lookups.{entry_in}
use Rattle.carte_sound.specs.Lists.{EachOnce}
use Rattle.carte_sound.specs.Marks.{present}

-- It makes L of K: what differs stands in it, each thing once, and nothing besides. Its start and its marks are no part of this.
pub record Carries (b : Book) (K L : SomeKept) (B : Batch) : Type 0 where
  pub values : (d : Digest) → L.stored d ≡ option_or (K.stored d) (first_value B.values d)
  pub values_lacked : (d : Digest) (v : Value) → first_value B.values d ≡ Some v → K.stored d ≡ None
  pub values_once : EachOnce (map digest_of B.values)
  pub seen : (q : List ℕ) → L.seen q ≡ option_or (link_in B.seen q) (K.seen q)
  pub seen_differs : (q : List ℕ) (d : Digest) → link_in B.seen q ≡ Some d → ¬ (K.seen q ≡ Some d)
  pub seen_present : (q : List ℕ) (d : Digest) → link_in B.seen q ≡ Some d → present b q ≡ Some d
  pub seen_once : NoneTwice (map (λ l. l.name) B.seen)
  pub entries : (q : List ℕ) → L.entries q ≡ option_or (entry_in B.entries q) (K.entries q)
  pub entries_differ : (q : List ℕ) (e : Entry) → entry_in B.entries q ≡ Some e → ¬ (K.entries q ≡ Some e)
  pub entries_once : NoneTwice (map (λ e. e.key) B.entries)
  pub traces : (w : Way) (q : List ℕ) → L.traces w q ≡ traces_in w q (batch_traces w B) (K.traces w q)
  pub chain : L.chain ≡ unwrap_or B.chain K.chain
  pub chain_differs : (ks : List (List ℕ)) → B.chain ≡ Some ks → ¬ (K.chain ≡ ks)
