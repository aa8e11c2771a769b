-- The same of lists, as they stand in the batch of the live information, where of equal traces one is left.
use Rattle.std.specs.Prelude.{ℕ, ◌≡◌, ◌+◌, Bool, ◌||◌, nat_lt, List, [], ◌∷◌, None, filter, length, if◌then◌else◌}
use Rattle.std.specs.List.{list_any}
use Rattle.carte_value.specs.declared.digest.Digest.{Digest}
use Rattle.carte_value.specs.declared.value.Value.{Value}
use Rattle.carte_table.specs.Lookups.{digest_eq, first_value, has_key}
use Rattle.carte_record.specs.declared.batch.Batch.{Batch}
use Rattle.carte_record.specs.declared.entry.Entry.{Entry}
use Rattle.carte_record.specs.declared.way.Way.{Way}
use Rattle.carte_record.specs.declared.way.Way.TheVariants.{Verifying, Constructive, Deep}
use Rattle.carte_record.specs.Ways.{TraceBy, key_by, result_by}
use Rattle.carte_trim.specs.declared.cut.Counts.{Counts}

-- how many items of a key there are
abbrev pub count_of : {A : Type 0} → (A → List ℕ) → List ℕ → List A → ℕ
count_of key k xs = length (filter (has_key key k) xs)

-- those behind which fewer than n of their key stand
abbrev pub newest_of : {A : Type 0} → (A → List ℕ) → ℕ → List A → List A
newest_of key n [] = []
newest_of key n (x ∷ xs) = if nat_lt (count_of key (key x) xs) n then x ∷ newest_of key n xs else newest_of key n xs

-- whose result the digest is
abbrev pub in_those : {A : Type 0} → (A → Digest) → List A → Digest → Bool
in_those result xs d = list_any (λ x. digest_eq d (result x)) xs

abbrev pub in_entries : List Entry → Digest → Bool
in_entries = in_those (λ e. e.result)

abbrev pub in_traces : (w : Way) → List (TraceBy w) → Digest → Bool
in_traces w = in_those (result_by w)

abbrev pub in_batch : Batch → Digest → Bool
in_batch B d = ((in_entries B.entries d || in_traces Verifying B.verifying d) || in_traces Constructive B.constructive d) || in_traces Deep B.deep d

-- of the values those whose digest passes
abbrev pub HasThose : List Value → (Digest → Bool) → List Value → Type 0
HasThose all passes some = (d : Digest) → first_value some d ≡ (if passes d then first_value all d else None)

-- with the newest traces alone
abbrev pub with_newest : ℕ → Batch → Batch
with_newest n B = record B {
  verifying = newest_of (key_by Verifying) n B.verifying;
  constructive = newest_of (key_by Constructive) n B.constructive;
  deep = newest_of (key_by Deep) n B.deep;
}

-- C is B with the newest n traces of each key, and the values that are named then
pub record IsCut (n : ℕ) (B C : Batch) : Type 0 where
  pub start : C.start ≡ B.start
  pub gone : C.gone ≡ B.gone
  pub seen : C.seen ≡ B.seen
  pub stale : C.stale ≡ B.stale
  pub entries : C.entries ≡ B.entries
  pub verifying : C.verifying ≡ newest_of (key_by Verifying) n B.verifying
  pub constructive : C.constructive ≡ newest_of (key_by Constructive) n B.constructive
  pub deep : C.deep ≡ newest_of (key_by Deep) n B.deep
  pub chain : C.chain ≡ B.chain
  pub values : HasThose B.values (in_batch C) C.values

abbrev pub number_in : Batch → ℕ
number_in B = length B.verifying + length B.constructive + length B.deep

-- the first of the batches is cut, and how many traces it had and has; of none there are none
abbrev pub AreCut : ℕ → List Batch → List Batch → Counts → Type 0
AreCut n [] Cs c = (Cs ≡ []) × (c.before ≡ 0) × (c.after ≡ 0)
AreCut n (B ∷ Bs) Cs c = (C : Batch) × (Cs ≡ C ∷ Bs) × IsCut n B C × (c.before ≡ number_in B) × (c.after ≡ number_in C)
