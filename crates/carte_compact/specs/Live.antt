-- The live information: all that is kept, in one batch, without what no longer counts.
use Rattle.std.specs.Prelude.{ℕ, Bool, true, false, ◌≡◌, ◌⊎◌, List, [], ◌∷◌, map, filter, Option, Some, None, option_map}
use Rattle.std.specs.List.Sorted.{IsPermutation, IsSortedByKey, IsStableByKey}
use Rattle.carte_name.specs.Names.{name_cmp}
use Rattle.carte_value.specs.declared.link.Link.{Link}
use Rattle.carte_value.specs.declared.value.Value.{Value}
use Rattle.carte_value.specs.Spelling.{digest_of}
use Rattle.carte_value.specs.Truths.{Among, IsListOf}
use Rattle.carte_table.specs.Lookups.{first_link}
use Rattle.carte_record.specs.declared.batch.Batch.{Batch}
use Rattle.carte_record.specs.declared.entry.Entry.{Entry}
use Rattle.carte_record.specs.declared.kept.Kept.{Kept}
use Rattle.carte_record.specs.declared.start.Start.TheVariants.{GoOn}
use Rattle.carte_record.specs.declared.way.Way.TheVariants.{Verifying, Constructive, Deep}
use Rattle.carte_record.specs.Empty.{is_bare}
use Rattle.carte_record.specs.Lookups.{first_entry}
use Rattle.carte_record.specs.Marked.{marked_as}
use Rattle.carte_record.specs.Latest.{last_ones}

-- ---- what is kept

abbrev pub keys_of : List Entry → List (List ℕ)
keys_of = map (λ e. e.key)

abbrev pub names_of : List Link → List (List ℕ)
names_of = map (λ l. l.name)

-- ---- its parts

-- the digest's bytes, by which values are put in order
abbrev pub order_of : Value → List ℕ
order_of v = (digest_of v).0

-- the values in the order of their digests, those of one digest as they stood
pub record IsByDigest (all listed : List Value) : Type 0 where
  pub same : IsPermutation all listed
  pub rising : IsSortedByKey order_of name_cmp listed
  pub stable : IsStableByKey order_of name_cmp all listed

-- what a list has of each of these names, where it has it
abbrev pub put : {A : Type 0} → Option A → List A → List A
put None xs = xs
put (Some x) xs = x ∷ xs

abbrev pub found_at : {A : Type 0} → (List ℕ → Option A) → List (List ℕ) → List A
found_at f [] = []
found_at f (n ∷ ns) = put (f n) (found_at f ns)

-- the link that is found of a name
abbrev pub link_at : List Link → List ℕ → Option Link
link_at ls n = option_map (λ d. record { name = n; digest = d }) (first_link ls n)

-- the entry that is found of a key, without its mark
abbrev pub entry_at : List Entry → List ℕ → Option Entry
entry_at es k = option_map (marked_as false) (first_entry es k)

abbrev pub is_stale : Option Entry → Bool
is_stale None = false
is_stale (Some e) = e.stale

-- those of these keys whose first entry is stale
abbrev pub stale_at : List Entry → List (List ℕ) → List (List ℕ)
stale_at all ks = filter (λ k. is_stale (first_entry all k)) ks

abbrev pub chain_for : List (List ℕ) → Option (List (List ℕ))
chain_for [] = None
chain_for (k ∷ ks) = Some (k ∷ ks)

-- ---- the batches

-- a batch with all that is kept, with seen names, keys and marks in name order: it marks after its entries are put in, which have no mark
pub record IsAllOf (K : Kept) (names keys : List (List ℕ)) (B : Batch) : Type 0 where
  pub start : B.start ≡ GoOn
  pub values : IsByDigest K.values B.values
  pub gone : B.gone ≡ []
  pub seen : B.seen ≡ found_at (link_at K.seen) names
  pub stale : B.stale ≡ stale_at K.entries keys
  pub entries : B.entries ≡ found_at (entry_at K.entries) keys
  pub verifying : B.verifying ≡ last_ones Verifying K.verifying
  pub constructive : B.constructive ≡ last_ones Constructive K.constructive
  pub deep : B.deep ≡ last_ones Deep K.deep
  pub chain : B.chain ≡ chain_for K.chain

pub record IsSomeLive (K : Kept) (Bs : List Batch) : Type 0 where
  pub names : List (List ℕ)
  pub keys : List (List ℕ)
  pub first : Batch
  pub seen : IsListOf (Among (names_of K.seen)) names
  pub listed : IsListOf (Among (keys_of K.entries)) keys
  pub all : IsAllOf K names keys first
  pub batches : Bs ≡ first ∷ []

-- the batches are the live information; where nothing is kept, there are none
abbrev pub IsLive : Kept → List Batch → Type 0
IsLive K Bs = ((is_bare K ≡ true) × (Bs ≡ [])) ⊎ ((is_bare K ≡ false) × IsSomeLive K Bs)
