-- How batches are spelled in bytes.
use Rattle.std.specs.Prelude.{ℕ, List, [], ◌∷◌, ◌++◌, ◌≡◌, false, Option, Some, None, Result, Ok, Err}
use Rattle.carte_value.specs.Spelling.{spelling, IsValue}
use Rattle.carte_name.specs.declared.NoMemory.{NoMemory}
use Rattle.carte_codec.specs.Parts.{spelled_name, FitsName, spelled_digest, FitsDigest, spelled_bool, spelled_option, FitsOption, spelled_list, FitsList, spelled_link, FitsLink}
use Rattle.carte_record.specs.declared.codec.batch.Kind.{Kind}
use Rattle.carte_record.specs.declared.start.Start.{Start}
use Rattle.carte_record.specs.declared.start.Start.TheVariants.{GoOn, Cleared}
use Rattle.carte_record.specs.declared.entry.Entry.{Entry}
use Rattle.carte_record.specs.declared.trace.Trace.{Trace}
use Rattle.carte_record.specs.declared.deep_trace.DeepTrace.{DeepTrace}
use Rattle.carte_record.specs.declared.batch.Batch.{Batch}

abbrev pub spelled_names : List (List ℕ) → List ℕ
spelled_names = spelled_list spelled_name

abbrev pub FitsNames : List (List ℕ) → Type 0
FitsNames = FitsList FitsName

-- the kind of a body that is a batch of version 2 whose deep traces name rules
abbrev pub the_kind : Kind
the_kind = record {}

abbrev pub spelled_kind : Kind → List ℕ
spelled_kind k = 4 ∷ []

abbrev pub spelled_start : Start → List ℕ
spelled_start GoOn = 0 ∷ []
spelled_start Cleared = 2 ∷ []

abbrev pub FitsStart : Start → Type 0
FitsStart GoOn = Unit {0}
FitsStart Cleared = Unit {0}

-- the key, the digests of its task and of its value, whether it is shallow, and the names that it needs
abbrev pub spelled_entry : Entry → List ℕ
spelled_entry e = spelled_name e.key ++ (spelled_digest e.task ++ (spelled_digest e.result ++ (spelled_bool e.shallow ++ spelled_names e.needs)))

-- an entry of a batch isn't stale
abbrev pub IsUnmarked : Entry → Type 0
IsUnmarked e = e.stale ≡ false

abbrev pub FitsEntry : Entry → Type 0
FitsEntry e = FitsName e.key × FitsDigest e.task × FitsDigest e.result × FitsNames e.needs × IsUnmarked e

-- the key, the digest of its task, its links, and the digest of the result
abbrev pub spelled_trace : Trace → List ℕ
spelled_trace t = spelled_name t.key ++ (spelled_digest t.task ++ (spelled_list spelled_link t.links ++ spelled_digest t.result))

abbrev pub FitsTrace : Trace → Type 0
FitsTrace t = FitsName t.key × FitsDigest t.task × FitsList FitsLink t.links × FitsDigest t.result

-- the key, the rules beneath it with the digests of their tasks, its links, and the digest of the result
abbrev pub spelled_deep : DeepTrace → List ℕ
spelled_deep t = spelled_name t.key ++ (spelled_list spelled_link t.tasks ++ (spelled_list spelled_link t.links ++ spelled_digest t.result))

abbrev pub FitsDeep : DeepTrace → Type 0
FitsDeep t = FitsName t.key × FitsList FitsLink t.tasks × FitsList FitsLink t.links × FitsDigest t.result

-- what a batch begins with, the values, the names that are dropped, the names seen, the entries, and the keys that are stale
abbrev pub spelled_front : Batch → List ℕ
spelled_front b = spelled_start b.start ++ (spelled_list spelling b.values ++ (spelled_names b.gone ++ (spelled_list spelled_link b.seen ++ (spelled_list spelled_entry b.entries ++ spelled_names b.stale))))

abbrev pub FitsFront : Batch → Type 0
FitsFront b = FitsStart b.start × (FitsList IsValue b.values × (FitsNames b.gone × (FitsList FitsLink b.seen × (FitsList FitsEntry b.entries × FitsNames b.stale))))

-- the traces of the three kinds, and the chain
abbrev pub spelled_back : Batch → List ℕ
spelled_back b = spelled_list spelled_trace b.verifying ++ (spelled_list spelled_trace b.constructive ++ (spelled_list spelled_deep b.deep ++ spelled_option spelled_names b.chain))

abbrev pub FitsBack : Batch → Type 0
FitsBack b = FitsList FitsTrace b.verifying × (FitsList FitsTrace b.constructive × (FitsList FitsDeep b.deep × FitsOption FitsNames b.chain))

-- 4 for the kind, and the ten parts
abbrev pub spelled_batch : Batch → List ℕ
spelled_batch b = 4 ∷ (spelled_front b ++ spelled_back b)

-- what holds of each batch whose entries aren't stale: its names are names, its texts and its lists aren't too long
abbrev pub FitsBatch : Batch → Type 0
FitsBatch b = FitsFront b × FitsBack b

-- the bytes are the batch's, and nothing stands behind it
pub record IsBody (b : Batch) (body : List ℕ) : Type 0 where
  pub fits : FitsBatch b
  pub bytes : body ≡ spelled_batch b

-- the batch whose bytes these are, or none exactly where they are no batch's
abbrev pub IsDecoded : List ℕ → Result (Option Batch) NoMemory → Type 0
IsDecoded body (Ok (Some b)) = IsBody b body
IsDecoded body (Ok None) = (b : Batch) → ¬ (IsBody b body)
IsDecoded body (Err e) = Unit {0}

-- what was read, where nothing is left behind it
abbrev pub IsWhole : Batch → List ℕ → Option Batch → Type 0
IsWhole b rest (Some c) = (c ≡ b) × (rest ≡ [])
IsWhole b rest None = ¬ (rest ≡ [])

-- bytes are of one batch at most
abbrev pub OneBody : Type 0
OneBody = (b c : Batch) (body : List ℕ) → IsBody b body → IsBody c body → b ≡ c
