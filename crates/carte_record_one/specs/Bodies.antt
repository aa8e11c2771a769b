-- How batches of version 1 are spelled in bytes.
use Rattle.std.specs.Prelude.{ℕ, List, [], ◌∷◌, ◌++◌, ◌≡◌, false, Option, Some, None, Result, Ok, Err}
use Rattle.carte_value.specs.Spelling.{spelling, IsValue}
use Rattle.carte_name.specs.declared.NoMemory.{NoMemory}
use Rattle.carte_codec.specs.Parts.{spelled_name, FitsName, spelled_digest, FitsDigest, spelled_bool, spelled_option, FitsOption, spelled_list, FitsList, spelled_link, FitsLink}
use Rattle.carte_record.specs.Bodies.{spelled_names, FitsNames}
use Rattle.carte_record_one.specs.declared.codec.batch.Kind.{Kind}
use Rattle.carte_record_one.specs.declared.start.StartOne.{StartOne}
use Rattle.carte_record_one.specs.declared.start.StartOne.TheVariants.{GoOn, Anew, Cleared}
use Rattle.carte_record_one.specs.declared.entry.EntryOne.{EntryOne}
use Rattle.carte_record_one.specs.declared.trace.TraceOne.{TraceOne}
use Rattle.carte_record_one.specs.declared.batch.BatchOne.{BatchOne}

-- the kind of a body that is a batch of version 1
abbrev pub the_kind : Kind
the_kind = record {}

abbrev pub spelled_kind : Kind → List ℕ
spelled_kind k = 1 ∷ []

abbrev pub spelled_start : StartOne → List ℕ
spelled_start GoOn = 0 ∷ []
spelled_start (Anew d) = 1 ∷ spelled_digest d
spelled_start Cleared = 2 ∷ []

abbrev pub FitsStart : StartOne → Type 0
FitsStart GoOn = Unit {0}
FitsStart (Anew d) = FitsDigest d
FitsStart Cleared = Unit {0}

-- the key, the digest of its value, whether it is shallow, and the names that it needs
abbrev pub spelled_entry : EntryOne → List ℕ
spelled_entry e = spelled_name e.key ++ (spelled_digest e.result ++ (spelled_bool e.shallow ++ spelled_names e.needs))

-- an entry of a batch isn't stale
abbrev pub IsUnmarked : EntryOne → Type 0
IsUnmarked e = e.stale ≡ false

abbrev pub FitsEntry : EntryOne → Type 0
FitsEntry e = FitsName e.key × FitsDigest e.result × FitsNames e.needs × IsUnmarked e

-- the key, its links, and the digest of the result
abbrev pub spelled_trace : TraceOne → List ℕ
spelled_trace t = spelled_name t.key ++ (spelled_list spelled_link t.links ++ spelled_digest t.result)

abbrev pub FitsTrace : TraceOne → Type 0
FitsTrace t = FitsName t.key × FitsList FitsLink t.links × FitsDigest t.result

-- what a batch begins with, the values, the names seen, the keys that are stale, and the entries
abbrev pub spelled_front : BatchOne → List ℕ
spelled_front b = spelled_start b.start ++ (spelled_list spelling b.values ++ (spelled_list spelled_link b.seen ++ (spelled_names b.stale ++ spelled_list spelled_entry b.entries)))

abbrev pub FitsFront : BatchOne → Type 0
FitsFront b = FitsStart b.start × (FitsList IsValue b.values × (FitsList FitsLink b.seen × (FitsNames b.stale × FitsList FitsEntry b.entries)))

-- the traces of the three kinds, and the chain
abbrev pub spelled_back : BatchOne → List ℕ
spelled_back b = spelled_list spelled_trace b.verifying ++ (spelled_list spelled_trace b.constructive ++ (spelled_list spelled_trace b.deep ++ spelled_option spelled_names b.chain))

abbrev pub FitsBack : BatchOne → Type 0
FitsBack b = FitsList FitsTrace b.verifying × (FitsList FitsTrace b.constructive × (FitsList FitsTrace b.deep × FitsOption FitsNames b.chain))

-- 1 for the kind, and the nine parts
abbrev pub spelled_batch : BatchOne → List ℕ
spelled_batch b = 1 ∷ (spelled_front b ++ spelled_back b)

-- what holds of each batch whose entries aren't stale: its names are names, its texts and its lists aren't too long
abbrev pub FitsBatch : BatchOne → Type 0
FitsBatch b = FitsFront b × FitsBack b

-- the bytes are the batch's, and nothing stands behind it
pub record IsBodyOne (b : BatchOne) (body : List ℕ) : Type 0 where
  pub fits : FitsBatch b
  pub bytes : body ≡ spelled_batch b

-- the batch whose bytes these are, or none exactly where they are no batch's
abbrev pub IsDecodedOne : List ℕ → Result (Option BatchOne) NoMemory → Type 0
IsDecodedOne body (Ok (Some b)) = IsBodyOne b body
IsDecodedOne body (Ok None) = (b : BatchOne) → ¬ (IsBodyOne b body)
IsDecodedOne body (Err e) = Unit {0}

-- what was read, where nothing is left behind it
abbrev pub IsWholeOne : BatchOne → List ℕ → Option BatchOne → Type 0
IsWholeOne b rest (Some c) = (c ≡ b) × (rest ≡ [])
IsWholeOne b rest None = ¬ (rest ≡ [])

-- bytes are of one batch at most
abbrev pub OneBodyOne : Type 0
OneBodyOne = (b c : BatchOne) (body : List ℕ) → IsBodyOne b body → IsBodyOne c body → b ≡ c
