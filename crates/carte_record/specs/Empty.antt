-- Batches with nothing in them, and lists in which nothing is kept.
use Rattle.std.specs.Prelude.{Bool, true, false, ◌&&◌, ◌==◌, ◌≡◌, length, is_none}
use Rattle.carte_record.specs.declared.start.Start.{Start}
use Rattle.carte_record.specs.declared.start.Start.TheVariants.{GoOn, Cleared}
use Rattle.carte_record.specs.declared.batch.Batch.{Batch}
use Rattle.carte_record.specs.declared.kept.Kept.{Kept}
use Rattle.carte_record.specs.Kept.{SomeKept}
use Rattle.carte_record.specs.Folds.{apply}

abbrev pub goes_on : Start → Bool
goes_on GoOn = true
goes_on Cleared = false

abbrev pub brings_no_key : Batch → Bool
brings_no_key B = ((length B.values == 0 && length B.gone == 0) && length B.seen == 0) && (length B.entries == 0 && length B.stale == 0)

abbrev pub brings_no_trace : Batch → Bool
brings_no_trace B = (length B.verifying == 0 && length B.constructive == 0) && length B.deep == 0

abbrev pub is_empty : Batch → Bool
is_empty B = ((goes_on B.start && is_none B.chain) && brings_no_key B) && brings_no_trace B

-- such a batch changes nothing
abbrev pub EmptyChangesNothing : Type 0
EmptyChangesNothing = (B : Batch) (K : SomeKept) → is_empty B ≡ true → apply B K ≡ K

-- it begins with all that is kept
abbrev pub drops_nothing : Batch → Bool
drops_nothing B = goes_on B.start && length B.gone == 0

-- no list of what is kept has an item
abbrev pub is_bare : Kept → Bool
is_bare K = (length K.chain == 0 && (length K.seen == 0 && length K.entries == 0))
    && ((length K.verifying == 0 && length K.constructive == 0) && (length K.deep == 0 && length K.values == 0))
