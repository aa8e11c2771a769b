-- Batches of kind 3 that were read from bytes.
use Rattle.std.proofs.Common.{◌≡◌, ℕ, List, [], ◌++◌, refl, sym, ◌∙◌, ap, append-nil, subst, Option, Some, None, Result, Ok, Err}
use Rattle.std.specs.Prelude.{IfOk}
use Rattle.carte_name.specs.declared.NoMemory.{NoMemory}
use Rattle.carte_codec.specs.Spellings.{IsNotAhead}
use Rattle.carte_record.specs.declared.batch.Batch.{Batch}
use Rattle.carte_record.specs.Three.{spelled_three, FitsThree, IsBodyThree, IsDecodedThree}
use Rattle.carte_record.specs.ThreeLaws.{PartsThree, spelled_parts_three, FitsPartsThree, three_parts, batch_three, deep_in, three_one, IsWholeThree}

-- the whole bytes are such a batch's exactly where nothing is left behind what was read
decoded_three : (p : PartsThree) (rest body : List ℕ) (o : Option Batch) → FitsThree (batch_three p) (deep_in p) → body ≡ spelled_three (batch_three p) (deep_in p) ++ rest → IsWholeThree p rest o → IsDecodedThree body (Ok o)
decoded_three p rest body (Some b) fits is (same, all) = subst (λ c. IsBodyThree c body) (sym same) (record {
  deep = deep_in p;
  none = refl;
  fits = fits;
  bytes = is ∙ ap (λ xs. spelled_three (batch_three p) (deep_in p) ++ xs) all ∙ append-nil (spelled_three (batch_three p) (deep_in p));
})
decoded_three p rest body None fits is more = λ c other.
    more (three_one.one (batch_three p, deep_in p) (c, other.deep) rest [] (refl, fits) (other.none, other.fits) (sym is ∙ other.bytes ∙ sym (append-nil (spelled_three c other.deep)))).1

pub read_three : (p : PartsThree) (rest body : List ℕ) (r : Result (Option Batch) NoMemory) → FitsThree (batch_three p) (deep_in p) → body ≡ spelled_three (batch_three p) (deep_in p) ++ rest → IfOk r (IsWholeThree p rest) → IsDecodedThree body r
read_three p rest body (Ok o) fits is whole = decoded_three p rest body o fits is whole
read_three p rest body (Err e) fits is whole = tt

-- where their parts aren't there, they are no such batch's
pub none_three : (body : List ℕ) → IsNotAhead spelled_parts_three FitsPartsThree body → (b : Batch) → ¬ (IsBodyThree b body)
none_three body none b is = none (three_parts b is.deep) [] (tt, is.fits) (is.bytes ∙ sym (append-nil (spelled_three b is.deep)))
