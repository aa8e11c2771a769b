-- Batches of version 1 that were read from bytes.
use Rattle.std.proofs.Common.{◌≡◌, ℕ, List, [], ◌++◌, sym, ◌∙◌, ap, append-nil, subst, Option, Some, None, Ok}
use Rattle.carte_record_one.specs.declared.batch.BatchOne.{BatchOne}
use Rattle.carte_record_one.specs.Bodies.{spelled_batch, FitsBatch, IsDecodedOne, IsWholeOne}
use Rattle.carte_record_one.specs.BodyLaws.{batch_one}

-- the whole bytes are a batch's exactly where nothing is left behind what was read
pub decoded : (b : BatchOne) (rest body : List ℕ) (o : Option BatchOne) → FitsBatch b → body ≡ spelled_batch b ++ rest → IsWholeOne b rest o → IsDecodedOne body (Ok o)
decoded b rest body (Some c) fits is (same, all) = record {
  fits = subst FitsBatch (sym same) fits;
  bytes = is ∙ ap (λ xs. spelled_batch b ++ xs) all ∙ append-nil (spelled_batch b) ∙ ap spelled_batch (sym same);
}
decoded b rest body None fits is more = λ c other. more (batch_one.one b c rest [] fits other.fits (sym is ∙ other.bytes ∙ sym (append-nil (spelled_batch c)))).1
