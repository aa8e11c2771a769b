-- Batches that were read from bytes.
use Rattle.std.proofs.Common.{◌≡◌, ℕ, List, [], ◌∷◌, ◌++◌, sym, ◌∙◌, ap, append-nil, append_assoc, subst, Option, Some, None, Ok}
use Rattle.carte_codec.specs.Each.{EachFits}
use Rattle.carte_record.specs.declared.batch.Batch.{Batch}
use Rattle.carte_record.specs.Bodies.{spelled_batch, FitsBatch, IsDecoded, IsWhole}
use Rattle.carte_record.specs.BodyLaws.{batch_one}

-- the whole bytes are a batch's exactly where nothing is left behind what was read
pub decoded : (b : Batch) (rest body : List ℕ) (o : Option Batch) → FitsBatch b → body ≡ spelled_batch b ++ rest → IsWhole b rest o → IsDecoded body (Ok o)
decoded b rest body (Some c) fits is (same, all) = record {
  fits = subst FitsBatch (sym same) fits;
  bytes = is ∙ ap (λ xs. spelled_batch b ++ xs) all ∙ append-nil (spelled_batch b) ∙ ap spelled_batch (sym same);
}
decoded b rest body None fits is more = λ c other. more (batch_one.one b c rest [] fits other.fits (sym is ∙ other.bytes ∙ sym (append-nil (spelled_batch c)))).1

-- where nothing is asked of an item
pub each_fits : {A : Type 0} (xs : List A) → EachFits (λ x. Unit {0}) xs
each_fits [] = tt
each_fits (x ∷ xs) = (tt, each_fits xs)

-- what is put behind some bytes, and what is put behind it
pub behind : (o a r : List ℕ) {p q : List ℕ} → p ≡ o ++ a → q ≡ p ++ r → q ≡ o ++ (a ++ r)
behind o a r first rest = rest ∙ ap (λ l. l ++ r) first ∙ append_assoc o a r
