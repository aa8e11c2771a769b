-- The live information as bodies.
use Rattle.std.proofs.Common.{ap, ◌≡◌, ℕ, ◌<◌, ◌≤◌, ◌^◌, false, zero, suc, List, [], ◌∷◌, ◌++◌, length, get_or, Option, Some, None, refl, inl, inr, arith}
use Rattle.std.specs.Prelude.{option_map}
use Rattle.carte_codec.specs.Each.{EachFits}
use Rattle.carte_journal.specs.Frames.{BodyAt}
use Rattle.carte_record.specs.declared.batch.Batch.{Batch}
use Rattle.carte_record.specs.declared.entry.Entry.{Entry}
use Rattle.carte_record.specs.declared.kept.Kept.{Kept}
use Rattle.carte_record.specs.Bodies.{IsBody, IsUnmarked}
use Rattle.carte_record.specs.Folds.{applied, apply}
use Rattle.carte_record.specs.Kept.{SomeKept, nothing_kept}
use Rattle.carte_record.specs.Lookups.{first_entry}
use Rattle.carte_record.specs.Marked.{marked_as}
use Rattle.carte_state.specs.Folding.{IsFolded, Makes}
use Rattle.carte_state.specs.Versions.{Fours, Fresh, InTwo}
use Rattle.carte_state.specs.declared.any.AnyBatch.TheVariants.{Four}
use Rattle.carte_state.specs.Runs.{AreUnmarked}
use Rattle.carte_compact.specs.Lengths.{AreBodies, AreShort, bodies_length, region_length}
use Rattle.carte_compact.specs.Live.{IsLive, entry_at, found_at, put}

-- ---- no entry of it is marked

found_unmarked : (es : List Entry) (ks : List (List ℕ)) → EachFits IsUnmarked (found_at (entry_at es) ks)
found_unmarked es [] = tt
found_unmarked es (k ∷ ks) = on (first_entry es k) (found_unmarked es ks)
  where
    on : (o : Option Entry) → EachFits IsUnmarked (found_at (entry_at es) ks) → EachFits IsUnmarked (put (option_map (marked_as false) o) (found_at (entry_at es) ks))
    on None rest = rest
    on (Some e) rest = (refl, rest)

pub are_unmarked : (K : Kept) (Bs : List Batch) → IsLive K Bs → AreUnmarked Bs
are_unmarked K Bs (inl (bare, none)) = rw none tt
are_unmarked K Bs (inr (some, live)) =
    let first : EachFits IsUnmarked live.first.entries = rw live.all.entries (found_unmarked K.entries live.keys) in
    rw live.batches (first, tt)

pub unmarked_at : (Bs : List Batch) (i : ℕ) (B : Batch) → AreUnmarked Bs → i < length Bs → B ≡ get_or Bs i B → EachFits IsUnmarked B.entries
unmarked_at [] i B all below is = absurd (omega arith)
unmarked_at (C ∷ Cs) zero B all below is = rw is all.0
unmarked_at (C ∷ Cs) (suc i) B all below is = unmarked_at Cs i B all.1 (omega arith) is

pub are_few : (K : Kept) (Bs : List Batch) → IsLive K Bs → length Bs ≤ 1
are_few K Bs (inl (bare, none)) = rw none (omega arith)
are_few K Bs (inr (some, live)) = rw live.batches (omega arith)

-- ---- bodies behind one another

pub bodies_more : (Bs : List Batch) (bodies : List BodyAt) (B : Batch) (body : BodyAt) → AreBodies Bs bodies → IsBody B body.1 → AreBodies (Bs ++ B ∷ []) (bodies ++ body ∷ [])
bodies_more [] [] B body are is = (is, tt)
bodies_more [] (c ∷ cs) B body are is = absurd are
bodies_more (C ∷ Cs) [] B body are is = absurd are
bodies_more (C ∷ Cs) (c ∷ cs) B body are is = (are.0, bodies_more Cs cs B body are.1 is)

pub short_more : (bodies : List BodyAt) (body : BodyAt) → AreShort bodies → length body.1 < 2 ^ 32 → AreShort (bodies ++ body ∷ [])
short_more [] body are is = (is, tt)
short_more (c ∷ cs) body are is = (are.0, short_more cs body are.1 is)

folded : (K : SomeKept) (Bs : List Batch) (bodies : List BodyAt) → AreBodies Bs bodies → IsFolded (Fours K) bodies (Fours (applied K Bs))
folded K [] [] are = refl
folded K [] (c ∷ cs) are = absurd are
folded K (B ∷ Bs) [] are = absurd are
folded K (B ∷ Bs) (c ∷ cs) are = (Four B, are.0, tt, folded (apply B K) Bs cs are.1)

pub makes : (Bs : List Batch) (bodies : List BodyAt) → AreBodies Bs bodies → Makes bodies (InTwo (applied nothing_kept Bs))
makes [] [] are = record { phase = Fresh; folded = refl; kept = refl }
makes [] (c ∷ cs) are = absurd are
makes (B ∷ Bs) [] are = absurd are
makes (B ∷ Bs) (c ∷ cs) are =
    record { phase = Fours (applied (apply B nothing_kept) Bs); folded = (Four B, are.0, tt, folded (apply B nothing_kept) Bs cs are.1); kept = refl }

pub as_long : (Bs : List Batch) (bodies : List BodyAt) → AreBodies Bs bodies → bodies_length bodies ≡ region_length Bs
as_long [] [] are = refl
as_long [] (c ∷ cs) are = absurd are
as_long (B ∷ Bs) [] are = absurd are
as_long (B ∷ Bs) (c ∷ cs) are = let one = ap length are.0.bytes in let rest = as_long Bs cs are.1 in omega (arith, one, rest)
