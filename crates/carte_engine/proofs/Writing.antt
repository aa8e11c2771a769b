-- Batches that are only written, one after another.
use Rattle.std.proofs.Common.{◌≡◌, ℕ, ◌≤◌, Bool, true, false, List, [], ◌∷◌, ◌++◌, Result, Ok, Err, refl, sym, ap, ◌∙◌, subst, inl, arith, append_assoc}
use Rattle.std.specs.Prelude.{◌&&◌, ◌||◌, not, nat_lt, is_some}
use Rattle.std.proofs.lemmas.Bool.{ltb-true}
use Rattle.carte_io.specs.Disk.{Story}
use Rattle.carte_journal.specs.Journals.{Standing, needed_for}
use Rattle.carte_journal.specs.Regions.{told_bank}
use Rattle.carte_record.specs.Bodies.{spelled_batch}
use Rattle.carte_record.specs.Empty.{is_empty}
use Rattle.carte_record.specs.declared.batch.Batch.{Batch}
use Rattle.carte_record.specs.declared.kept.Kept.{Kept}
use Rattle.carte_compact.specs.Due.{is_large, is_over, is_possible}
use Rattle.carte_compact.specs.Lengths.{region_length}
use Rattle.carte_state.specs.Applying.{Applies}
use Rattle.carte_state.specs.States.{Stand}
use Rattle.carte_state.specs.Writing.{FitInTurn, Writes, stand_of}
use Rattle.carte_state.specs.declared.fault.ApplyFault.{ApplyFault}
use Rattle.carte_engine.specs.Committing.{Commits, IsNotDue, StopsAt, is_first}
use Rattle.carte_engine.specs.Writing.{MayWrite}
use Rattle.carte_engine.proofs.Committing.{applies_seen}
use Rattle.carte_engine.proofs.Looping.{SoFar, one_put, one_stopped}

-- ---- no rewriting is due

never : (not_old filled possible : Bool) → (not_old && (filled && (possible && false))) ≡ false
never true true true = refl
never true true false = refl
never true false possible = refl
never false filled possible = refl

over_none : (limit needs : ℕ) → needs ≤ limit → nat_lt limit needs ≡ false
over_none limit needs fits = on (nat_lt limit needs) refl
  where
    on : (over : Bool) → nat_lt limit needs ≡ over → over ≡ false
    on true is = absurd (omega (arith, ltb-true limit needs is, fits))
    on false is = refl

later_undue : (s : Stand) (B : Batch) → needed_for s.journal (spelled_batch B) ≤ s.journal.limit → IsNotDue false s B
later_undue s B fits live is =
    let over : is_over s B ≡ false = over_none s.journal.limit (needed_for s.journal (spelled_batch B)) fits in
    ap (λ o. not (is_some s.one) && (not (is_empty B) && (is_possible s.journal (region_length live) && (o || (false && is_large (told_bank s.journal) (region_length live)))))) over
    ∙ never (not (is_some s.one)) (not (is_empty B)) (is_possible s.journal (region_length live))

-- ---- those so far

-- what there is behind those that were written: lists for what is kept, and room for the rest
pub record WroteTo (tells : Type 0) (before after : Story) (failed_before failed : ℕ) (start : Stand) (all done : List Batch) (j : Standing) : Type 0 where
  pub lists : Kept
  pub so_far : SoFar tells before after failed_before failed start done (stand_of j lists)
  pub fits : (rest : List Batch) → all ≡ done ++ rest → FitInTurn j rest
  pub whole : j.broken ≡ false

-- at the start
pub none_written : (tells : Type 0) (before : Story) (failed_before : ℕ) (start : Stand) (all : List Batch) → MayWrite start all → start.journal.broken ≡ false
    → WroteTo tells before before failed_before failed_before start all [] start.journal
none_written tells before failed_before start all may whole = record {
  lists = start.kept;
  so_far = ((λ i. record { journal = start.journal; kept = start.kept; one = sym may.two i }), refl, refl);
  fits = λ rest is. subst (FitInTurn start.journal) is may.fits;
  whole = whole;
}

module _ (tells : Type 0) (before after : Story) (failed_before failed : ℕ) (start : Stand) (all : List Batch) (may : MayWrite start all) where
  module _ (done : List Batch) (j : Standing) (wrote : WroteTo tells before after failed_before failed start all done j) (B : Batch) (rest : List Batch) (is : all ≡ done ++ B ∷ rest) where
    undue_in : (done : List Batch) → SoFar tells before after failed_before failed start done (stand_of j wrote.lists) → all ≡ done ++ B ∷ rest → needed_for j (spelled_batch B) ≤ j.limit → IsNotDue (is_first done) (stand_of j wrote.lists) B
    undue_in [] so is fits = subst (λ (s : Stand). IsNotDue true s B) (sym so.0) (may.undue B rest is)
    undue_in (C ∷ done) so is fits = later_undue (stand_of j wrote.lists) B fits

    -- one batch more was written, or wasn't
    pub as_commit : (new : Story) (now : ℕ) (same : Type 0) (j' : Standing) (L : Kept) (result : Result (Unit {0}) ApplyFault)
        → Applies (record { tells = tells; old = after; new = new; failed_before = failed; failed = now; same = same }) (stand_of j wrote.lists) (stand_of j' L) B result
        → Commits (is_first done) (record { tells = tells; old = after; new = new; failed_before = failed; failed = now; same = same }) (stand_of j wrote.lists) (stand_of j' L) B result
    as_commit new now same j' L result applies = inl (record {
      base = stand_of j wrote.lists;
      between = after;
      ready = inl (undue_in done wrote.so_far is (wrote.fits (B ∷ rest) is).0, refl, refl, refl);
      applies = applies_seen (record { tells = tells; old = after; new = new; failed_before = failed; failed = now; same = same }) (stand_of j wrote.lists) (stand_of j' L) B result applies;
    })

    pub one_written : (new : Story) (now : ℕ) (same : Type 0) (j' : Standing) → Writes (record { tells = tells; old = after; new = new; failed_before = failed; failed = now; same = same }) j j' B (Ok tt)
        → WroteTo tells before new failed_before now start all (done ++ B ∷ []) j'
    one_written new now same j' writes =
        let L = writes wrote.lists in
        record {
          lists = L.0;
          so_far = one_put tells before after new failed_before failed now same start done (stand_of j wrote.lists) B (stand_of j' L.0) wrote.so_far (as_commit new now same j' L.0 (Ok tt) L.1);
          fits = λ rest' is'. subst (λ k. FitInTurn k rest') (sym L.1.comes.after.journal) (wrote.fits (B ∷ rest') (is' ∙ append_assoc done (B ∷ []) rest')).1;
          whole = L.1.comes.whole;
        }

    pub one_unwritten : (new : Story) (now : ℕ) (same other : Type 0) (j' : Standing) (fault : ApplyFault) → Writes (record { tells = tells; old = after; new = new; failed_before = failed; failed = now; same = same }) j j' B (Err fault)
        → (stand : Stand) × StopsAt (record { tells = tells; old = before; new = new; failed_before = failed_before; failed = now; same = other }) start all stand fault
    one_unwritten new now same other j' fault writes =
        let L = writes wrote.lists in (
          stand_of j' L.0,
          one_stopped tells before after new failed_before failed now same start done (stand_of j wrote.lists) B (stand_of j' L.0) wrote.so_far other all rest fault is
              (as_commit new now same j' L.0 (Err fault) L.1),
        )
