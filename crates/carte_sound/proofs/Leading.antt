-- A batch that a build leads to leaves what is kept sound, and what was done kept with its clean value.
use Rattle.std.proofs.Common.{◌≡◌, ℕ, Bool, true, false, not, cond, filter, List, [], ◌∷◌, ◌++◌, refl, sym, ◌∙◌, inl, inr, subst}
use Rattle.carte_value.specs.Truths.{Among, NoneTwice}
use Rattle.carte_value.proofs.Members.{apart_append}
use Rattle.carte_book.specs.Book.{Book}
use Rattle.carte_record.specs.declared.batch.Batch.{Batch}
use Rattle.carte_record.specs.Folds.{apply, is_among}
use Rattle.carte_record.specs.declared.way.Way.TheVariants.{Deep}
use Rattle.carte_record.specs.Kept.{SomeKept}
use Rattle.carte_sound.specs.Begun.{Beginning, IsBeginning, begin}
use Rattle.carte_sound.specs.Sound.{IsSound}
use Rattle.carte_sound.specs.Base.{HasDistinctDigests, IsBase}
use Rattle.carte_sound.specs.Finished.{IsFinishing}
use Rattle.carte_sound.specs.Held.{How, tracing}
use Rattle.carte_sound.specs.Marks.{IsFresh}
use Rattle.carte_sound.specs.Results.{IsKeptNow}
use Rattle.carte_sound.specs.Left.{Finishes, keys_of, add_all, left}
use Rattle.carte_sound.specs.LeadsTo.{Chaining, chain_behind, Brings}
use Rattle.carte_sound.proofs.Tests.{among_tested}
use Rattle.carte_sound.proofs.Begins.{has_last, behind_sound, begun_base}
use Rattle.carte_sound.proofs.Finishing.{among_finished}
use Rattle.carte_sound.proofs.LeftSound.{IsStation, finished_before, first_station, stations, left_base}

-- the new chain names no name twice where the old one and the finished keys don't
abbrev pub KeepsOnce : Chaining → Type 0
KeepsOnce chained = (ks old : List (List ℕ)) → NoneTwice ks → NoneTwice old → NoneTwice (chained ks old)

kept_among : (ks old : List (List ℕ)) (k : List ℕ) → Among (filter (λ j. not (is_among ks j)) old) k → Among old k
kept_among ks [] k here = here
kept_among ks (j ∷ old) k here = on (is_among ks j) here (kept_among ks old k)
  where
    on : (t : Bool) → Among (cond (not t) (j ∷ filter (λ i. not (is_among ks i)) old) (filter (λ i. not (is_among ks i)) old)) k → (Among (filter (λ i. not (is_among ks i)) old) k → Among old k) → Among (j ∷ old) k
    on true later rest = inr (rest later)
    on false (inl same) rest = inl same
    on false (inr later) rest = inr (rest later)

kept_apart : (ks old : List (List ℕ)) (k : List ℕ) → Among (filter (λ j. not (is_among ks j)) old) k → Among ks k → ⊥
kept_apart ks [] k here there = here
kept_apart ks (j ∷ old) k here there = on (is_among ks j) refl here (kept_apart ks old k)
  where
    on : (t : Bool) → is_among ks j ≡ t → Among (cond (not t) (j ∷ filter (λ i. not (is_among ks i)) old) (filter (λ i. not (is_among ks i)) old)) k → (Among (filter (λ i. not (is_among ks i)) old) k → Among ks k → ⊥) → ⊥
    on true is later rest = rest later there
    on false is (inl same) rest = let both : true ≡ false = sym (among_tested ks j (subst (Among ks) same there)) ∙ is in cc
    on false is (inr later) rest = rest later there

kept_once : (ks old : List (List ℕ)) → NoneTwice old → NoneTwice (filter (λ j. not (is_among ks j)) old)
kept_once ks [] once = tt
kept_once ks (j ∷ old) once = on (is_among ks j) (kept_once ks old once.1)
  where
    on : (t : Bool) → NoneTwice (filter (λ i. not (is_among ks i)) old) → NoneTwice (cond (not t) (j ∷ filter (λ i. not (is_among ks i)) old) (filter (λ i. not (is_among ks i)) old))
    on true rest = rest
    on false rest = ((λ here. once.0 (kept_among ks old j here)), rest)

-- finished keys before the others of the old chain
pub behind_once : KeepsOnce chain_behind
behind_once ks old once before = apart_append ks (filter (λ k. not (is_among ks k)) old) once (kept_once ks old before) (λ k here there. kept_apart ks old k there here)

-- what a build has left that marked, dropped, and finished what is done, by whatever batches
pub record HasLeft (h : How) (done : SomeKept → List ℕ → Type 0) (chained : Chaining) (K : SomeKept) (b : Book) (L : SomeKept) : Type 0 where
  pub begun : Beginning
  pub begins : IsBeginning K b begun
  pub finished : Finishes
  pub order : IsFinishing h b (begin K begun) (done (begin K begun)) finished
  pub is : L ≡ left h b (begin K begun) finished (chained (keys_of finished) K.chain)

module _ (h : How) (done : SomeKept → List ℕ → Type 0) (chained : Chaining) (K : SomeKept) (H : List Book) (b : Book) (L : SomeKept) (sound : IsSound K H) (distinct : HasDistinctDigests (H ++ b ∷ [])) where
  pub left_begun : (r : HasLeft h done chained K b L) → IsBase (begin K r.begun) b (H ++ b ∷ [])
  left_begun r = begun_base K b (H ++ b ∷ []) r.begun (behind_sound K H (b ∷ []) sound) (has_last H b) distinct r.begins

  left_station : (r : HasLeft h done chained K b L) → IsStation h b (H ++ b ∷ []) (begin K r.begun) (add_all h b (begin K r.begun) r.finished) (finished_before r.finished [])
  left_station r =
      let M = begin K r.begun in
      let base = left_begun r in
      stations h b (H ++ b ∷ []) M base r.finished M [] (first_station h b (H ++ b ∷ []) M base) r.order.finished

  -- what it leaves may be relied on
  pub left_relied : KeepsOnce chained → HasLeft h done chained K b L → IsBase L b (H ++ b ∷ [])
  left_relied once r =
      let M = begin K r.begun in
      let base = left_begun r in
      subst (λ N. IsBase N b (H ++ b ∷ [])) (sym r.is) (left_base h b (H ++ b ∷ []) M base r.finished (chained (keys_of r.finished) K.chain)
      (once (keys_of r.finished) K.chain r.order.once sound.chain) r.order.finished)

  -- what was done is kept with its clean value
  pub left_kept : (r : HasLeft h done chained K b L) → (k : List ℕ) → done (begin K r.begun) k → IsKeptNow L b k
  left_kept r k is_done =
      let x = (left_station r).kept k (among_finished r.finished [] k (inl (r.order.each k is_done))) in
      subst (λ N. IsKeptNow N b k) (sym r.is) (record { entry = x.entry; kept = x.kept; result = record { value = x.result.value; clean = x.result.clean; digest = x.result.digest; stored = x.result.stored } })

  -- but under deep traces it is fresh
  pub left_fresh : (r : HasLeft h done chained K b L) → ¬ (h ≡ tracing Deep) → (k : List ℕ) → done (begin K r.begun) k → IsFresh L k
  left_fresh r shallow k is_done =
      elim ((left_station r).finished) [
        | inl is_deep ↦ absurd (shallow is_deep)
        | inr all ↦
            let f = all k (among_finished r.finished [] k (inl (r.order.each k is_done))) in
            subst (λ N. IsFresh N k) (sym r.is) (record { entry = f.entry; kept = f.kept; fresh = f.fresh })
      ]

-- one batch
module _ (h : How) (done : SomeKept → List ℕ → Type 0) (chained : Chaining) (K : SomeKept) (b : Book) (B : Batch) where
  pub brings_left : (r : Brings h done chained K b B) → HasLeft h done chained K b (apply B K)
  brings_left r = record { begun = r.begun; begins = r.begins; finished = r.finished; order = r.order; is = r.applied }

module _ (h : How) (done : SomeKept → List ℕ → Type 0) (chained : Chaining) (K : SomeKept) (H : List Book) (b : Book) (B : Batch) (sound : IsSound K H) (distinct : HasDistinctDigests (H ++ b ∷ [])) where
  -- what it leaves is sound
  pub brings_sound : KeepsOnce chained → Brings h done chained K b B → IsSound (apply B K) (H ++ b ∷ [])
  brings_sound once r = (left_relied h done chained K H b (apply B K) sound distinct once (brings_left h done chained K b B r)).sound

  pub brings_kept : (r : Brings h done chained K b B) → (k : List ℕ) → done (begin K r.begun) k → IsKeptNow (apply B K) b k
  unfolding brings_left
  brings_kept r k is_done = left_kept h done chained K H b (apply B K) sound distinct (brings_left h done chained K b B r) k is_done
