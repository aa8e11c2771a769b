-- Each station of a build whose keys are committed part by part is sound, and the last one keeps what was done.
use Rattle.std.proofs.Common.{◌≡◌, ℕ, ◌<◌, ◌≤◌, List, [], ◌∷◌, ◌++◌, append-nil, arith, length, refl, ap, sym, ◌∙◌, subst}
use Rattle.std.specs.List.{flat_map}
use Rattle.std.proofs.lemmas.List.Concat.{flat_map-append}
use Rattle.carte_value.specs.Truths.{NoneTwice}
use Rattle.carte_book.specs.Book.{Book}
use Rattle.carte_record.specs.declared.batch.Batch.{Batch}
use Rattle.carte_record.specs.Folds.{applied, apply}
use Rattle.carte_record.specs.Kept.{SomeKept}
use Rattle.carte_sound.specs.Base.{HasDistinctDigests, IsBase}
use Rattle.carte_sound.specs.Begun.{Beginning, begin}
use Rattle.carte_sound.specs.Carries.{Carries}
use Rattle.carte_sound.specs.Finished.{AreFinished}
use Rattle.carte_sound.specs.Held.{How}
use Rattle.carte_sound.specs.LeadsTo.{Brings, Chaining, marks_left, traces_made}
use Rattle.carte_sound.specs.Left.{Finishes, keys_of, left}
use Rattle.carte_sound.specs.Parts.{AreOfParts, AreParts, AreSized, BringsParts, IsStationOf, full_part, later_chain}
use Rattle.carte_sound.specs.Results.{IsKeptNow}
use Rattle.carte_sound.specs.Sound.{IsSound}
use Rattle.carte_sound.proofs.Begins.{behind_sound, begun_base, has_last}
use Rattle.carte_sound.proofs.Leading.{HasLeft, KeepsOnce, left_kept}
use Rattle.carte_sound.proofs.LeftSound.{left_base}
use Rattle.carte_sound.proofs.Stations.{all_applied, first_applied, some_applied}

-- the front of finished keys
finished_front : (h : How) (b : Book) (M : SomeKept) (before : List (List ℕ)) (fs gs : Finishes) → AreFinished h b M before (fs ++ gs) → AreFinished h b M before fs
finished_front h b M before [] gs are = tt
finished_front h b M before (f ∷ fs) gs are = (are.0, finished_front h b M (f.0 ∷ before) fs gs are.1)

pub prefix_base : (h : How) (b : Book) (H : List Book) (M : SomeKept) (fs gs : Finishes) (chain : List (List ℕ)) → IsBase M b H → NoneTwice chain → AreFinished h b M [] (fs ++ gs) → IsBase (left h b M fs chain) b H
prefix_base h b H M fs gs chain base once are = left_base h b H M base fs chain once (finished_front h b M [] fs gs are)

-- where parts are left, keys are
behind_some : (done : List Finishes) (old new : List (List ℕ)) (after : List Finishes) → AreSized (done ++ after) → ¬ (done ≡ []) → later_chain old new after ≡ later_chain old new (flat_map (λ p. p) after)
behind_some done old new [] sized some = refl
behind_some [] old new (part ∷ parts) sized some = absurd (some refl)
behind_some (d ∷ []) old new ([] ∷ parts) sized some = let none : 0 < 0 = sized.1 in absurd (omega arith)
behind_some (d ∷ []) old new ((f ∷ fs) ∷ parts) sized some = refl
behind_some (d ∷ e ∷ done) old new (part ∷ parts) sized some = behind_some (e ∷ done) old new (part ∷ parts) sized.2 (λ is. cc)

-- the stations but the first
module _ (h : How) (b : Book) (K : SomeKept) (x : Beginning) (finished : Finishes) (chain : List (List ℕ)) (parts : List Finishes) (are : AreParts finished parts) where
  pub part_station : (B : Batch) (some rest : List Batch) → AreOfParts h b (begin K x) chain [] x parts (B ∷ some ++ rest) → IsStationOf h b (begin K x) finished chain (applied K (B ∷ some))
  part_station B some rest brought = on parts are brought
    where
      on : (ps : List Finishes) → AreParts finished ps → AreOfParts h b (begin K x) chain [] x ps (B ∷ some ++ rest) → IsStationOf h b (begin K x) finished chain (applied K (B ∷ some))
      on [] are brought = absurd are.sized
      on (part ∷ ps) are brought =
          let M = begin K x in
          let y = some_applied h b M chain ps some rest part (apply B K) (first_applied h b K x part (later_chain M.chain chain ps) B brought.0) brought.1 in
          let sized : AreSized ((part ∷ y.done) ++ y.after) = subst (λ qs. AreSized (part ∷ qs)) (sym y.all) are.sized in
          record {
            before = part ++ flat_map (λ p. p) y.done;
            after = flat_map (λ p. p) y.after;
            all = sym (flat_map-append (λ p. p) (part ∷ y.done) y.after) ∙ (ap (λ qs. part ++ flat_map (λ p. p) qs) y.all ∙ are.whole);
            station = y.station ∙ ap (λ ks. left h b M (part ++ flat_map (λ p. p) y.done) ks) (behind_some (part ∷ y.done) M.chain chain y.after sized (λ is. cc));
          }

  pub parts_applied : (Bs : List Batch) → AreOfParts h b (begin K x) chain [] x parts Bs → applied K Bs ≡ left h b (begin K x) finished chain
  parts_applied Bs brought = on parts are Bs brought
    where
      on : (ps : List Finishes) → AreParts finished ps → (Cs : List Batch) → AreOfParts h b (begin K x) chain [] x ps Cs → applied K Cs ≡ left h b (begin K x) finished chain
      on [] are Cs brought = absurd are.sized
      on (part ∷ ps) are [] brought = absurd brought
      on (part ∷ ps) are (B ∷ Cs) brought =
          let M = begin K x in
          all_applied h b M chain ps Cs part (apply B K) (first_applied h b K x part (later_chain M.chain chain ps) B brought.0) brought.1
          ∙ ap (λ fs. left h b M fs chain) are.whole

module _ (h : How) (done : SomeKept → List ℕ → Type 0) (chained : Chaining) (K : SomeKept) (b : Book) (Bs : List Batch) where
  pub parts_left : (r : BringsParts h done chained K b Bs) → HasLeft h done chained K b (applied K Bs)
  parts_left r = record {
    begun = r.begun;
    begins = r.begins;
    finished = r.finished;
    order = r.order;
    is = parts_applied h b K r.begun r.finished (chained (keys_of r.finished) K.chain) r.parts r.are_parts Bs r.batches;
  }

module _ (h : How) (done : SomeKept → List ℕ → Type 0) (chained : Chaining) (K : SomeKept) (H : List Book) (b : Book) (sound : IsSound K H) (distinct : HasDistinctDigests (H ++ b ∷ [])) (once : KeepsOnce chained) where
  station_sound : (B : Batch) (some rest : List Batch) → BringsParts h done chained K b (B ∷ some ++ rest) → IsSound (applied K (B ∷ some)) (H ++ b ∷ [])
  station_sound B some rest r =
      let M = begin K r.begun in
      let chain = chained (keys_of r.finished) K.chain in
      let base = begun_base K b (H ++ b ∷ []) r.begun (behind_sound K H (b ∷ []) sound) (has_last H b) distinct r.begins in
      let s = part_station h b K r.begun r.finished chain r.parts r.are_parts B some rest r.batches in
      subst (λ L. IsSound L (H ++ b ∷ [])) (sym s.station)
      (prefix_base h b (H ++ b ∷ []) M s.before s.after (later_chain M.chain chain s.after) base
      (chain_once M.chain chain s.after base.sound.chain (once (keys_of r.finished) K.chain r.order.once sound.chain))
      (subst (AreFinished h b M []) (sym s.all) r.order.finished)).sound
    where
      chain_once : (old new : List (List ℕ)) (fs : Finishes) → NoneTwice old → NoneTwice new → NoneTwice (later_chain old new fs)
      chain_once old new [] before after = after
      chain_once old new (f ∷ fs) before after = before

  -- and the last one keeps what was done
  pub parts_kept : (Bs : List Batch) (r : BringsParts h done chained K b Bs) (k : List ℕ) → done (begin K r.begun) k → IsKeptNow (applied K Bs) b k
  unfolding parts_left
  parts_kept Bs r k is_done = left_kept h done chained K H b (applied K Bs) sound distinct (parts_left h done chained K b Bs r) k is_done

  -- each station is sound
  pub stations_sound : (some rest : List Batch) → BringsParts h done chained K b (some ++ rest) → IsSound (applied K some) (H ++ b ∷ [])
  stations_sound [] rest r = behind_sound K H (b ∷ []) sound
  stations_sound (B ∷ some) rest r = station_sound B some rest r

-- one part is one batch
module _ (h : How) (done : SomeKept → List ℕ → Type 0) (chained : Chaining) (K : SomeKept) (b : Book) (B : Batch) where
  pub one_brings : BringsParts h done chained K b (B ∷ []) → Brings h done chained K b B
  one_brings r = on r.parts r.are_parts r.batches
    where
      on : (ps : List Finishes) → AreParts r.finished ps → AreOfParts h b (begin K r.begun) (chained (keys_of r.finished) K.chain) [] r.begun ps (B ∷ []) → Brings h done chained K b B
      on [] are brought = absurd are.sized
      on (part ∷ next ∷ ps) are brought = absurd brought.1
      on (part ∷ []) are brought =
          let same : part ≡ r.finished = sym (append-nil part) ∙ are.whole in
          let p = brought.0 in
          let chain = chained (keys_of r.finished) K.chain in
          record {
            begun = r.begun;
            begins = r.begins;
            finished = r.finished;
            order = r.order;
            start = p.starts;
            gone = p.gone;
            stale = p.stale ∙ ap (λ fs. marks_left fs r.begun) same;
            traces = λ w. p.traces w ∙ ap (λ fs. traces_made h b fs w) same;
            unmarked = p.unmarked;
            carries = subst (λ fs. Carries b (begin K r.begun) (left h b (begin K r.begun) fs chain) B) same p.carries;
            applied = first_applied h b K r.begun part chain B p ∙ ap (λ fs. left h b (begin K r.begun) fs chain) same;
          }

  pub few_parts : (r : Brings h done chained K b B) → length r.finished ≤ full_part → BringsParts h done chained K b (B ∷ [])
  few_parts r few = record {
    begun = r.begun;
    begins = r.begins;
    finished = r.finished;
    order = r.order;
    parts = r.finished ∷ [];
    are_parts = record { whole = append-nil r.finished; sized = few };
    batches = (
      record {
        starts = r.start;
        gone = r.gone;
        stale = r.stale;
        traces = r.traces;
        unmarked = r.unmarked;
        carries = r.carries;
      },
      tt,
    );
  }
