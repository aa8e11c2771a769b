-- A loop of batches, through the contract of one.
use Rattle.std.proofs.Common.{◌≡◌, ℕ, ◌+◌, ◌<◌, ◌≤◌, Bool, true, false, if◌then◌else◌, List, [], ◌∷◌, ◌++◌, length, map, map-id, take, drop, get_or, arith, refl, sym, ◌∙◌, ap, subst, append_assoc, append-nil}
use Rattle.carte_codec.specs.Each.{EachFits}
use Rattle.carte_io.specs.Disk.{CountsUp, Story, moments}
use Rattle.carte_io.specs.Stations.{Step, StepsThrough, calls_in, last_of}
use Rattle.carte_io.proofs.Acknowledged.{AreMade, calls_in-append, last_of-append, steps_further, steps_none, steps_then}
use Rattle.carte_io.proofs.Images.{throughout_none}
use Rattle.carte_journal.specs.Journals.{Standing, calls_of, committed}
use Rattle.carte_journal.proofs.Commits.{some_calls}
use Rattle.carte_record.specs.Bodies.{IsUnmarked, spelled_batch}
use Rattle.carte_record.specs.Folds.{applied, apply}
use Rattle.carte_record.specs.Kept.{SomeKept}
use Rattle.carte_record.specs.declared.batch.Batch.{Batch}
use Rattle.carte_record.specs.Empty.{is_empty}
use Rattle.carte_state.specs.Folding.{Keeps}
use Rattle.carte_state.specs.Runs.{AreUnmarked, BeginAll, EndsIn, applied_to, calls_of_all, journal_behind, steps_of}
use Rattle.carte_state.specs.States.{IsKeptOn, Stand, any_in, calls_for, journal_after, step_for}
use Rattle.carte_state.specs.Versions.{AnyKept, Begins, InTwo, apply_to, two_of}
use Rattle.carte_state.proofs.Applies.{kept_leaves}
use Rattle.carte_state.proofs.Beginnings.{two_after, two_begins, two_on}
use Rattle.carte_state.proofs.Folds.{cut_at}

pub applied-append : (K : SomeKept) (Bs Cs : List Batch) → applied K (Bs ++ Cs) ≡ applied (applied K Bs) Cs
applied-append K [] Cs = refl
applied-append K (B ∷ Bs) Cs = applied-append (apply B K) Bs Cs

applied_to-append : (K : AnyKept) (Bs Cs : List Batch) → applied_to K (Bs ++ Cs) ≡ applied_to (applied_to K Bs) Cs
applied_to-append K [] Cs = refl
applied_to-append K (B ∷ Bs) Cs = applied_to-append (apply_to B K) Bs Cs

journal_behind-append : (j : Standing) (Bs Cs : List Batch) → journal_behind j (Bs ++ Cs) ≡ journal_behind (journal_behind j Bs) Cs
journal_behind-append j [] Cs = refl
journal_behind-append j (B ∷ Bs) Cs = journal_behind-append (journal_after j B) Bs Cs

calls_of_all-push : (j : Standing) (Bs : List Batch) (B : Batch) → calls_of_all j (Bs ++ B ∷ []) ≡ calls_of_all j Bs + calls_for (journal_behind j Bs) B
calls_of_all-push j [] B = omega arith
calls_of_all-push j (C ∷ Bs) B = omega (arith, calls_of_all-push (journal_after j C) Bs B)

-- a journal that isn't broken, after a batch
whole_if : (empty : Bool) (j k : Standing) → j.broken ≡ false → k.broken ≡ false → (if empty then j else k).broken ≡ false
whole_if true j k old new = old
whole_if false j k old new = new

pub whole_after : (j : Standing) (B : Batch) → j.broken ≡ false → (journal_after j B).broken ≡ false
whole_after j B whole = whole_if (is_empty B) j (committed j (spelled_batch B)) whole refl

-- one batch as steps
module _ (j : Standing) (K : AnyKept) (B : Batch) where
  calls_if : (empty : Bool) → calls_in (if empty then [] else let step : Step AnyKept = record { calls = calls_of j; to = InTwo (apply B (two_of K)) } in step ∷ [])
      ≡ (if empty then 0 else calls_of j)
  calls_if true = refl
  calls_if false = omega arith

  calls_in-step_for : calls_in (step_for j K B) ≡ calls_for j B
  calls_in-step_for = calls_if (is_empty B)

  last_if : (empty : Bool) → last_of K (if empty then [] else let step : Step AnyKept = record { calls = calls_of j; to = InTwo (apply B (two_of K)) } in step ∷ [])
      ≡ (if empty then K else InTwo (apply B (two_of K)))
  last_if true = refl
  last_if false = refl

  last_of-step_for : last_of K (step_for j K B) ≡ apply_to B K
  last_of-step_for = last_if (is_empty B)

  made_if : (empty : Bool) (step : Step AnyKept) → 0 < step.calls → AreMade (if empty then [] else step ∷ [])
  made_if true step some = tt
  made_if false step some = (some, tt)

  pub made_step_for : AreMade (step_for j K B)
  made_step_for = made_if (is_empty B) (record { calls = calls_of j; to = InTwo (apply B (two_of K)) }) (omega (arith, some_calls j.fresh))

are_made : {A : Type 0} (bs cs : List (Step A)) → AreMade bs → AreMade cs → AreMade (bs ++ cs)
are_made [] cs made more = more
are_made (b ∷ bs) cs made more = (made.0, are_made bs cs made.1 more)

made_steps_of : (j : Standing) (K : AnyKept) (Bs : List Batch) → AreMade (steps_of j K Bs)
made_steps_of j K [] = tt
made_steps_of j K (B ∷ Bs) = are_made (step_for j K B) (steps_of (journal_after j B) (apply_to B K) Bs) (made_step_for j K B) (made_steps_of (journal_after j B) (apply_to B K) Bs)

pub calls_in-steps_of : (j : Standing) (K : AnyKept) (Bs : List Batch) → calls_in (steps_of j K Bs) ≡ calls_of_all j Bs
calls_in-steps_of j K [] = refl
calls_in-steps_of j K (B ∷ Bs) =
    omega (
      arith,
      calls_in-append (step_for j K B) (steps_of (journal_after j B) (apply_to B K) Bs),
      calls_in-step_for j K B,
      calls_in-steps_of (journal_after j B) (apply_to B K) Bs,
    )

pub last_of-steps_of : (j : Standing) (K : AnyKept) (Bs : List Batch) → last_of K (steps_of j K Bs) ≡ applied_to K Bs
last_of-steps_of j K [] = refl
last_of-steps_of j K (B ∷ Bs) =
    last_of-append K (step_for j K B) (steps_of (journal_after j B) (apply_to B K) Bs)
    ∙ ap (λ L. last_of L (steps_of (journal_after j B) (apply_to B K) Bs)) (last_of-step_for j K B)
    ∙ last_of-steps_of (journal_after j B) (apply_to B K) Bs

pub steps_of-append : (j : Standing) (K : AnyKept) (Bs Cs : List Batch)
    → steps_of j K (Bs ++ Cs) ≡ steps_of j K Bs ++ steps_of (journal_behind j Bs) (applied_to K Bs) Cs
steps_of-append j K [] Cs = refl
steps_of-append j K (B ∷ Bs) Cs =
    ap (λ qs. step_for j K B ++ qs) (steps_of-append (journal_after j B) (apply_to B K) Bs Cs)
    ∙ sym (append_assoc (step_for j K B) (steps_of (journal_after j B) (apply_to B K) Bs) (steps_of (journal_behind (journal_after j B) Bs) (applied_to (apply_to B K) Bs) Cs))

steps_of-push : (j : Standing) (K : AnyKept) (Bs : List Batch) (B : Batch)
    → steps_of j K (Bs ++ B ∷ []) ≡ steps_of j K Bs ++ step_for (journal_behind j Bs) (applied_to K Bs) B
steps_of-push j K Bs B = steps_of-append j K Bs (B ∷ []) ∙ ap (λ qs. steps_of j K Bs ++ qs) (append-nil (step_for (journal_behind j Bs) (applied_to K Bs) B))

-- what was applied so far, and is kept on the disk
pub record SoFar (limit : ℕ) (j : Standing) (K : AnyKept) (done : List Batch) (now : Stand) (s t : Story) : Type 0 where
  pub on : IsKeptOn now t
  pub made : t.now.passed ≡ s.now.passed + calls_of_all j done
  pub steps : StepsThrough (Keeps limit) K (steps_of j K done) s t

-- none yet
pub none_yet : (state : Stand) (s : Story) → IsKeptOn state s → SoFar state.journal.limit state.journal (any_in state) [] state s s
none_yet state s on = record {
  on = on;
  made = omega arith;
  steps = steps_none (Keeps state.journal.limit) (any_in state) s s (throughout_none s s _ refl (kept_leaves state s on));
}

-- a list, cut at the item behind those that were done
pub cut_behind : {A : Type 0} (xs done : List A) (x : A) → map (λ y. y) done ≡ take (length done) xs → (length done < length xs) × (x ≡ get_or xs (length done) x)
    → xs ≡ done ++ x ∷ drop (length done + 1) xs
cut_behind xs done x so turn =
    cut_at xs (length done) x turn.0 turn.1 ∙ ap (λ front. front ++ x ∷ drop (length done + 1) xs) (sym so ∙ map-id done)

unmarked_at : (done rest : List Batch) (B : Batch) → AreUnmarked (done ++ B ∷ rest) → EachFits IsUnmarked B.entries
unmarked_at [] rest B unmarked = unmarked.0
unmarked_at (C ∷ done) rest B unmarked = unmarked_at done rest B unmarked.1

pub unmarked_in : (Bs done rest : List Batch) (B : Batch) → Bs ≡ done ++ B ∷ rest → AreUnmarked Bs → EachFits IsUnmarked B.entries
unmarked_in Bs done rest B all unmarked = unmarked_at done rest B (subst AreUnmarked all unmarked)

-- what is kept after one batch more
pub kept_further : (K : SomeKept) (done : List Batch) (B : Batch) (now L : SomeKept) → now ≡ applied K done → L ≡ apply B now → L ≡ applied K (done ++ B ∷ [])
kept_further K done B now L kept so = so ∙ ap (apply B) kept ∙ sym (applied-append K done (B ∷ []))

-- the next one may be applied
begins_at : (K : AnyKept) (done rest : List Batch) (B : Batch) → BeginAll K (done ++ B ∷ rest) → Begins (applied_to K done) B
begins_at K [] rest B begin = begin
begins_at K (C ∷ done) rest B begin = two_begins (applied_to (apply_to C K) done) B (two_on (apply_to C K) done (two_after K C begin))

pub begins_in : (K now : AnyKept) (Bs done rest : List Batch) (B : Batch) → Bs ≡ done ++ B ∷ rest → now ≡ applied_to K done → BeginAll K Bs → Begins now B
begins_in K now Bs done rest B all is begin = subst (λ L. Begins L B) (sym is) (begins_at K done rest B (subst (BeginAll K) all begin))

module _ (limit : ℕ) (j : Standing) (K : AnyKept) (done : List Batch) (B : Batch)
    (now : Stand) (place : now.journal ≡ journal_behind j done) (kept : any_in now ≡ applied_to K done) where
  -- the place, what is kept and the calls after one batch more
  pub place_further : (after : Standing) → after ≡ journal_after now.journal B → after ≡ journal_behind j (done ++ B ∷ [])
  place_further after so = so ∙ ap (λ k. journal_after k B) place ∙ sym (journal_behind-append j done (B ∷ []))

  pub any_further : (L : AnyKept) → L ≡ apply_to B (any_in now) → L ≡ applied_to K (done ++ B ∷ [])
  any_further L so = so ∙ ap (apply_to B) kept ∙ sym (applied_to-append K done (B ∷ []))

  pub made_further : (before mid after : ℕ) → mid ≡ before + calls_of_all j done → after ≡ mid + calls_for now.journal B
      → after ≡ before + calls_of_all j (done ++ B ∷ [])
  made_further before mid after made more = omega (arith, made, more, ap (λ k. calls_for k B) place, calls_of_all-push j done B)

  -- where it ended early
  pub ends_in : (Bs rest : List Batch) → Bs ≡ done ++ B ∷ rest → (before mid after : ℕ) → mid ≡ before + calls_of_all j done → mid ≤ after
      → after < mid + calls_for now.journal B → EndsIn j Bs before after
  ends_in Bs rest all before mid after made le fewer = record {
    done = done;
    next = B;
    rest = rest;
    all = all;
    made = omega (arith, made, le);
    fewer = omega (arith, made, fewer, ap (λ k. calls_for k B) place);
  }

  module _ (s t u : Story) (so : SoFar limit j K done now s t) (up : CountsUp (moments u))
      (more : StepsThrough (Keeps limit) (any_in now) (step_for now.journal (any_in now) B) t u) where
    -- one batch more, whether it was applied or not
    step_further : StepsThrough (Keeps limit) K (steps_of j K (done ++ B ∷ [])) s u
    step_further =
        let k : Standing = journal_behind j done in
        let L : AnyKept = applied_to K done in
        let at_k : StepsThrough (Keeps limit) (any_in now) (step_for k (any_in now) B) t u =
        subst (λ n. StepsThrough (Keeps limit) (any_in now) (step_for n (any_in now) B) t u) place more in
        let at_L : StepsThrough (Keeps limit) L (step_for k L B) t u = subst (λ M. StepsThrough (Keeps limit) M (step_for k M B) t u) kept at_k in
        subst (λ qs. StepsThrough (Keeps limit) K qs s u) (sym (steps_of-push j K done B))
        (steps_then (Keeps limit) K (steps_of j K done) (step_for k L B) s t u so.steps
        (omega (arith, so.made, calls_in-steps_of j K done)) up (made_step_for k L B)
        (subst (λ M. StepsThrough (Keeps limit) M (step_for k L B) t u) (sym (last_of-steps_of j K done)) at_L))

    pub one_more : (new : Stand) → IsKeptOn new u → u.now.passed ≡ t.now.passed + calls_for now.journal B → SoFar limit j K (done ++ B ∷ []) new s u
    one_more new on made = record {
      on = on;
      made = omega (arith, made, so.made, calls_of_all-push j done B, ap (λ k. calls_for k B) place);
      steps = step_further;
    }

    -- before the others
    pub steps_to : (Bs rest : List Batch) → Bs ≡ done ++ B ∷ rest → u.now.passed < t.now.passed + calls_for now.journal B
        → StepsThrough (Keeps limit) K (steps_of j K Bs) s u
    steps_to Bs rest all fewer =
        let more : List Batch = done ++ B ∷ [] in
        subst (λ Cs. StepsThrough (Keeps limit) K (steps_of j K Cs) s u) (append_assoc done (B ∷ []) rest ∙ sym all)
        (subst (λ qs. StepsThrough (Keeps limit) K qs s u) (sym (steps_of-append j K more rest))
        (steps_further (Keeps limit) K (steps_of j K more) (steps_of (journal_behind j more) (applied_to K more) rest) s u step_further up
        (made_steps_of (journal_behind j more) (applied_to K more) rest)
        (omega (arith, fewer, so.made, calls_in-steps_of j K more, calls_of_all-push j done B, ap (λ k. calls_for k B) place))))
