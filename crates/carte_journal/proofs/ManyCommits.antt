-- A loop of commits, through the contract of one.
use Rattle.std.proofs.Common.{◌≡◌, ℕ, ◌+◌, ◌<◌, ◌≤◌, List, [], ◌∷◌, ◌++◌, length, take, drop, get_or, arith, refl, sym, ◌∙◌, ap, subst, append_assoc, append-nil}
use Rattle.std.proofs.lemmas.List.{drop_more, take_more, take-append-drop}
use Rattle.carte_io.specs.Disk.{CountsUp, Story, moments}
use Rattle.carte_io.specs.Stations.{StepsThrough, calls_in, last_of}
use Rattle.carte_io.proofs.Acknowledged.{steps_more, steps_none, steps_short}
use Rattle.carte_io.proofs.Images.{leaves_none}
use Rattle.carte_journal.specs.Frames.{BodyAt, Ends}
use Rattle.carte_journal.specs.Journals.{IsAtRest, IsReadAs, Standing, calls_of, committed, step_of}
use Rattle.carte_journal.proofs.Commits.{rest_leaves, some_calls}
use Rattle.carte_journal.specs.Runs.{EndsIn, RestsAfter, calls_for, committed_all, placed, steps_of}

committed_all-push : (j : Standing) (bs : List (List ℕ)) (b : List ℕ) → committed_all j (bs ++ b ∷ []) ≡ committed (committed_all j bs) b
committed_all-push j [] b = refl
committed_all-push j (x ∷ bs) b = committed_all-push (committed j x) bs b

placed-push : (j : Standing) (bs : List (List ℕ)) (b : List ℕ) → placed j (bs ++ b ∷ []) ≡ placed j bs ++ ((committed_all j bs).gate, b) ∷ []
placed-push j [] b = refl
placed-push j (x ∷ bs) b = ap (λ ps. (j.gate, x) ∷ ps) (placed-push (committed j x) bs b)

calls_for-push : (j : Standing) (bs : List (List ℕ)) (b : List ℕ) → calls_for j (bs ++ b ∷ []) ≡ calls_for j bs + calls_of (committed_all j bs)
calls_for-push j [] b = omega arith
calls_for-push j (x ∷ bs) b = omega (arith, calls_for-push (committed j x) bs b)

pub limit_kept : (j : Standing) (bs : List (List ℕ)) → (committed_all j bs).limit ≡ j.limit
limit_kept j [] = refl
limit_kept j (x ∷ bs) = limit_kept (committed j x) bs

calls_in-steps_of : (j : Standing) (bodies : List BodyAt) (bs : List (List ℕ)) → calls_in (steps_of j bodies bs) ≡ calls_for j bs
calls_in-steps_of j bodies [] = refl
calls_in-steps_of j bodies (x ∷ bs) = ap (λ n. calls_of j + n) (calls_in-steps_of (committed j x) (bodies ++ (j.gate, x) ∷ []) bs)

last_of-steps_of : (j : Standing) (bodies : List BodyAt) (bs : List (List ℕ))
    → last_of (Ends j.gate bodies) (steps_of j bodies bs) ≡ Ends (committed_all j bs).gate (bodies ++ placed j bs)
last_of-steps_of j bodies [] = ap (Ends j.gate) (sym (append-nil bodies))
last_of-steps_of j bodies (x ∷ bs) =
    last_of-steps_of (committed j x) (bodies ++ (j.gate, x) ∷ []) bs
    ∙ ap (Ends (committed_all (committed j x) bs).gate) (append_assoc bodies ((j.gate, x) ∷ []) (placed (committed j x) bs))

steps_of-append : (j : Standing) (bodies : List BodyAt) (bs cs : List (List ℕ))
    → steps_of j bodies (bs ++ cs) ≡ steps_of j bodies bs ++ steps_of (committed_all j bs) (bodies ++ placed j bs) cs
steps_of-append j bodies [] cs = ap (λ xs. steps_of j xs cs) (sym (append-nil bodies))
steps_of-append j bodies (x ∷ bs) cs =
    ap (λ qs. step_of j bodies x ∷ qs)
    (steps_of-append (committed j x) (bodies ++ (j.gate, x) ∷ []) bs cs
    ∙ ap (λ xs. steps_of (committed j x) (bodies ++ (j.gate, x) ∷ []) bs ++ steps_of (committed_all (committed j x) bs) xs cs)
    (append_assoc bodies ((j.gate, x) ∷ []) (placed (committed j x) bs)))

-- what was committed so far, at rest on the disk
pub record SoFar (j : Standing) (bodies : List BodyAt) (done : List (List ℕ)) (now : Standing) (s t : Story) : Type 0 where
  pub place : now ≡ committed_all j done
  pub rest : IsAtRest now (bodies ++ placed j done) t
  pub made : t.now.passed ≡ s.now.passed + calls_for j done
  pub steps : StepsThrough (IsReadAs j.limit) (Ends j.gate bodies) (steps_of j bodies done) s t

module _ (j : Standing) (bodies : List BodyAt) (done : List (List ℕ)) (body : List ℕ) (s t u : Story) where
  -- one commit more, whether it passes or not
  step_further : (now : Standing) → now ≡ committed_all j done → StepsThrough (IsReadAs j.limit) (Ends j.gate bodies) (steps_of j bodies done) s t
      → t.now.passed ≡ s.now.passed + calls_for j done → CountsUp (moments u)
      → StepsThrough (IsReadAs now.limit) (Ends now.gate (bodies ++ placed j done)) (step_of now (bodies ++ placed j done) body ∷ []) t u
      → StepsThrough (IsReadAs j.limit) (Ends j.gate bodies) (steps_of j bodies (done ++ body ∷ [])) s u
  step_further now is steps made up more =
      let k : Standing = committed_all j done in
      let there : List BodyAt = bodies ++ placed j done in
      let at_k : StepsThrough (IsReadAs k.limit) (Ends k.gate there) (step_of k there body ∷ []) t u =
      subst (λ (n : Standing). StepsThrough (IsReadAs n.limit) (Ends n.gate there) (step_of n there body ∷ []) t u) is more in
      let at_j : StepsThrough (IsReadAs j.limit) (Ends k.gate there) (step_of k there body ∷ []) t u =
      subst (λ n. StepsThrough (IsReadAs n) (Ends k.gate there) (step_of k there body ∷ []) t u) (limit_kept j done) at_k in
      subst (λ qs. StepsThrough (IsReadAs j.limit) (Ends j.gate bodies) qs s u) (sym (steps_of-append j bodies done (body ∷ [])))
      (steps_more (IsReadAs j.limit) (Ends j.gate bodies) (steps_of j bodies done) (step_of k there body) s t u steps
      (omega (arith, made, calls_in-steps_of j bodies done)) up (omega (arith, some_calls k.fresh))
      (subst (λ a. StepsThrough (IsReadAs j.limit) a (step_of k there body ∷ []) t u) (sym (last_of-steps_of j bodies done)) at_j))

  -- the last step that was begun, before the others
  steps_all : (rest : List (List ℕ)) → StepsThrough (IsReadAs j.limit) (Ends j.gate bodies) (steps_of j bodies (done ++ body ∷ [])) s u → CountsUp (moments u)
      → u.now.passed < s.now.passed + calls_for j done + calls_of (committed_all j done)
      → StepsThrough (IsReadAs j.limit) (Ends j.gate bodies) (steps_of j bodies (done ++ body ∷ rest)) s u
  steps_all [] steps up fewer = steps
  steps_all (next ∷ rest) steps up fewer =
      let k : Standing = committed_all j (done ++ body ∷ []) in
      let there : List BodyAt = bodies ++ placed j (done ++ body ∷ []) in
      subst (λ bs. StepsThrough (IsReadAs j.limit) (Ends j.gate bodies) (steps_of j bodies bs) s u) (append_assoc done (body ∷ []) (next ∷ rest))
      (subst (λ qs. StepsThrough (IsReadAs j.limit) (Ends j.gate bodies) qs s u) (sym (steps_of-append j bodies (done ++ body ∷ []) (next ∷ rest)))
      (steps_short (IsReadAs j.limit) (Ends j.gate bodies) (steps_of j bodies (done ++ body ∷ [])) (step_of k there next)
      (steps_of (committed k next) (there ++ (k.gate, next) ∷ []) rest) s u steps up
      (omega (arith, fewer, calls_in-steps_of j bodies (done ++ body ∷ []), calls_for-push j done body))))

  module _ (now : Standing) (so : SoFar j bodies done now s t) (up : CountsUp (moments u))
      (more : StepsThrough (IsReadAs now.limit) (Ends now.gate (bodies ++ placed j done)) (step_of now (bodies ++ placed j done) body ∷ []) t u) where
    -- one commit that passed
    pub one_more : (new : Standing) → new ≡ committed now body → IsAtRest new ((bodies ++ placed j done) ++ (now.gate, body) ∷ []) u
        → u.now.passed ≡ t.now.passed + calls_of now → SoFar j bodies (done ++ body ∷ []) new s u
    one_more new is rest made = record {
      place = is ∙ ap (λ k. committed k body) so.place ∙ sym (committed_all-push j done body);
      rest = subst (λ bs. IsAtRest new bs u)
          (ap (λ g. (bodies ++ placed j done) ++ (g, body) ∷ []) (ap (λ (k : Standing). k.gate) so.place)
          ∙ append_assoc bodies (placed j done) (((committed_all j done).gate, body) ∷ [])
          ∙ ap (λ ps. bodies ++ ps) (sym (placed-push j done body)))
          rest;
      made = omega (arith, made, so.made, calls_for-push j done body, ap calls_of so.place);
      steps = step_further now so.place so.steps so.made up more;
    }

    -- one that didn't, before the others
    pub steps_to : (rest : List (List ℕ)) → u.now.passed < t.now.passed + calls_of now
        → StepsThrough (IsReadAs j.limit) (Ends j.gate bodies) (steps_of j bodies (done ++ body ∷ rest)) s u
    steps_to rest fewer = steps_all rest (step_further now so.place so.steps so.made up more) up (omega (arith, fewer, so.made, ap calls_of so.place))

-- none yet
pub none_yet : (j : Standing) (bodies : List BodyAt) (s : Story) → IsAtRest j bodies s → SoFar j bodies [] j s s
none_yet j bodies s rest = record {
  place = refl;
  rest = subst (λ bs. IsAtRest j bs s) (sym (append-nil bodies)) rest;
  made = omega arith;
  steps = steps_none (IsReadAs j.limit) (Ends j.gate bodies) s s (leaves_none s s _ refl (rest_leaves j bodies s rest));
}

-- the bodies up to a place and one more, and all of them cut there
pub one_further : (bs : List (List ℕ)) (i : ℕ) (b : List ℕ) → i < length bs → b ≡ get_or bs i b → take (i + 1) bs ≡ take i bs ++ b ∷ []
one_further bs i b within is = take_more bs i b within ∙ ap (λ x. take i bs ++ x ∷ []) (sym is)

pub cut_at : (bs : List (List ℕ)) (i : ℕ) (b : List ℕ) → i < length bs → b ≡ get_or bs i b → bs ≡ take i bs ++ b ∷ drop (i + 1) bs
cut_at bs i b within is =
    sym (take-append-drop i bs) ∙ ap (λ back. take i bs ++ back) (drop_more bs i b within ∙ ap (λ x. x ∷ drop (i + 1) bs) (sym is))

-- the place and the calls after one commit more
module _ (j now : Standing) (bs : List (List ℕ)) (i : ℕ) (b : List ℕ) (within : i < length bs) (is : b ≡ get_or bs i b)
    (place : now ≡ committed_all j (take i bs)) where
  pub place_further : (new : Standing) → new ≡ committed now b → new ≡ committed_all j (take (i + 1) bs)
  place_further new so =
      so ∙ ap (λ k. committed k b) place ∙ sym (ap (committed_all j) (one_further bs i b within is) ∙ committed_all-push j (take i bs) b)

  pub made_further : (before mid after : ℕ) → mid ≡ before + calls_for j (take i bs) → after ≡ mid + calls_of now
      → after ≡ before + calls_for j (take (i + 1) bs)
  made_further before mid after made more =
      omega (arith, made, more, ap calls_of place, ap (calls_for j) (one_further bs i b within is), calls_for-push j (take i bs) b)

  -- and where it ended early
  pub ends_in : (before mid after : ℕ) → mid ≡ before + calls_for j (take i bs) → mid ≤ after → after < mid + calls_of now → EndsIn j bs before after
  ends_in before mid after made le fewer = record {
    done = take i bs;
    next = b;
    rest = drop (i + 1) bs;
    all = cut_at bs i b within is;
    made = omega (arith, made, le);
    fewer = omega (arith, made, fewer, ap calls_of place);
  }

-- a commit for which there is no room changes nothing
pub rests_after : (j now new : Standing) (bodies : List BodyAt) (bs : List (List ℕ)) (i : ℕ) (s t u : Story) → SoFar j bodies (take i bs) now s t
    → new ≡ now → u ≡ t → RestsAfter j bodies bs new s u
rests_after j now new bodies bs i s t u so is same = record {
  done = take i bs;
  rest = drop i bs;
  all = sym (take-append-drop i bs);
  place = is ∙ so.place;
  made = ap (λ (v : Story). v.now.passed) same ∙ so.made;
  at_rest = subst (λ k. IsAtRest k (bodies ++ placed j (take i bs)) u) (sym is)
      (subst (IsAtRest now (bodies ++ placed j (take i bs))) (sym same) so.rest);
}
