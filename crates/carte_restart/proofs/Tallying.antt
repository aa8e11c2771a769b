-- What the ledger says after each step of a build: a job is given up at most once for each name that its key waits for.
use Rattle.std.proofs.Common.{◌≡◌, ◌⊎◌, ℕ, ◌+◌, ◌≤◌, Bool, true, false, cond, not, ◌&&◌, List, [], ◌∷◌, ◌++◌, length, Some, None, Ok, Err, refl, ap, sym, ◌∙◌, subst, inl, inr, arith}
use Rattle.carte_value.specs.Truths.{Among}
use Rattle.carte_value.proofs.Members.{same_or_not, among_append, among_left, among_right}
use Rattle.carte_effect.specs.declared.look.Stuck.{Stuck}
use Rattle.carte_effect.specs.declared.outcome.Made.{Made}
use Rattle.carte_effect.specs.declared.outcome.Made.TheVariants.{Ran, Reused}
use Rattle.carte_effect.specs.Jobs.{Counted}
use Rattle.carte_effect.specs.Ledger.{Ledger}
use Rattle.carte_book.specs.Book.{Book}
use Rattle.carte_book.specs.Edits.{IsInput}
use Rattle.carte_book.specs.Needs.{needs}
use Rattle.carte_rebuild.specs.Ends.{times, GivenUpAtMost, AllEnded}
use Rattle.carte_note.specs.Right.{has_run}
use Rattle.carte_bench.specs.declared.slot.Slot.{Slot}
use Rattle.carte_bench.specs.declared.slot.Slot.TheVariants.{Ready, Stopped, Done}
use Rattle.carte_bench.specs.Spots.{Spots, PutAt, IsSame, is_done, is_ready, job_in, name_of}
use Rattle.carte_bench.specs.Turns.{halted}
use Rattle.carte_bench.proofs.Puts.{put_here, put_apart}
use Rattle.carte_bench.proofs.Turning.{jobs_put}
use Rattle.carte_progress.specs.Standing.{IsDemanded}
use Rattle.carte_progress.proofs.Puts.{not_both, job_undone}
use Rattle.carte_progress.proofs.Standings.{known_put}
use Rattle.carte_restart.specs.Going.{HasWaited, IsGivenUp, IsTallied}
use Rattle.carte_restart.proofs.Counting.{times_here, times_apart}

-- the name once more, or not
abbrev added : Bool → List ℕ → List (List ℕ)
added t k = cond t (k ∷ []) []

nil_end : (ks : List (List ℕ)) → ks ++ [] ≡ ks
nil_end [] = refl
nil_end (j ∷ js) = ap (λ ks. j ∷ ks) (nil_end js)

added_among : (t : Bool) (ks : List (List ℕ)) (k j : List ℕ) → Among (ks ++ added t k) j → Among ks j ⊎ (j ≡ k)
added_among t ks k j here = elim (among_append ks (added t k) j here) [
  | inl before ↦ inl before
  | inr last ↦ inr (at t last)
]
  where
    at : (u : Bool) → Among (added u k) j → j ≡ k
    at true (inl same) = same
    at true (inr never) = absurd never
    at false never = absurd never

-- a start more of one key changes no other's
others_starts : (t : Bool) (k q : List ℕ) (xs : List (List ℕ)) → ¬ (q ≡ k) → times q (xs ++ added t k) ≡ times q xs
others_starts true k q xs other = times_apart k q xs other
others_starts false k q xs other = ap (times q) (nil_end xs)

own_starts : (t : Bool) (k : List ℕ) (xs : List (List ℕ)) → times k (xs ++ added t k) ≤ times k xs + 1
own_starts true k xs = omega (arith, times_here k xs)
own_starts false k xs = rw (nil_end xs) (omega arith)

module _ {J : Type 0} (b : Book) (s d : Spots J) (k : List ℕ) (x : Slot J) (put : PutAt s d k x) (undone : is_done (s k) ≡ false) where
  -- what is done stays done
  pub done_on : (n : List ℕ) → is_done (s n) ≡ true → is_done (d n) ≡ true
  done_on n is = elim (same_or_not k n) [
    | inl same ↦ absurd (not_both (s n) is (subst (λ i. is_done (s i) ≡ false) same undone))
    | inr other ↦ rw (put_apart s d k x n other put) is
  ]

  waited_on : (q n : List ℕ) → ¬ (k ≡ q) → HasWaited b s q n → HasWaited b d q n
  waited_on q n other w = record {
    need = w.need;
    no_input = w.no_input;
    now = elim (w.now) [
      | inl done ↦ inl (done_on n done)
      | inr stops ↦ inr (stops.0, put_apart s d k x q other put ∙ stops.1)
    ];
  }

  -- another key
  given_on : (r r' : Ledger) (q : List ℕ) → ¬ (k ≡ q) → times q r'.starts ≡ times q r.starts → times q r'.ends ≡ times q r.ends → IsGivenUp b s r q → IsGivenUp b d r' q
  given_on r r' q other starts ends g = record {
    names = g.names;
    once = g.once;
    waited = λ n here. waited_on q n other (g.waited n here);
    bound = (let before = g.bound in rw (starts, ends) before);
  }

-- what a ready key has waited for is done
pub waited_done : {J : Type 0} (b : Book) (s : Spots J) (k n : List ℕ) → is_ready s (s k) ≡ true → HasWaited b s k n → is_done (s n) ≡ true
waited_done b s k n ready w = elim (w.now) [
  | inl done ↦ done
  | inr stops ↦ rw stops.1 at ready
]

-- nothing was demanded or started
pub tallied_none : {J : Type 0} (started : J → Bool) (b : Book) (s : Spots J) → IsSame (λ q. None) s → IsTallied started b s [] (record { starts = []; ends = [] })
tallied_none started b s none = record {
  ends = refl;
  each = λ k here. absurd here;
  demanded = λ k here. absurd here;
  idle = λ k j is. (let both : None ≡ Some j = rw (none k) at is in cc);
  given_up = λ k. record { names = []; once = tt; waited = λ n here. absurd here; bound = omega arith };
}

pub tallied_same : {J : Type 0} (started : J → Bool) (b : Book) (s d : Spots J) (ran : List (List ℕ)) (r : Ledger) → IsSame s d → IsTallied started b s ran r → IsTallied started b d ran r
tallied_same started b s d ran r same t = record {
  ends = t.ends;
  each = t.each;
  demanded = λ k here. (let there = t.demanded k here in (there.0, same k ∙ there.1));
  idle = λ k j is. t.idle k j (rw (same k) at is);
  given_up = λ k. (let g = t.given_up k in record {
    names = g.names;
    once = g.once;
    waited = λ n here. (let w = g.waited n here in record {
      need = w.need;
      no_input = w.no_input;
      now = elim (w.now) [
        | inl done ↦ inl (rw (same n) done)
        | inr stops ↦ inr (stops.0, same k ∙ stops.1)
      ];
    });
    bound = g.bound;
  });
}

-- a job that wasn't started is put where there was none
pub tallied_demand : {J : Type 0} (started : J → Bool) (b : Book) (s d : Spots J) (k : List ℕ) (j : J) (ran : List (List ℕ)) (r : Ledger) → IsTallied started b s ran r → PutAt s d k (Ready j) → s k ≡ None → started j ≡ false → IsTallied started b d ran r
tallied_demand {J = J} started b s d k j ran r t put none idle = record {
  ends = t.ends;
  each = t.each;
  demanded = λ q here. (let there = t.demanded q here in known_put s d k (Ready j) put q there.0 there.1);
  idle = jobs_put (λ q i. started i ≡ false) s d k (Ready j) put t.idle (λ i is. (let same : j ≡ i = cc in rw (← same) idle));
  given_up = λ q. elim (same_or_not k q) [
    | inl same ↦ subst (IsGivenUp b d r) same (own (t.given_up k))
    | inr other ↦ given_on b s d k (Ready j) put undone r r q other refl refl (t.given_up q)
  ];
}
  where
    undone : is_done (s k) ≡ false
    undone = rw none refl

    own : IsGivenUp b s r k → IsGivenUp b d r k
    own g = record {
      names = g.names;
      once = g.once;
      waited = λ n here. (let w = g.waited n here in record {
        need = w.need;
        no_input = w.no_input;
        now = inl (elim (w.now) [
          | inl done ↦ done_on b s d k (Ready j) put undone n done
          | inr stops ↦ (let both : None ≡ Some (Stopped stops.0 n) = sym none ∙ stops.1 in cc)
        ]);
      });
      bound = g.bound;
    }

-- a turn that came to this left these starts
module _ {J : Type 0} (started : J → Bool) (b : Book) (s d : Spots J) (k : List ℕ) (p q : J) (ran : List (List ℕ)) (r r' : Ledger) (t : IsTallied started b s ran r) (stood : job_in (s k) ≡ Some p) (ready : is_ready s (s k) ≡ true) where
  undone : is_done (s k) ≡ false
  undone = job_undone (s k) p stood

  -- all that the key has waited for is done
  waited : (x : Slot J) → PutAt s d k x → (n : List ℕ) → Among (t.given_up k).names n → HasWaited b d k n
  waited x put n here =
      let w = (t.given_up k).waited n here in record {
        need = w.need;
        no_input = w.no_input;
        now = inl (done_on b s d k x put undone n (waited_done b s k n ready w));
      }

  -- it was given up for a new one that waits for the same name
  pub tallied_stop : (x : Stuck) (j : J) → PutAt s d k (Stopped j (name_of x)) → started j ≡ false → IsDemanded s k → Among (needs b k) (name_of x) → ¬ (IsInput b (name_of x)) → is_done (d (name_of x)) ≡ false → Counted {S = Stuck} k (started p) (started q) r r' (halted (Err x)) → IsTallied started b d ran r'
  tallied_stop x j put idle there need no_input stuck by = record {
    ends = ends ∙ t.ends;
    each = λ i here. rw by.starts (among_left r.starts (added more k) i (t.each i (rw ends at here)));
    demanded = λ i here. elim (added_among more r.starts k i (rw by.starts at here)) [
      | inl before ↦ (let known = t.demanded i before in known_put s d k (Stopped j (name_of x)) put i known.0 known.1)
      | inr same ↦ known_put s d k (Stopped j (name_of x)) put i there.0 (rw same there.1)
    ];
    idle = jobs_put (λ i l. started l ≡ false) s d k (Stopped j (name_of x)) put t.idle (λ l is. (let same : j ≡ l = cc in rw (← same) idle));
    given_up = λ i. elim (same_or_not k i) [
      | inl same ↦ subst (IsGivenUp b d r') same own
      | inr other ↦ given_on b s d k (Stopped j (name_of x)) put undone r r' i other (ap (times i) by.starts ∙ others_starts more k i r.starts (λ same. other (sym same))) (ap (times i) ends) (t.given_up i)
    ];
  }
    where
      more : Bool
      more = started q && not (started p)

      ends : r'.ends ≡ r.ends
      ends = by.ends ∙ nil_end r.ends

      own : IsGivenUp b d r' k
      own = record {
        names = name_of x ∷ (t.given_up k).names;
        once = ((λ here. not_both (d (name_of x)) (done_on b s d k (Stopped j (name_of x)) put undone (name_of x) (waited_done b s k (name_of x) ready ((t.given_up k).waited (name_of x) here))) stuck), (t.given_up k).once);
        waited = λ n here. elim here [
          | inl same ↦ subst (HasWaited b d k) (sym same) (record { need = need; no_input = no_input; now = inr (j, put_here s d k (Stopped j (name_of x)) put) })
          | inr later ↦ waited (Stopped j (name_of x)) put n later
        ];
        bound = omega (arith, (t.given_up k).bound, own_starts more k r.starts, ap (times k) by.starts, ap (times k) ends);
      }

  -- it came to its end: where it ran, it has one start and one end more
  ended_by : (m : Made) → Counted {S = Stuck} k (started p) (started q) r r' (halted (Ok m)) → (r'.starts ≡ r.starts ++ added (has_run m) k) × (r'.ends ≡ r.ends ++ added (has_run m) k)
  ended_by (Ran o) by = (by.starts ∙ rw (by.started, t.idle k p stood) refl, by.ends)
  ended_by (Reused o) by = (by.starts ∙ rw (by.started.1) refl, by.ends)

  pub ended_all : (m : Made) → Counted {S = Stuck} k (started p) (started q) r r' (halted (Ok m)) → AllEnded r → AllEnded r'
  ended_all m by all i =
      let e = ended_by m by in
      ap (times i) e.0 ∙ at (has_run m) ∙ sym (ap (times i) e.1)
    where
      at : (u : Bool) → times i (r.starts ++ added u k) ≡ times i (r.ends ++ added u k)
      at true = elim (same_or_not i k) [
        | inl same ↦ rw same (omega (arith, times_here k r.starts, times_here k r.ends, all k))
        | inr other ↦ times_apart k i r.starts other ∙ all i ∙ sym (times_apart k i r.ends other)
      ]
      at false = ap (times i) (nil_end r.starts) ∙ all i ∙ sym (ap (times i) (nil_end r.ends))

  pub tallied_end : (m : Made) → PutAt s d k (Done m) → IsDemanded s k → Counted {S = Stuck} k (started p) (started q) r r' (halted (Ok m)) → IsTallied started b d (ran ++ added (has_run m) k) r'
  tallied_end m put there by = record {
    ends = (ended_by m by).1 ∙ ap (λ ks. ks ++ added (has_run m) k) t.ends;
    each = λ i here. rw ((ended_by m by).0) (elim (among_append r.ends (added (has_run m) k) i (rw ((ended_by m by).1) at here)) [
      | inl before ↦ among_left r.starts (added (has_run m) k) i (t.each i before)
      | inr last ↦ among_right r.starts (added (has_run m) k) i last
    ]);
    demanded = λ i here. elim (added_among (has_run m) r.starts k i (rw ((ended_by m by).0) at here)) [
      | inl before ↦ (let known = t.demanded i before in known_put s d k (Done m) put i known.0 known.1)
      | inr same ↦ known_put s d k (Done m) put i there.0 (rw same there.1)
    ];
    idle = jobs_put (λ i l. started l ≡ false) s d k (Done m) put t.idle (λ l is. cc);
    given_up = λ i. elim (same_or_not k i) [
      | inl same ↦ subst (IsGivenUp b d r') same (record {
        names = (t.given_up k).names;
        once = (t.given_up k).once;
        waited = λ n here. waited (Done m) put n here;
        bound = own;
      })
      | inr other ↦ given_on b s d k (Done m) put undone r r' i other (ap (times i) (ended_by m by).0 ∙ others_starts (has_run m) k i r.starts (λ same. other (sym same))) (ap (times i) (ended_by m by).1 ∙ others_starts (has_run m) k i r.ends (λ same. other (sym same))) (t.given_up i)
    ];
  }
    where
      at : (u : Bool) → times k (r.starts ++ added u k) ≤ times k (r.ends ++ added u k) + length (t.given_up k).names
      at true = omega (arith, times_here k r.starts, times_here k r.ends, (t.given_up k).bound)
      at false = rw (nil_end r.starts, nil_end r.ends) ((t.given_up k).bound)

      own : GivenUpAtMost r' k (length (t.given_up k).names)
      own = rw ((ended_by m by).0, (ended_by m by).1) (at (has_run m))
