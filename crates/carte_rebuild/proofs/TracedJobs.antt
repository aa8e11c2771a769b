-- Jobs that compare the needs of a key: what they make is right, and what they lack when they stop.
use Rattle.std.proofs.Common.{◌≡◌, ℕ, List, Some, None, Ok, Err, refl, ap, sym, ◌∙◌, subst, inl, inr}
use Rattle.carte_value.specs.Truths.{Truth, Extends, Among}
use Rattle.carte_value.specs.Asks.{Asks, run, asked}
use Rattle.carte_value.specs.Once.{Answers}
use Rattle.carte_value.proofs.Asks.{run_kept}
use Rattle.carte_tree.specs.Tree.{Tree}
use Rattle.carte_tree.specs.Meaning.{asks}
use Rattle.carte_book.specs.Book.{Book, rule, content, clean}
use Rattle.carte_book.specs.Needs.{needs}
use Rattle.carte_effect.specs.declared.outcome.Made.{Made}
use Rattle.carte_effect.specs.declared.outcome.Made.TheVariants.{Ran, Reused}
use Rattle.carte_effect.specs.Jobs.{Step}
use Rattle.carte_task.specs.Checking.{Checking}
use Rattle.carte_task.specs.Checks.{rest_from}
use Rattle.carte_record.specs.declared.way.Way.{Way}
use Rattle.carte_record.specs.Kept.{SomeKept}
use Rattle.carte_record.specs.Ways.{links_by}
use Rattle.carte_sound.specs.True.{links_to}
use Rattle.carte_sound.specs.Base.{IsBase}
use Rattle.carte_sound.specs.Held.{tracing, AreLinks, IsHeldBy, IsHeld}
use Rattle.carte_note.specs.Right.{IsRightMade}
use Rattle.carte_rebuild.specs.Trying.{task_left, tries, Gives, FitsLeft}
use Rattle.carte_rebuild.specs.Earlier.{check_of}
use Rattle.carte_rebuild.specs.Traced.{IsCheckOf, AreTried, IsTracedJob}
use Rattle.carte_rebuild.specs.Left.{left_of}
use Rattle.carte_rebuild.specs.Goes.{IsPart, may_ask, AreThere, AreThereBefore, GoesOver}
use Rattle.carte_rebuild.specs.TryingFits.{known_more}
use Rattle.carte_rebuild.specs.declared.tries.Tries.{Tries}
use Rattle.carte_rebuild.proofs.Comparing.{digests_in, are_links_same}
use Rattle.carte_rebuild.proofs.Trials.{IsGivenAgain, AllDiffer, tries_cases, tries_stop, tries_asked}
use Rattle.carte_rebuild.proofs.TaskAlone.{alone_ran, alone_needs, alone_there, alone_before}
use Rattle.carte_rebuild.proofs.Wholes.{IsRightWhole, whole_fits, whole_goes}
use Rattle.carte_rebuild.proofs.TracedChecks.{OfNeeds, reused_needs, asks_needs, links_now, links_then, held_needs, linked_names, check_asks, check_stops, check_holds}

module _ (w : Way) (of : OfNeeds w) (K : SomeKept) (b : Book) (H : List Book) (base : IsBase K b H) (k : List ℕ) (f : Tree) (is_rule : content b k ≡ Some (rule f)) (cs : List Checking) (tried : AreTried w K b k cs) where
  abbrev whole : Asks Made
  whole = tries cs (task_left k (asks b.kind f))

  -- a trace that holds has its check among the checks, and that holds too
  not_held : AllDiffer (clean b) cs → ¬ (IsHeld (tracing w) K b k)
  not_held differ (t, held) =
      let stored = base.sound.trace_stored w k t held.kept in
      let d = differ (check_of k (links_by w t) stored.0) (tried.each t stored.0 held.kept held.task held.trusted stored.1) in
      let same : run (clean b) (rest_from (check_of k (links_by w t) stored.0)) ≡ Ok None = are_links_same (clean b) 0 (links_by w t) (links_then w of b t held.links) in
      let both : Ok (Some d.0) ≡ Ok None = sym d.1 ∙ same in
      cc

  held_by : (c : Checking) (x : IsCheckOf w K b k c) → run (clean b) (rest_from c) ≡ Ok None → IsHeldBy w K b k x.trace
  held_by c x holds = record { kept = x.kept; task = x.task; links = links_now w of b x.trace (check_holds w of K b H base k (clean b) (λ i v h. h) c x holds); trusted = x.trusted }

  again_right : (m : Made) → IsGivenAgain (clean b) cs m → IsRightMade (tracing w) K b k m
  again_right m (c, has, holds, is) =
      let x = tried.only c has in
      let held = held_by c x holds in
      let r = held_needs w of K b H base k x.trace held in
      let value : r.0.value ≡ x.value = (let e : Some r.0.value ≡ Some x.value = sym r.0.stored ∙ x.stored in cc) in
      let right : IsRightMade (tracing w) K b k (Reused (record { key = k; value = x.value; links = links_by w x.trace })) = record {
        key = refl;
        value = r.0.clean ∙ ap Some value;
        came = ((x.trace, held), r.1 ∙ sym (reused_needs w of b k));
      } in
      subst (IsRightMade (tracing w) K b k) (sym (is ∙ ap (λ (d : Checking). Reused d.earlier) x.is)) right

  ran_right : (m : Made) → AllDiffer (clean b) cs → run (clean b) (task_left k (asks b.kind f)) ≡ Ok m → IsRightMade (tracing w) K b k m
  ran_right m differ ends =
      let r = alone_ran b k f is_rule m ends in
      let right : IsRightMade (tracing w) K b k (Ran (record { key = k; value = r.0; links = links_to (clean b) (needs b k) })) = record { key = refl; value = r.1; came = (not_held differ, refl) } in
      subst (IsRightMade (tracing w) K b k) (sym r.2) right

  -- what it makes is right
  pub traced_right : (m : Made) → run (clean b) whole ≡ Ok m → IsRightMade (tracing w) K b k m
  traced_right m ends = elim (tries_cases (clean b) cs (task_left k (asks b.kind f)) m ends) [
    | inl again ↦ again_right m again
    | inr (differ, ran) ↦ ran_right m differ ran
  ]

  -- and it asks for needs alone
  pub traced_needs : (j : List ℕ) → Among (asked (clean b) whole) j → Among (needs b k) j
  traced_needs j among = elim (tries_asked (clean b) cs (task_left k (asks b.kind f)) j among) [
    | inl (c, has, here) ↦ check_asks w of K b H base k (clean b) (λ i v h. h) c (tried.only c has) j here
    | inr there ↦ alone_needs b k f is_rule j there
  ]

  -- where it ends over a part, all needs are in the part
  pub traced_there : (part : Truth) → Extends part (clean b) → (m : Made) → run part whole ≡ Ok m → AreThere b part k
  traced_there part more m ends j among = elim (tries_cases part cs (task_left k (asks b.kind f)) m ends) [
    | inl (c, has, holds, is) ↦
        let x = tried.only c has in
        let here : AreLinks (digests_in part) (links_by w x.trace) = check_holds w of K b H base k part more c x holds in
        let now = held_by c x (run_kept part (clean b) (rest_from c) None more holds) in
        let links : links_by w x.trace ≡ links_to (clean b) (needs b k) = (held_needs w of K b H base k x.trace now).1 in
        linked_names part (clean b) (needs b k) (subst (AreLinks (digests_in part)) links here) j among
    | inr (differ, ran) ↦ alone_there b k f is_rule part more m ran j among
  ]

  -- where it stops over a part at a name that will never have a value, all other needs are in the part
  pub traced_before : (part : Truth) → Extends part (clean b) → (n : List ℕ) → run part whole ≡ Err n → AreThereBefore b part k n
  traced_before part more n stops none j among = elim (tries_stop part cs (task_left k (asks b.kind f)) n stops) [
    | inl (c, has, here) ↦ check_stops w of K b H base k part more c (tried.only c has) n here none j among
    | inr there ↦ alone_before b k f is_rule part more n there none j among
  ]

  pub traced_whole : IsRightWhole (tracing w) K b k whole
  traced_whole = record {
    formula = f;
    is_rule = is_rule;
    right = traced_right;
    needed = traced_needs;
    there = λ part more m ends followed. traced_there part more m ends;
    before = λ part more n stops. ((λ held. of.looks), traced_before part more n stops);
    may = λ j among. subst (λ ks. Among ks j) (sym (asks_needs w of b k)) among;
  }

module _ (w : Way) (of : OfNeeds w) (K : SomeKept) (b : Book) (H : List Book) (base : IsBase K b H) (t : Truth) (k : List ℕ) (p : Tries) (job : IsTracedJob w K b t k p) where
  abbrev whole_of : Asks Made
  whole_of = tries job.checks (task_left k (asks b.kind job.formula))

  is_whole : IsRightWhole (tracing w) K b k whole_of
  is_whole = traced_whole w of K b H base k job.formula job.is_rule job.checks job.tried

  -- such a job is one for the key's clean value
  pub traced_fits : FitsLeft (left_of p) (clean b) k (clean b k) (needs b k) (may_ask (tracing w) b k)
  traced_fits = whole_fits (tracing w) K b k whole_of is_whole (left_of p) job.further (known_more t (clean b) job.further job.within job.known) job.went

  -- over the inputs and some of the other clean values it makes what is right, or goes on
  pub traced_goes : (part : Truth) → Extends t part → IsPart b part → (a : Answers) (step : Step) (q : Tries) → Gives (left_of p) part a step (left_of q) → GoesOver (tracing w) K b k part (λ u j. IsTracedJob w K b u k j) step q
  traced_goes part grown is_part a step q gives =
      whole_goes (tracing w) K b k whole_of is_whole left_of (λ u j. IsTracedJob w K b u k j) t part grown is_part
      (λ c n known went. record { formula = job.formula; is_rule = job.is_rule; checks = job.checks; tried = job.tried; within = is_part.part; further = c; known = known; went = went })
      p job.further job.known job.went a step q gives
