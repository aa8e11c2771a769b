-- What a job under deep traces makes is right.
use Rattle.std.proofs.Common.{◌≡◌, ℕ, Bool, true, false, ◌&&◌, cond, List, ◌++◌, Option, Some, None, option_map, Ok, Err, refl, ap, sym, ◌∙◌, subst}
use Rattle.carte_value.specs.declared.digest.Digest.{Digest}
use Rattle.carte_value.specs.declared.value.Value.{Value}
use Rattle.carte_value.specs.Lists.{Has}
use Rattle.carte_value.specs.Truths.{Truth, Extends}
use Rattle.carte_value.specs.Asks.{Asks, done}
use Rattle.carte_value.specs.Once.{Answers}
use Rattle.carte_value.proofs.Members.{among_left}
use Rattle.carte_tree.specs.Tree.{Tree}
use Rattle.carte_tree.specs.Meaning.{asks}
use Rattle.carte_book.specs.Book.{Book, rule, content, clean}
use Rattle.carte_book.specs.Needs.{needs}
use Rattle.carte_book.specs.Task.{task_now}
use Rattle.carte_effect.specs.declared.outcome.Made.{Made}
use Rattle.carte_effect.specs.declared.outcome.Made.TheVariants.{Ran, Reused}
use Rattle.carte_effect.specs.Outcomes.{Outcome}
use Rattle.carte_effect.specs.Jobs.{Step}
use Rattle.carte_record.specs.declared.deep_trace.DeepTrace.{DeepTrace}
use Rattle.carte_record.specs.declared.way.Way.TheVariants.{Deep}
use Rattle.carte_record.specs.Kept.{SomeKept}
use Rattle.carte_sound.specs.Base.{IsBase}
use Rattle.carte_sound.specs.Beneath.{beneath}
use Rattle.carte_sound.specs.Marks.{present}
use Rattle.carte_sound.specs.Held.{tracing, AreLinks, are_so, IsHeldBy, IsHeld}
use Rattle.carte_sound.specs.True.{links_to}
use Rattle.carte_sound.proofs.Entries.{both_true}
use Rattle.carte_sound.proofs.Deep.{deep_held}
use Rattle.carte_sound.proofs.SoNow.{so_links, links_so}
use Rattle.carte_note.specs.Right.{IsRightMade}
use Rattle.carte_rebuild.specs.Keyed.{EndsAs, left_ends_as, task_ends_as}
use Rattle.carte_rebuild.specs.Trying.{task_left, Gives, FitsLeft}
use Rattle.carte_rebuild.specs.TryingFits.{known_more}
use Rattle.carte_rebuild.specs.Goes.{IsPart, may_ask, GoesOver}
use Rattle.carte_rebuild.proofs.TaskAlone.{alone_ran, alone_needs, alone_there, alone_before}
use Rattle.carte_rebuild.proofs.Wholes.{IsRightWhole, whole_fits, whole_goes}
use Rattle.carte_deep.specs.declared.job.DeepJob.{DeepJob}
use Rattle.carte_deep.specs.Holding.{holds, outcome_at, given_by, Finds}
use Rattle.carte_deep.specs.Work.{again_or, left_in}
use Rattle.carte_deep.specs.Jobs.{IsDeepJob}

-- 1. what a trace gives

pub record IsGiven (stored : Digest → Option Value) (b : Book) (k : List ℕ) (t : DeepTrace) (o : Outcome) : Type 0 where
  pub tasks : AreLinks (task_now b) t.tasks
  pub links : AreLinks (present b) t.links
  pub value : Value
  pub told : stored t.result ≡ Some value
  pub is : o ≡ outcome_at k t value

pub given_is : (stored : Digest → Option Value) (b : Book) (k : List ℕ) (t : DeepTrace) (o : Outcome) → given_by stored b k (Some t) ≡ Some o → IsGiven stored b k t o
given_is stored b k t o gives = on (holds b t) refl gives
  where
    by : AreLinks (task_now b) t.tasks → AreLinks (present b) t.links → (x : Option Value) → stored t.result ≡ x → option_map (outcome_at k t) x ≡ Some o → IsGiven stored b k t o
    by tasks are None none e = cc
    by tasks are (Some v) some e = record { tasks = tasks; links = are; value = v; told = some; is = (let s : o ≡ outcome_at k t v = cc in s) }

    on : (c : Bool) → holds b t ≡ c → cond c (option_map (outcome_at k t) (stored t.result)) None ≡ Some o → IsGiven stored b k t o
    on false differs e = cc
    on true is e =
        let both = both_true (are_so (present b) t.links) (are_so (task_now b) t.tasks) is in
        by (so_links (task_now b) t.tasks both.1) (so_links (present b) t.links both.0) (stored t.result) refl e

-- 2. the whole of a job

module _ (K : SomeKept) (b : Book) (H : List Book) (base : IsBase K b H) (k : List ℕ) (f : Tree) (is_rule : content b k ≡ Some (rule f)) where
  abbrev task : Asks Made
  task = task_left k (asks b.kind f)

  -- a key that isn't held runs its task
  runs : ¬ (IsHeld (tracing Deep) K b k) → IsRightWhole (tracing Deep) K b k task
  runs apart = record {
    formula = f;
    is_rule = is_rule;
    right = λ m ends. (let r = alone_ran b k f is_rule m ends in let right : IsRightMade (tracing Deep) K b k (Ran (record { key = k; value = r.0; links = links_to (clean b) (needs b k) })) = record { key = refl; value = r.1; came = (apart, refl) } in subst (IsRightMade (tracing Deep) K b k) (sym r.2) right);
    needed = λ j among. alone_needs b k f is_rule j among;
    there = λ part more m ends followed. alone_there b k f is_rule part more m ends;
    before = λ part more n stops. ((λ held. absurd (apart held)), alone_before b k f is_rule part more n stops);
    may = λ j among. among_left (needs b k) (beneath b k) j among;
  }

  -- what a trace gives is right
  gives_right : (t : DeepTrace) (o : Outcome) → Has (K.traces Deep k) t → IsGiven K.stored b k t o → IsRightMade (tracing Deep) K b k (Reused o)
  gives_right t o kept given =
      let held : IsHeldBy Deep K b k t = record { kept = kept; task = given.tasks; links = given.links; trusted = tt } in
      let r = deep_held K b H base k t held in
      let both : Some given.value ≡ Some r.0.value = sym given.told ∙ r.0.stored in
      let same : given.value ≡ r.0.value = cc in
      record {
        key = ap (λ (x : Outcome). x.key) given.is;
        value = r.0.clean ∙ ap Some (sym (ap (λ (x : Outcome). x.value) given.is ∙ same));
        came = ((t, held), ap (λ (x : Outcome). x.links) given.is ∙ ap (λ (x : DeepTrace). x.tasks ++ x.links) r.1);
      }

  -- a held key asks for nothing
  again : (o : Outcome) → IsHeld (tracing Deep) K b k → IsRightMade (tracing Deep) K b k (Reused o) → IsRightWhole (tracing Deep) K b k (done (Reused o))
  again o held right = record {
    formula = f;
    is_rule = is_rule;
    right = λ m ends. (
        let says : Ok (Reused o) ≡ Ok m = ends in
        let same : Reused o ≡ m = cc in
        subst (IsRightMade (tracing Deep) K b k) same right);
    needed = λ j none. absurd none;
    there = λ part more m ends followed. (let never : false ≡ true = followed held in cc);
    before = λ part more n stops. (let never : Ok (Reused o) ≡ Err n = stops in cc);
    may = λ j among. among_left (needs b k) (beneath b k) j among;
  }

  -- where no trace gives anything the key isn't held: the store has the value of each trace
  none_held : Finds K b k None → ¬ (IsHeld (tracing Deep) K b k)
  none_held none (t, held) =
      let v = base.sound.trace_stored Deep k t held.kept in
      let is : holds b t ≡ true = ap (λ c. c && are_so (task_now b) t.tasks) (links_so (present b) t.links held.links) ∙ links_so (task_now b) t.tasks held.task in
      let given : given_by K.stored b k (Some t) ≡ Some (outcome_at k t v.0) = ap (λ c. cond c (option_map (outcome_at k t) (K.stored t.result)) None) is ∙ ap (option_map (outcome_at k t)) v.1 in
      let never : None ≡ Some (outcome_at k t v.0) = sym (none t held.kept) ∙ given in
      cc

  deep_whole : (found : Option Outcome) → Finds K b k found → IsRightWhole (tracing Deep) K b k (again_or found task)
  deep_whole None none = runs (none_held none)
  deep_whole (Some o) (t, kept, gives) =
      let right = gives_right t o kept (given_is K.stored b k t o gives) in
      again o right.came.0 right

-- 3. the laws

module _ (K : SomeKept) (b : Book) (H : List Book) (base : IsBase K b H) (t : Truth) (k : List ℕ) (p : DeepJob) (job : IsDeepJob K b t k p) where
  abbrev whole_of : Asks Made
  whole_of = again_or job.found (task_left k (asks b.kind job.formula))

  is_whole : IsRightWhole (tracing Deep) K b k whole_of
  is_whole = deep_whole K b H base k job.formula job.is_rule job.found job.finds

  pub deep_fits : FitsLeft (left_in p) (clean b) k (clean b k) (needs b k) (may_ask (tracing Deep) b k)
  deep_fits = whole_fits (tracing Deep) K b k whole_of is_whole (left_in p) job.further (known_more t (clean b) job.further job.within job.known) job.went

  pub deep_goes : (part : Truth) → Extends t part → IsPart b part → (a : Answers) (step : Step) (q : DeepJob) → Gives (left_in p) part a step (left_in q) → GoesOver (tracing Deep) K b k part (λ u j. IsDeepJob K b u k j) step q
  deep_goes part grown is_part a step q gives =
      whole_goes (tracing Deep) K b k whole_of is_whole left_in (λ u j. IsDeepJob K b u k j) t part grown is_part
      (λ c n known went. record { formula = job.formula; is_rule = job.is_rule; found = job.found; finds = job.finds; within = is_part.part; further = c; known = known; went = went })
      p job.further job.known job.went a step q gives

-- the end that is given again has the key, and so has that of the task
again_keyed : (K : SomeKept) (b : Book) (k : List ℕ) (m : Asks Made) (found : Option Outcome) → Finds K b k found → EndsAs m k → EndsAs (again_or found m) k
again_keyed K b k m None none keyed = keyed
again_keyed K b k m (Some o) (t, kept, gives) keyed = ap (λ (x : Outcome). x.key) (given_is K.stored b k t o gives).is

pub deep_keyed : (K : SomeKept) (b : Book) (t : Truth) (k : List ℕ) (p : DeepJob) → IsDeepJob K b t k p → EndsAs (left_in p) k
deep_keyed K b t k p job =
    let task = task_left k (asks b.kind job.formula) in
    left_ends_as (again_or job.found task) (left_in p) job.further k (again_keyed K b k task job.found job.finds (task_ends_as k (asks b.kind job.formula))) job.went
