-- Which keys constructive traces hold, and from one book to the next.
use Rattle.std.proofs.Common.{◌≡◌, ℕ, List, [], Some, ap, sym, ◌∙◌, subst}
use Rattle.carte_value.specs.declared.digest.Digest.{Digest}
use Rattle.carte_value.specs.Lists.{Has}
use Rattle.carte_value.specs.Spelling.{digest_of}
use Rattle.carte_value.specs.Truths.{Among, NoneTwice}
use Rattle.carte_book.specs.Book.{Book, clean}
use Rattle.carte_book.specs.Needs.{IsRule, needs}
use Rattle.carte_book.specs.Task.{task_digest_of, task_now}
use Rattle.carte_record.specs.declared.trace.Trace.{Trace}
use Rattle.carte_record.specs.declared.way.Way.TheVariants.{Constructive}
use Rattle.carte_record.specs.Kept.{SomeKept}
use Rattle.carte_sound.specs.Base.{HasDistinctDigests, IsBase}
use Rattle.carte_sound.specs.Begun.{Beginning, IsBeginning, begin}
use Rattle.carte_sound.specs.Finished.{AreFinished}
use Rattle.carte_sound.specs.Held.{How, tracing, AreLinks, clean_digest, IsHeldBy, IsHeld}
use Rattle.carte_sound.specs.Left.{Finishes, left}
use Rattle.carte_sound.specs.Results.{HasResult}
use Rattle.carte_sound.specs.Sound.{IsSound}
use Rattle.carte_sound.specs.True.{links_to, IsTraceOf}
use Rattle.carte_sound.proofs.Held.{need_has_value, link_agrees, constructive_held}
use Rattle.carte_sound.proofs.Tasks.{own_task, rule_of_task, same_task}
use Rattle.carte_sound.proofs.Minimal.{links_hold, needs_known}
use Rattle.carte_sound.proofs.Next.{next_held}
use Rattle.carte_sound.proofs.TracesKept.{same_parts}
use Rattle.carte_rebuild.proofs.SetBack.{held_again}
use Rattle.carte_rebuild.proofs.Tasked.{task_there}

-- the needs have the values that they had where the trace was made
pub minimal : (K : SomeKept) (b c : Book) (k : List ℕ) (t : Trace) → Has (K.traces Constructive k) t → IsTraceOf Constructive c k t → task_now b k ≡ task_now c k → ((j : List ℕ) → Among (needs c k) j → clean b j ≡ clean c j) → IsHeld (tracing Constructive) K b k
minimal K b c k t kept of task same = (
  t,
  record {
    kept = kept;
    task = task ∙ task_there Constructive c k t of;
    links = subst (λ (x : Trace). AreLinks (clean_digest b) x.links) (sym of.trace) (links_hold b c (needs c k) (need_has_value c k of.formula of.value of.is_rule of.clean) same);
    trusted = tt;
  },
)

-- the same traces hold the same
pub traces_hold : (K L : SomeKept) (b : Book) (k : List ℕ) → L.traces Constructive k ≡ K.traces Constructive k → IsHeld (tracing Constructive) K b k → IsHeld (tracing Constructive) L b k
traces_hold K L b k same (t, held) = (t, record { kept = subst (λ ts. Has ts t) (sym same) held.kept; task = held.task; links = held.links; trusted = tt })

-- a build takes no trace away of a rule, nor does the beginning of the next
pub set_back : (h : How) (K : SomeKept) (b c : Book) (H : List Book) (k : List ℕ) (y : Beginning) (finished : Finishes) (chain : List (List ℕ)) (x : Beginning) → IsSound K H → Has H c → HasDistinctDigests H → IsBeginning K c y → NoneTwice chain → AreFinished h c (begin K y) [] finished → IsRule c k → IsHeld (tracing Constructive) K b k
    → IsBeginning (left h c (begin K y) finished chain) b x → IsHeld (tracing Constructive) (begin (left h c (begin K y) finished chain) x) b k
set_back h K b c H k y finished chain x sound stood distinct begins once are rule_c held again =
    let r = rule_of_task b k held.0.task held.1.task in
    held_again Constructive (λ M q t. tt) h K b c H k y finished chain x sound stood distinct begins once are rule_c (r.0, r.1) held again

-- a key has one result
same_result : (K : SomeKept) (b : Book) (k : List ℕ) (d e : Digest) → HasResult K b k d → HasResult K b k e → d ≡ e
same_result K b k d e r s =
    let both : Some r.value ≡ Some s.value = sym r.clean ∙ s.clean in
    let one : r.value ≡ s.value = cc in
    r.digest ∙ ap digest_of one ∙ sym s.digest

module _ (K : SomeKept) (b : Book) (H : List Book) (base : IsBase K b H) (k : List ℕ) where
  -- a key whose needs keep their values stays held, whatever has run beneath it
  cutoff : (c : Book) → task_now c k ≡ task_now b k → ((j : List ℕ) → Among (needs b k) j → clean c j ≡ clean b j) → IsHeld (tracing Constructive) K b k → IsHeld (tracing Constructive) K c k
  cutoff c task same held =
      let r = constructive_held K b H base k held.0 held.1 in
      (held.0, record { kept = held.1.kept; task = task ∙ held.1.task; links = subst (AreLinks (clean_digest c)) (sym r.1) (links_hold c b (needs b k) (needs_known b k r.0.value r.0.clean) same); trusted = tt })

  -- and in the build of that book, of which it is a rule
  pub cutoff_next : (c : Book) (x : Beginning) → IsHeld (tracing Constructive) K b k → task_now c k ≡ task_now b k → ((j : List ℕ) → Among (needs b k) j → clean c j ≡ clean b j) → IsBeginning K c x → IsHeld (tracing Constructive) (begin K x) c k
  cutoff_next c x held task same begins =
      let r = rule_of_task c k held.0.task (task ∙ held.1.task) in
      next_held Constructive K H c x base.sound begins k (r.0, r.1) (cutoff c task same held)

  -- links that hold are to values that stayed
  pub unchanged : (c : Book) (t : Trace) → Has H c → IsTraceOf Constructive c k t → IsHeldBy Constructive K b k t → (j : List ℕ) → Among (needs c k) j → clean b j ≡ clean c j
  unchanged c t stood of held j among =
      let w = need_has_value c k of.formula of.value of.is_rule of.clean j among in
      let then : AreLinks (clean_digest b) (links_to (clean c) (needs c k)) = subst (λ (x : Trace). AreLinks (clean_digest b) x.links) of.trace held.links in
      let task : t.task ≡ task_digest_of c.kind of.formula = ap (λ (x : Trace). x.task) of.trace ∙ own_task c k of.formula of.is_rule in
      let same = same_task H base.distinct c b stood base.present k of.formula of.is_rule (held.task ∙ ap Some task) in
      link_agrees H base.distinct c b stood base.present same.0 (needs c k) then j among w.0 w.1 ∙ sym w.1

  -- a trace of the key has its name
  named : (t : Trace) → IsHeldBy Constructive K b k t → t.key ≡ k
  named t held = ap (λ (x : Trace). x.key) (base.sound.traces Constructive k t held.kept).trace.trace

  -- traces that hold have the present links and the present result
  pub one_holds : (s t : Trace) → IsHeldBy Constructive K b k s → IsHeldBy Constructive K b k t → s ≡ t
  one_holds s t one other =
      let r = constructive_held K b H base k s one in
      let q = constructive_held K b H base k t other in
      let task : s.task ≡ t.task = (let both : Some s.task ≡ Some t.task = sym one.task ∙ other.task in cc) in
      same_parts s t (named s one ∙ sym (named t other)) task (r.1 ∙ sym q.1) (same_result K b k s.result t.result r.0 q.0)
