-- Which keys verifying traces hold, and from one book to the next.
use Rattle.std.proofs.Common.{◌≡◌, ℕ, List, Some, None, ap, sym, ◌∙◌, subst}
use Rattle.carte_value.specs.Lists.{Has}
use Rattle.carte_value.specs.Truths.{Among}
use Rattle.carte_book.specs.Book.{Book, clean}
use Rattle.carte_book.specs.Needs.{needs}
use Rattle.carte_book.specs.Task.{task_digest_of, task_now}
use Rattle.carte_record.specs.declared.entry.Entry.{Entry}
use Rattle.carte_record.specs.declared.trace.Trace.{Trace}
use Rattle.carte_record.specs.declared.way.Way.TheVariants.{Verifying}
use Rattle.carte_record.specs.Kept.{SomeKept}
use Rattle.carte_sound.specs.Base.{IsBase}
use Rattle.carte_sound.specs.Begun.{Beginning, IsBeginning, begin}
use Rattle.carte_sound.specs.Held.{tracing, AreLinks, clean_digest, IsHeldBy, IsHeld}
use Rattle.carte_sound.specs.Results.{HasResult, IsKeptNow}
use Rattle.carte_sound.specs.True.{digest_or, links_to, IsTraceOf}
use Rattle.carte_sound.proofs.Held.{need_has_value, link_agrees, verifying_held}
use Rattle.carte_sound.proofs.Tasks.{own_task, rule_of_task, same_task}
use Rattle.carte_sound.proofs.Minimal.{links_hold, needs_known}
use Rattle.carte_sound.proofs.Next.{next_held}
use Rattle.carte_rebuild.proofs.Tasked.{task_there}

-- the needs have the values that they had where the trace was made, and the entry is of there too
pub minimal : (K : SomeKept) (b c : Book) (k : List ℕ) (t : Trace) (e : Entry) → Has (K.traces Verifying k) t → IsTraceOf Verifying c k t → K.entries k ≡ Some e → e.result ≡ digest_or (clean c k) → task_now b k ≡ task_now c k → ((j : List ℕ) → Among (needs c k) j → clean b j ≡ clean c j) → IsHeld (tracing Verifying) K b k
minimal K b c k t e kept of at result task same = (
  t,
  record {
    kept = kept;
    task = task ∙ task_there Verifying c k t of;
    links = subst (λ (x : Trace). AreLinks (clean_digest b) x.links) (sym of.trace) (links_hold b c (needs c k) (need_has_value c k of.formula of.value of.is_rule of.clean) same);
    trusted = (e, at, result ∙ sym (ap (λ (x : Trace). x.result) of.trace));
  },
)

-- a trace without such an entry holds nothing
pub without_entry : (K : SomeKept) (b : Book) (k : List ℕ) → K.entries k ≡ None → ¬ (IsHeld (tracing Verifying) K b k)
without_entry K b k none (t, held) = (let both : None ≡ Some held.trusted.0 = sym none ∙ held.trusted.1 in cc)

-- the trace that holds a key has the result of its entry
last_result : (K : SomeKept) (b : Book) (k : List ℕ) (t : Trace) (e : Entry) → IsHeldBy Verifying K b k t → K.entries k ≡ Some e → t.result ≡ e.result
last_result K b k t e held kept =
    let both : Some held.trusted.0 ≡ Some e = sym held.trusted.1 ∙ kept in
    let one : held.trusted.0 ≡ e = cc in
    sym held.trusted.2 ∙ ap (λ (x : Entry). x.result) one

pub without_trace : (K : SomeKept) (b : Book) (k : List ℕ) (e : Entry) → K.entries k ≡ Some e → ((t : Trace) → Has (K.traces Verifying k) t → ¬ (t.result ≡ e.result)) → ¬ (IsHeld (tracing Verifying) K b k)
without_trace K b k e kept differ (t, held) = differ t held.kept (last_result K b k t e held kept)

module _ (K : SomeKept) (b : Book) (H : List Book) (base : IsBase K b H) (k : List ℕ) where
  -- the links are true now, and the entry has that result
  pub kept_now : IsHeld (tracing Verifying) K b k → IsKeptNow K b k
  kept_now (t, held) = record {
    entry = held.trusted.0;
    kept = held.trusted.1;
    result = subst (HasResult K b k) (sym held.trusted.2) (verifying_held K b H base k t held).0;
  }

  -- a key whose needs keep their values stays held, whatever has run beneath it
  cutoff : (c : Book) → task_now c k ≡ task_now b k → ((j : List ℕ) → Among (needs b k) j → clean c j ≡ clean b j) → IsHeld (tracing Verifying) K b k → IsHeld (tracing Verifying) K c k
  cutoff c task same held =
      let r = verifying_held K b H base k held.0 held.1 in
      (held.0, record { kept = held.1.kept; task = task ∙ held.1.task; links = subst (AreLinks (clean_digest c)) (sym r.1) (links_hold c b (needs b k) (needs_known b k r.0.value r.0.clean) same); trusted = held.1.trusted })

  -- and in the build of that book, of which it is a rule
  pub cutoff_next : (c : Book) (x : Beginning) → IsHeld (tracing Verifying) K b k → task_now c k ≡ task_now b k → ((j : List ℕ) → Among (needs b k) j → clean c j ≡ clean b j) → IsBeginning K c x → IsHeld (tracing Verifying) (begin K x) c k
  cutoff_next c x held task same begins =
      let r = rule_of_task c k held.0.task (task ∙ held.1.task) in
      next_held Verifying K H c x base.sound begins k (r.0, r.1) (cutoff c task same held)

  -- links that hold are to values that stayed
  pub unchanged : (c : Book) (t : Trace) → Has H c → IsTraceOf Verifying c k t → IsHeldBy Verifying K b k t → (j : List ℕ) → Among (needs c k) j → clean b j ≡ clean c j
  unchanged c t stood of held j among =
      let w = need_has_value c k of.formula of.value of.is_rule of.clean j among in
      let then : AreLinks (clean_digest b) (links_to (clean c) (needs c k)) = subst (λ (x : Trace). AreLinks (clean_digest b) x.links) of.trace held.links in
      let task : t.task ≡ task_digest_of c.kind of.formula = ap (λ (x : Trace). x.task) of.trace ∙ own_task c k of.formula of.is_rule in
      let same = same_task H base.distinct c b stood base.present k of.formula of.is_rule (held.task ∙ ap Some task) in
      link_agrees H base.distinct c b stood base.present same.0 (needs c k) then j among w.0 w.1 ∙ sym w.1
