-- What is sound in version 1 is sound in version 2, under the tasks of a book with the same rules.
use Rattle.std.proofs.Common.{◌≡◌, ℕ, true, false, cond, List, [], ◌∷◌, ◌++◌, Option, Some, None, refl, ap, sym, ◌∙◌, inl, inr, subst}
use Rattle.carte_value.specs.declared.digest.Digest.{Digest}
use Rattle.carte_value.specs.Lists.{Has}
use Rattle.carte_value.specs.Truths.{Among}
use Rattle.carte_tree.specs.Tree.{Tree}
use Rattle.carte_book.specs.Book.{rule, Book, content}
use Rattle.carte_book.specs.Digest.{rules_digest_of}
use Rattle.carte_book.specs.Needs.{IsRule}
use Rattle.carte_book.specs.Task.{task_digest_of, task_now}
use Rattle.carte_book.proofs.Tasks.{one_task, task_of_rule}
use Rattle.carte_record.specs.Kept.{nothing_kept}
use Rattle.carte_record.specs.declared.entry.Entry.{Entry}
use Rattle.carte_record.specs.declared.way.Way.{Way}
use Rattle.carte_record.specs.Ways.{TraceBy}
use Rattle.carte_record_one.specs.Kept.{SomeKeptOne, is_fresh_one}
use Rattle.carte_record_one.specs.declared.entry.EntryOne.{EntryOne}
use Rattle.carte_sound.specs.Begun.{is_digest}
use Rattle.carte_sound.specs.Base.{SameRules, HasDistinctDigests}
use Rattle.carte_sound.specs.Sound.{IsRuled, IsFreshIn, IsEntryOfSome, IsTraceOfSome, IsSound}
use Rattle.carte_sound.specs.True.{or_none}
use Rattle.carte_sound.proofs.Begins.{has_left, has_last}
use Rattle.carte_sound.proofs.Begun.{not_both}
use Rattle.carte_sound.proofs.Histories.{nothing_sound}
use Rattle.carte_sound.proofs.Tasks.{own_task}
use Rattle.carte_sound.proofs.Tests.{same_digest}
use Rattle.carte_sound_one.specs.Marks.{IsFreshOne, LeadsOne, need, on}
use Rattle.carte_sound_one.specs.Sound.{StoodOne, IsFreshInOne, IsSoundOne}
use Rattle.carte_sound_one.specs.True.{IsEntryOfOne}
use Rattle.carte_sound_one.specs.Up.{raised_entry, raised, up}
use Rattle.carte_sound_one.proofs.Raised.{raised_from, raised_at, trace_from, raised_result, raised_of, led_before, fresh_at}

module _ (K : SomeKeptOne) (H : List Book) (b : Book) (sound : IsSoundOne K H) (distinct : HasDistinctDigests (H ++ b ∷ [])) (rules : K.rules ≡ Some (rules_digest_of b)) where
  -- a book that stood with the kept rules has the digest of the present ones
  digest_same : (c : Book) → StoodOne H K c → rules_digest_of c ≡ rules_digest_of b
  digest_same c stood = let both : Some (rules_digest_of c) ≡ Some (rules_digest_of b) = sym stood.rules ∙ rules in cc

  -- so it has the present rules
  to_now : (c : Book) → StoodOne H K c → SameRules c b
  to_now c stood = distinct.rules c b (has_left H (b ∷ []) c stood.stood) (has_last H b) (digest_same c stood)

  from_now : (c : Book) → StoodOne H K c → SameRules b c
  from_now c stood = distinct.rules b c (has_last H b) (has_left H (b ∷ []) c stood.stood) (sym (digest_same c stood))

  task_same : (c : Book) → StoodOne H K c → (k : List ℕ) (f : Tree) → content c k ≡ Some (rule f) → task_now b k ≡ task_now c k
  task_same c stood k f is = let same = to_now c stood in one_task b c k k f (sym same.kind) (same.rules k f is) is

  -- two books that stood have the same rules
  rule_over : (c d : Book) → StoodOne H K c → StoodOne H K d → (k : List ℕ) → IsRule c k → IsRule d k
  rule_over c d in_c in_d k r = (r.0, (from_now d in_d).rules k r.0 ((to_now c in_c).rules k r.0 r.1))

  -- each rule that a fresh key leads to has a fresh entry, through entries of different books
  led_fresh : (k : List ℕ) (e : EntryOne) → K.entries k ≡ Some e → is_fresh_one e ≡ true → (i : List ℕ) → LeadsOne K k i → IsRule b i → IsFreshOne K i
  led_fresh k e kept fresh i (need d there among) is_rule =
      let equal : d ≡ e = (let both : Some d ≡ Some e = sym there ∙ kept in cc) in
      let s = sound.entries k e kept in
      (s.fresh fresh).rules i (subst (λ (y : EntryOne). Among y.needs i) equal among) (is_rule.0, (from_now s.book s.stood).rules i is_rule.0 is_rule.1)
  led_fresh k e kept fresh i (on {i = j} d there among leads) is_rule =
      let equal : d ≡ e = (let both : Some d ≡ Some e = sym there ∙ kept in cc) in
      let s = sound.entries k e kept in
      let x = entry_of leads in
      let at = sound.entries j x.0 x.1 in
      let r = (s.fresh fresh).rules j (subst (λ (y : EntryOne). Among y.needs j) equal among) (rule_over at.book s.book at.stood s.stood j (at.entry.formula, at.entry.is_rule)) in
      led_fresh j r.entry r.kept r.fresh i leads is_rule
    where
      entry_of : LeadsOne K j i → (x : EntryOne) × (K.entries j ≡ Some x)
      entry_of (need y at here) = (y, at)
      entry_of (on y at here further) = (y, at)

  -- the task of an entry that is raised is that of its own book
  raised_task : (c : Book) → StoodOne H K c → (k : List ℕ) (d : EntryOne) → (t : IsEntryOfOne c k d) → (raised_entry b d).task ≡ task_digest_of c.kind t.formula
  raised_task c stood k d t = ap (λ j. or_none (task_now b j)) t.key ∙ ap or_none (task_same c stood k t.formula t.is_rule) ∙ own_task c k t.formula t.is_rule

  -- a rule with an entry has its task in every book that stood
  raised_ruled : (c : Book) → StoodOne H K c → (i : List ℕ) → IsRule c i → IsFreshOne K i → IsRuled (raised K b) c i
  raised_ruled c stood i r f =
      let s = sound.entries i f.entry f.kept in
      let own : or_none (task_now b i) ≡ task_digest_of c.kind r.0 = ap or_none (task_same c stood i r.0 r.1) ∙ own_task c i r.0 r.1 in
      record {
        entry = raised_entry b f.entry;
        kept = raised_at K b i f.entry f.kept;
        task = task_of_rule c i r.0 r.1 ∙ ap Some (sym own ∙ ap (λ j. or_none (task_now b j)) (sym s.entry.key));
      }

  fresh_raised : (c : Book) → StoodOne H K c → (k : List ℕ) (d : EntryOne) → K.entries k ≡ Some d → is_fresh_one d ≡ true → IsFreshInOne K c k d → IsFreshIn (raised K b) c k (raised_entry b d)
  fresh_raised c stood k d kept fresh f = record {
    names = λ i leads. let there = led_before K b k i leads in elim (f.names i there) [
      | inl s ↦ inl (record { value = s.value; is_input = s.is_input; seen = s.seen })
      | inr r ↦ inr (raised_ruled c stood i r (led_fresh k d kept fresh i there (r.0, (to_now c stood).rules i r.0 r.1)))
    ];
    rules = λ j among r. fresh_at K b j (f.rules j among r);
  }

  entry_raised : (k : List ℕ) (e : Entry) → (raised K b).entries k ≡ Some e → IsEntryOfSome (raised K b) (H ++ b ∷ []) k e
  entry_raised k e kept =
      let from = raised_from K b k e kept in
      let d = from.0 in
      let s = sound.entries k d from.1 in
      let t = s.entry in
      subst (λ y. IsEntryOfSome (raised K b) (H ++ b ∷ []) k y) (sym from.2) (record {
        book = s.book;
        stood = has_left H (b ∷ []) s.book s.stood.stood;
        entry = record { formula = t.formula; is_rule = t.is_rule; value = t.value; clean = t.clean; key = t.key; task = raised_task s.book s.stood k d t; result = t.result; needs = t.needs };
        fresh = λ fresh. fresh_raised s.book s.stood k d from.1 fresh (s.fresh fresh);
      })

  trace_raised : (w : Way) (k : List ℕ) (t : TraceBy w) → Has ((raised K b).traces w k) t → IsTraceOfSome (raised K b) (H ++ b ∷ []) w k t
  trace_raised w k t there =
      let from = trace_from K b w k t there in
      let s = sound.traces w k from.0 from.1 in
      let o = s.trace in
      record {
        book = s.book;
        stood = has_left H (b ∷ []) s.book s.stood.stood;
        trace = record {
          formula = o.formula;
          is_rule = o.is_rule;
          value = o.value;
          clean = o.clean;
          trace = raised_of K b w s.book k t from.0 from.2 o.trace (task_same s.book s.stood k o.formula o.is_rule);
        };
        entry = raised_entry b s.entry;
        kept = raised_at K b k s.entry s.kept;
      }

  pub raised_sound : IsSound (raised K b) (H ++ b ∷ [])
  raised_sound = record {
    traces = trace_raised;
    entries = entry_raised;
    stored = λ d v is. let s = sound.stored d v is in (s.0, record { book = s.1.book; stood = has_left H (b ∷ []) s.1.book s.1.stood; name = s.1.name; is_rule = s.1.is_rule; clean = s.1.clean });
    entry_stored = λ k e kept.
        let from = raised_from K b k e kept in
        let s = sound.entry_stored k from.0 from.1 in
        (s.0, ap (λ (y : Entry). K.stored y.result) from.2 ∙ s.1);
    trace_stored = λ w k t there.
        let from = trace_from K b w k t there in
        let s = sound.trace_stored w k from.0 from.1 in
        (s.0, ap K.stored (raised_result K b w t from.0 from.2) ∙ s.1);
    chain = sound.chain;
    apart = λ i d e seen kept.
        let from = raised_from K b i e kept in
        let s = sound.seen i d seen in
        let t = sound.entries i from.0 from.1 in
        let r = rule_over t.book s.book t.stood s.stood i (t.entry.formula, t.entry.is_rule) in
        not_both s.book i s.value r.0 s.is_input r.1;
  }

pub up_sound : (K : SomeKeptOne) (H : List Book) (b : Book) → IsSoundOne K H → HasDistinctDigests (H ++ b ∷ []) → IsSound (up K b) (H ++ b ∷ [])
up_sound K H b sound distinct = elim (is_digest K.rules (rules_digest_of b)) as (λ t. is_digest K.rules (rules_digest_of b) ≡ t → IsSound (cond t (raised K b) nothing_kept) (H ++ b ∷ [])) [
  | true ↦ λ is. raised_sound K H b sound distinct (rules_kept K.rules is)
  | false ↦ λ is. nothing_sound (H ++ b ∷ [])
] refl
  where
    rules_kept : (o : Option Digest) → is_digest o (rules_digest_of b) ≡ true → o ≡ Some (rules_digest_of b)
    rules_kept None is = cc
    rules_kept (Some d) is = ap Some (same_digest d (rules_digest_of b) is)
