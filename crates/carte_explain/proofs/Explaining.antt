-- Why a key ran, from what its work found.
use Rattle.std.proofs.Common.{◌≡◌, ℕ, Bool, true, false, not, ◌&&◌, ◌||◌, cond, List, [], ◌∷◌, ◌++◌, Option, Some, None, option_map, refl, ap, sym, ◌∙◌, subst, inl, inr}
use Rattle.std.specs.Prelude.{find, is_none, unwrap_or}
use Rattle.carte_value.specs.declared.digest.Digest.{Digest}
use Rattle.carte_value.specs.declared.link.Link.{Link}
use Rattle.carte_value.specs.declared.value.Value.{Value}
use Rattle.carte_value.specs.declared.value.Value.TheVariants.{Empty}
use Rattle.carte_value.specs.Lists.{Has}
use Rattle.carte_value.specs.Spelling.{digest_of}
use Rattle.carte_value.specs.Truths.{Among}
use Rattle.carte_name.specs.Names.{name_eq}
use Rattle.carte_tree.specs.Tree.{Tree}
use Rattle.carte_book.specs.Book.{Book, Item, input, rule, content, clean}
use Rattle.carte_book.specs.Needs.{IsRule}
use Rattle.carte_book.specs.Reason.{AllClean, IsClean}
use Rattle.carte_book.specs.Task.{task_digest_of, task_now}
use Rattle.carte_book.proofs.Clean.{clean_nothing}
use Rattle.carte_book.proofs.Tasks.{task_of_rule}
use Rattle.carte_effect.specs.declared.outcome.Made.{Made}
use Rattle.carte_effect.specs.declared.outcome.Made.TheVariants.{Ran, Reused}
use Rattle.carte_note.specs.declared.finished.Finished.{Finished}
use Rattle.carte_note.specs.Lists.{finished_of}
use Rattle.carte_note.specs.Right.{Came, has_run}
use Rattle.carte_record.specs.declared.entry.Entry.{Entry}
use Rattle.carte_record.specs.declared.kept.Kept.{Kept}
use Rattle.carte_record.specs.declared.trace.Trace.{Trace}
use Rattle.carte_record.specs.declared.way.Way.{Way}
use Rattle.carte_record.specs.declared.way.Way.TheVariants.{Verifying, Constructive, Deep}
use Rattle.carte_record.specs.Folds.{is_among}
use Rattle.carte_record.specs.Kept.{SomeKept, kept_view, staled}
use Rattle.carte_record.specs.Lookups.{first_entry, is_trace_of}
use Rattle.carte_rebuild.specs.Earlier.{is_wanted}
use Rattle.carte_rebuild.proofs.TracedChecks.{OfNeeds, of_constructive, of_verifying}
use Rattle.carte_rebuild.proofs.TracesOf.{traces_there, traces_only}
use Rattle.carte_rebuild.specs.Ends.{IsWork}
use Rattle.carte_rebuild.specs.declared.work.Work.{Work}
use Rattle.carte_sound.specs.Base.{HasDistinctDigests, IsBase}
use Rattle.carte_sound.specs.Begun.{Beginning, IsBeginning, IsByRole, begin}
use Rattle.carte_sound.specs.Held.{How, dirty, tracing, AreLinks, are_so, clean_digest, digest_now, IsTasked, IsHeld}
use Rattle.carte_sound.specs.Marks.{IsChanged, IsMarked}
use Rattle.carte_sound.specs.Sound.{IsSound, IsTraceOfSome}
use Rattle.carte_sound.specs.Treated.{IsTreated, IsDoneSuspending}
use Rattle.carte_sound.specs.Treated as treated
use Rattle.carte_sound.proofs.Begins.{begun_base, behind_sound, has_last}
use Rattle.carte_sound.proofs.ByRole.{by_role}
use Rattle.carte_sound.proofs.Held.{need_has_value}
use Rattle.carte_sound.proofs.SoNow.{so_links, links_so}
use Rattle.carte_sound.proofs.Tests.{digest_self, same_digest, staled_from, tested_among}
use Rattle.carte_table.specs.Lookups.{digest_eq}
use Rattle.carte_explain.specs.Found.{FindsCause, FindsEntry, FindsMark, by_task, constructive_why, deep_why, digest_found, is_apart, is_match, is_of_needs, matching_why, path_why, stored_why, traces_why, verifying_why}
use Rattle.carte_explain.specs.Paths.{EndsIn, IsChangedAnswer, is_seen_changed, needs_at}
use Rattle.carte_explain.specs.Why.{IsCause, IsEntered, IsNew, IsWhy, how_of}
use Rattle.carte_explain.specs.declared.why.RebuilderKind.{RebuilderKind}
use Rattle.carte_explain.specs.declared.why.RebuilderKind.TheVariants as kind
use Rattle.carte_explain.specs.declared.why.Why.{Why}
use Rattle.carte_explain.specs.declared.why.Why.TheVariants.{DirtyInput, DirtyRule, Input, Reusable}
use Rattle.carte_explain.proofs.Asking.{asks_first}
use Rattle.carte_explain.proofs.Changing.{ends_other, ends_seen}
use Rattle.carte_explain.proofs.Leading.{no_change, path_ends}
use Rattle.carte_explain.proofs.Parts.{both, find_has, find_none}
use Rattle.carte_explain.proofs.Tracing.{Tells, TestsTasks, from_newest, links_match, match_found}
use Rattle.carte_explain.proofs.Working.{clean_found, finished_among, finished_there, found_clean, found_deep, right_of}

needs_way : (w : Way) → OfNeeds w → is_of_needs w ≡ true
needs_way Verifying of = refl
needs_way Constructive of = refl
needs_way Deep of = (let never : false ≡ true = of.looks in cc)

as_clean : (w : Way) → OfNeeds w → (b : Book) (j : List ℕ) → digest_now w b j ≡ clean_digest b j
as_clean Verifying of b j = refl
as_clean Constructive of b j = refl
as_clean Deep of b j = (let never : false ≡ true = of.looks in cc)

are_as : (w : Way) → OfNeeds w → (b : Book) (ls : List Link) → AreLinks (digest_now w b) ls → AreLinks (clean_digest b) ls
are_as Verifying of b ls are = are
are_as Constructive of b ls are = are
are_as Deep of b ls are = (let never : false ≡ true = of.looks in cc)

new_needs : (w : Way) → OfNeeds w → (now found : Option Digest) (d : Digest) → now ≡ Some d → found ≡ Some d → IsNew w now (unwrap_or found (digest_of Empty))
new_needs Verifying of now found d is there = is ∙ ap (λ o. Some (unwrap_or o (digest_of Empty))) (sym there)
new_needs Constructive of now found d is there = is ∙ ap (λ o. Some (unwrap_or o (digest_of Empty))) (sym there)
new_needs Deep of now found d is there = (let never : false ≡ true = of.looks in cc)

-- a key of these traces that ran: its needs are finished
pub tells_needs : (w : Way) → OfNeeds w → (M : SomeKept) (b : Book) (H : List Book) → IsBase M b H → (targets : List (List ℕ)) (x : Work) → IsWork (tracing w) M b (IsDoneSuspending (tracing w) M b targets) x
    → (k : List ℕ) → IsTreated (tracing w) M b targets k → ¬ (IsHeld (tracing w) M b k) → (e : Tree) (v : Value) → content b k ≡ Some (rule e) → clean b k ≡ Some v → Tells w M b x.finished k
tells_needs w of M b H base targets x work k is_treated unheld e v is_rule is_clean = record {
  more = λ j d found. as_clean w of b j ∙ found_clean (tracing w) M b w x.finished (needs_way w of) work.right j d found;
  here = λ t kept task before behind l parted same.
      let need = asks_first w of M b H base k t (base.sound.traces w k t kept) task before behind l parted (are_as w of b before same) in
      let has = need_has_value b k e v is_rule is_clean l.name need in
      let found = clean_found (tracing w) M b w x.finished (needs_way w of) work.right l.name has.0 has.1 (λ ruled. work.order.each l.name (treated.IsTreated.need is_treated (λ held. absurd (unheld held)) need ruled, has)) in
      let now = as_clean w of b l.name ∙ ap (option_map digest_of) has.1 in
      (found ∙ sym now, new_needs w of (digest_now w b l.name) (digest_found w b x.finished l.name) (digest_of has.0) now found);
}

pub tells_deep : (M : SomeKept) (b : Book) (fs : List Finished) (k : List ℕ) → Tells Deep M b fs k
tells_deep M b fs k = record {
  more = λ j d found. sym (found_deep b fs j) ∙ found;
  here = λ t kept task before behind l parted same. (found_deep b fs l.name, ap (λ o. unwrap_or o (digest_of Empty)) (found_deep b fs l.name));
}

is_nothing : {A : Type 0} (o : Option A) → is_none o ≡ true → o ≡ None
is_nothing None is = refl
is_nothing (Some x) is = cc

-- a trace of needs of the present task, by the test
module _ (b : Book) (k : List ℕ) (task : Digest) (wanted : task_now b k ≡ Some task) where
  of_task : (t : Trace) → digest_eq task t.task ≡ true → task_now b k ≡ Some t.task
  of_task t test = wanted ∙ ap Some (same_digest task t.task test)

  has_task : (t : Trace) → task_now b k ≡ Some t.task → digest_eq task t.task ≡ true
  has_task t is =
      let e : Some task ≡ Some t.task = sym wanted ∙ is in
      let same : task ≡ t.task = cc in
      ap (digest_eq task) (sym same) ∙ digest_self task

-- what the test of a deep trace says
deep_tests : (b : Book) (k : List ℕ) → TestsTasks Deep b k (λ t. not true || are_so (task_now b) t.tasks)
deep_tests b k = record { tells = λ t test. so_links (task_now b) t.tasks test; told = λ t are. links_so (task_now b) t.tasks are }

-- a rule that isn't held, over what the build begins with
module _ (K : Kept) (b : Book) (H : List Book) (x : Beginning) (begins : IsBeginning (kept_view K) b x) (base : IsBase (begin (kept_view K) x) b H) (role : IsByRole (kept_view K) b x (begin (kept_view K) x)) (fs : List Finished) (k : List ℕ) (is_rule : IsRule b k) where
  abbrev M : SomeKept
  M = begin (kept_view K) x

  module _ (task : Digest) (wanted : task_now b k ≡ Some task) (tells : Tells Verifying M b fs k) (unheld : ¬ (IsHeld (tracing Verifying) M b k)) where
    abbrev matches : Trace → Bool
    matches = is_match (digest_found Verifying b fs) k task

    never : find matches K.verifying ≡ None → (t : Trace) → Has (M.traces Verifying k) t → IsTasked Verifying b k t → ¬ (AreLinks (digest_now Verifying b) t.links)
    never none t kept is_task are = elim (traces_only Verifying k K.verifying [] t (subst (λ ts. Has ts t) (role.traces Verifying k is_rule) kept)) [
      | inl (there, of_key) ↦
          let key : name_eq k t.key ≡ true = of_key in
          let same : digest_eq task t.task ≡ true = has_task b k task wanted t is_task in
          let alike : find (is_apart (digest_found Verifying b fs)) t.links ≡ None = match_found Verifying M b fs k tells t kept is_task are in
          let fails : ((name_eq k t.key && digest_eq task t.task) && is_none (find (is_apart (digest_found Verifying b fs)) t.links)) ≡ false = find_none matches K.verifying t none there in
          let passes : ((name_eq k t.key && digest_eq task t.task) && is_none (find (is_apart (digest_found Verifying b fs)) t.links)) ≡ true = rw (key, same, alike) refl in
          let n : true ≡ false = sym passes ∙ fails in
          cc
      | inr nowhere ↦ absurd nowhere
    ]

    other_result : (t : Trace) → find matches K.verifying ≡ Some t → IsCause (tracing Verifying) (kept_view K) M b k (stored_why (first_entry K.entries k) t)
    other_result t found = subst (λ o. IsCause (tracing Verifying) (kept_view K) M b k (stored_why o t)) (sym from.1) (
      is_rule,
      unheld,
      record {
        trace = t;
        kept = kept;
        task = is_task;
        links = links;
        entry = s.entry;
        entered = s.kept;
        stored_is = sym result;
        result_is = refl;
        differs = λ equal. unheld (t, record { kept = kept; task = is_task; links = links; trusted = (s.entry, s.kept, result ∙ equal) });
      },
    )
      where
        has : Has K.verifying t × (matches t ≡ true)
        has = find_has matches K.verifying t found

        parts : ((is_trace_of k t && digest_eq task t.task) ≡ true) × (is_none (find (is_apart (digest_found Verifying b fs)) t.links) ≡ true)
        parts = both (is_trace_of k t && digest_eq task t.task) (is_none (find (is_apart (digest_found Verifying b fs)) t.links)) has.1

        of_key : (is_trace_of k t ≡ true) × (digest_eq task t.task ≡ true)
        of_key = both (is_trace_of k t) (digest_eq task t.task) parts.0

        kept : Has (M.traces Verifying k) t
        kept = subst (λ ts. Has ts t) (sym (role.traces Verifying k is_rule)) (traces_there Verifying k K.verifying [] t has.0 of_key.0)

        is_task : task_now b k ≡ Some t.task
        is_task = of_task b k task wanted t of_key.1

        links : AreLinks (digest_now Verifying b) t.links
        links = links_match Verifying M b fs k tells t (is_nothing (find (is_apart (digest_found Verifying b fs)) t.links) parts.1)

        s : IsTraceOfSome M H Verifying k t
        s = base.sound.traces Verifying k t kept

        from : (e : Entry) × (first_entry K.entries k ≡ Some e) × (s.entry ≡ staled (is_among x.marks k) e)
        from = staled_from (is_among x.marks k) (first_entry K.entries k) s.entry (sym (role.entry k is_rule) ∙ s.kept)

        result : s.entry.result ≡ from.0.result
        result = ap (λ (e : Entry). e.result) from.2

    from_verifying : IsCause (tracing Verifying) (kept_view K) M b k (verifying_why K b fs k task)
    from_verifying = on (find matches K.verifying) refl
      where
        on : (o : Option Trace) → find matches K.verifying ≡ o → IsCause (tracing Verifying) (kept_view K) M b k (matching_why o (first_entry K.entries k) (traces_why Verifying K.verifying b fs k task))
        on None none = from_newest Verifying M b fs k tells (kept_view K) K (role.traces Verifying k is_rule) is_rule unheld (λ t. is_wanted (Some task) t.task) (λ t. is_wanted None t.task)
            (record { tells = of_task b k task wanted; told = has_task b k task wanted }) (λ t. refl) (never none) (never none)
        on (Some t) found = other_result t found

  -- a fresh entry that isn't held leads to a change
  leads_on : (e : Entry) → first_entry K.entries k ≡ Some e → e.stale ≡ false → e.shallow ≡ false → ¬ (IsHeld dirty M b k) → IsMarked (kept_view K) b k
  leads_on e is fresh full unheld = on (is_among x.marks k) refl
    where
      on : (m : Bool) → is_among x.marks k ≡ m → IsMarked (kept_view K) b k
      on true there = begins.marks.only k (tested_among x.marks k there)
      on false apart = absurd (unheld (record {
        entry = staled false e;
        kept = role.entry k is_rule ∙ ap (option_map (staled (is_among x.marks k))) is ∙ ap (λ m. Some (staled m e)) apart;
        fresh = rw (fresh, full) refl;
      }))

  pub from_entry : ¬ (IsHeld dirty M b k) → (why : Why) → FindsEntry (first_entry K.entries k) (kept_view K) b k why → IsCause dirty (kept_view K) M b k why
  from_entry unheld why = on (first_entry K.entries k) refl
    where
      Causes : Why → Type 0
      Causes = IsCause dirty (kept_view K) M b k

      entered : (e : Entry) → first_entry K.entries k ≡ Some e → IsEntered M k
      entered e is = (staled (is_among x.marks k) e, role.entry k is_rule ∙ ap (option_map (staled (is_among x.marks k))) is)

      way : (e : Entry) → first_entry K.entries k ≡ Some e → e.stale ≡ false → e.shallow ≡ false → (path : List (List ℕ)) → IsChangedAnswer (kept_view K) b k (Some path) → Causes (path_why (kept_view K) b (Some path))
      way e is fresh full path first = subst (λ o. Causes (cond (is_seen_changed (kept_view K) b o) (DirtyInput path) (DirtyRule path))) (sym ends.1) (by (is_seen_changed (kept_view K) b (Some ends.0)) refl)
        where
          ends : EndsIn (IsChanged (kept_view K) b) path
          ends = path_ends (needs_at (kept_view K)) (IsChanged (kept_view K) b) (k ∷ []) path first.is_path

          by : (t : Bool) → is_seen_changed (kept_view K) b (Some ends.0) ≡ t → Causes (cond t (DirtyInput path) (DirtyRule path))
          by true test = (is_rule, unheld, entered e is, (e, is, fresh, full), first, ends_seen (kept_view K) b path ends test)
          by false test = (is_rule, unheld, entered e is, (e, is, fresh, full), first, ends_other (kept_view K) b path ends test)

      path : (e : Entry) → first_entry K.entries k ≡ Some e → e.stale ≡ false → e.shallow ≡ false → (o : Option (List (List ℕ))) → IsChangedAnswer (kept_view K) b k o → Causes (path_why (kept_view K) b o)
      path e is fresh full None nothing = absurd (no_change (kept_view K) b k nothing (leads_on e is fresh full unheld))
      path e is fresh full (Some first_path) first = way e is fresh full first_path first

      mark : (e : Entry) → first_entry K.entries k ≡ Some e → (s t : Bool) → e.stale ≡ s → e.shallow ≡ t → FindsMark s t (kept_view K) b k why → Causes why
      mark e is true t is_stale is_shallow found = subst Causes (sym found) (is_rule, unheld, entered e is, (e, is, is_stale))
      mark e is false true fresh is_shallow found = subst Causes (sym found) (is_rule, unheld, entered e is, (e, is, fresh, is_shallow))
      mark e is false false fresh full found = subst Causes (sym found.2) (path e is fresh full found.0 found.1)

      on : (o : Option Entry) → first_entry K.entries k ≡ o → FindsEntry o (kept_view K) b k why → Causes why
      on None is found = subst Causes (sym found) (is_rule, unheld, role.entry k is_rule ∙ ap (option_map (staled (is_among x.marks k))) is)
      on (Some e) is found = mark e is e.stale e.shallow refl refl found

  -- by the traces of each kind
  pub from_verified : Tells Verifying M b fs k → ¬ (IsHeld (tracing Verifying) M b k) → (why : Why) → why ≡ by_task (verifying_why K b fs k) (task_now b k) → IsCause (tracing Verifying) (kept_view K) M b k why
  from_verified tells unheld why found =
      let has = task_of_rule b k is_rule.0 is_rule.1 in
      subst (IsCause (tracing Verifying) (kept_view K) M b k) (sym (found ∙ ap (by_task (verifying_why K b fs k)) has)) (from_verifying (task_digest_of b.kind is_rule.0) has tells unheld)

  pub from_constructed : Tells Constructive M b fs k → ¬ (IsHeld (tracing Constructive) M b k) → (why : Why) → why ≡ by_task (constructive_why K b fs k) (task_now b k) → IsCause (tracing Constructive) (kept_view K) M b k why
  from_constructed tells unheld why found =
      let task = task_digest_of b.kind is_rule.0 in
      let has = task_of_rule b k is_rule.0 is_rule.1 in
      subst (IsCause (tracing Constructive) (kept_view K) M b k) (sym (found ∙ ap (by_task (constructive_why K b fs k)) has))
      (from_newest Constructive M b fs k tells (kept_view K) K (role.traces Constructive k is_rule) is_rule unheld (λ t. is_wanted (Some task) t.task) (λ t. is_wanted None t.task)
      (record { tells = of_task b k task has; told = has_task b k task has }) (λ t. refl)
      (λ t kept is_task are. unheld (t, record { kept = kept; task = is_task; links = are; trusted = tt })) tt)

  pub from_deep : Tells Deep M b fs k → ¬ (IsHeld (tracing Deep) M b k) → (why : Why) → why ≡ deep_why K b fs k → IsCause (tracing Deep) (kept_view K) M b k why
  from_deep tells unheld why found =
      subst (IsCause (tracing Deep) (kept_view K) M b k) (sym found)
      (from_newest Deep M b fs k tells (kept_view K) K (role.traces Deep k is_rule) is_rule unheld (λ t. not true || are_so (task_now b) t.tasks) (λ t. not false || are_so (task_now b) t.tasks) (deep_tests b k) (λ t. refl)
      (λ t kept is_task are. unheld (t, record { kept = kept; task = is_task; links = are; trusted = tt })) tt)

-- by what its work found
module _ (K : Kept) (b : Book) (H : List Book) (x : Beginning) (begins : IsBeginning (kept_view K) b x) (base : IsBase (begin (kept_view K) x) b H) (role : IsByRole (kept_view K) b x (begin (kept_view K) x)) (targets : List (List ℕ)) (work : Work) (k : List ℕ) (is_rule : IsRule b k) (is_clean : IsClean b k) where
  pub caused : (r : RebuilderKind) → IsWork (how_of r) (begin (kept_view K) x) b (IsDoneSuspending (how_of r) (begin (kept_view K) x) b targets) work → IsTreated (how_of r) (begin (kept_view K) x) b targets k → ¬ (IsHeld (how_of r) (begin (kept_view K) x) b k)
      → (why : Why) → FindsCause r K b work.finished k why → IsCause (how_of r) (kept_view K) (begin (kept_view K) x) b k why
  caused kind.Dirty is_work is_treated unheld why found = from_entry K b H x begins base role work.finished k is_rule unheld why found
  caused kind.Verifying is_work is_treated unheld why found =
      let tells = tells_needs Verifying of_verifying (begin (kept_view K) x) b H base targets work is_work k is_treated unheld is_rule.0 is_clean.0 is_rule.1 is_clean.1 in
      from_verified K b H x begins base role work.finished k is_rule tells unheld why found
  caused kind.Constructive is_work is_treated unheld why found =
      let tells = tells_needs Constructive of_constructive (begin (kept_view K) x) b H base targets work is_work k is_treated unheld is_rule.0 is_clean.0 is_rule.1 is_clean.1 in
      from_constructed K b H x begins base role work.finished k is_rule tells unheld why found
  caused kind.Deep is_work is_treated unheld why found = from_deep K b H x begins base role work.finished k is_rule (tells_deep (begin (kept_view K) x) b work.finished k) unheld why found

none_left : {A : Type 0} (f : Finished → A) (o : Option Finished) → None ≡ option_map f o → o ≡ None
none_left f None is = refl
none_left f (Some x) is = cc

some_left : {A : Type 0} (f : Finished → A) (o : Option Finished) (y : A) → Some y ≡ option_map f o → (x : Finished) × (o ≡ Some x) × (f x ≡ y)
some_left f None y is = cc
some_left f (Some x) y is = (x, refl, (let e : y ≡ f x = cc in sym e))

came_ran : (h : How) (M : SomeKept) (b : Book) (k : List ℕ) (m : Made) → has_run m ≡ true → Came h M b k m → ¬ (IsHeld h M b k)
came_ran h M b k (Ran o) is came = came.0
came_ran h M b k (Reused o) is came = cc

came_reused : (h : How) (M : SomeKept) (b : Book) (k : List ℕ) (m : Made) → has_run m ≡ false → Came h M b k m → IsHeld h M b k
came_reused h M b k (Ran o) is came = cc
came_reused h M b k (Reused o) is came = came.0

clean_among : (b : Book) (ks : List (List ℕ)) (k : List ℕ) → AllClean b ks → Among ks k → IsClean b k
clean_among b [] k all nowhere = absurd nowhere
clean_among b (j ∷ js) k all (inl same) = subst (IsClean b) (sym same) all.0
clean_among b (j ∷ js) k all (inr later) = clean_among b js k all.1 later

module _ (K : Kept) (b : Book) (r : RebuilderKind) (H : List Book) (targets : List (List ℕ)) (x : Beginning) (work : Work) (k : List ℕ) (sound : IsSound (kept_view K) H) (distinct : HasDistinctDigests (H ++ b ∷ [])) (begins : IsBeginning (kept_view K) b x)
    (is_work : IsWork (how_of r) (begin (kept_view K) x) b (IsDoneSuspending (how_of r) (begin (kept_view K) x) b targets) work) (all : AllClean b targets) (among : Among targets k) where
  base : IsBase (begin (kept_view K) x) b (H ++ b ∷ [])
  base = begun_base (kept_view K) b (H ++ b ∷ []) x (behind_sound (kept_view K) H (b ∷ []) sound) (has_last H b) distinct begins

  role : IsByRole (kept_view K) b x (begin (kept_view K) x)
  role = by_role (kept_view K) H b sound x begins

  done : (f : Finished) → finished_of work.finished k ≡ Some f → IsDoneSuspending (how_of r) (begin (kept_view K) x) b targets k
  done f is = is_work.order.only k (finished_among work.finished k f is)

  ruled : (f : Finished) → finished_of work.finished k ≡ Some f → IsRule b k
  ruled f is = by (done f is).0
    where
      by : {j : List ℕ} → IsTreated (how_of r) (begin (kept_view K) x) b targets j → IsRule b j
      by (treated.IsTreated.target there is_rule) = is_rule
      by (treated.IsTreated.need above followed there is_rule) = is_rule

  pub why_ran : (why : Why) → FindsCause r K b work.finished k why → Some true ≡ option_map (λ f. has_run f.made) (finished_of work.finished k) → IsWhy (how_of r) (kept_view K) b k why
  why_ran why found is =
      let f = some_left (λ f. has_run f.made) (finished_of work.finished k) true is in
      let right = right_of (how_of r) (begin (kept_view K) x) b work.finished k f.0 is_work.right f.1 in
      let unheld = came_ran (how_of r) (begin (kept_view K) x) b k f.0.made f.2 right.made.came in
      (x, begins, caused K b (H ++ b ∷ []) x begins base role targets work k (ruled f.0 f.1) (clean_among b targets k all among) r is_work (done f.0 f.1).0 unheld why found)

  pub why_reused : Some false ≡ option_map (λ f. has_run f.made) (finished_of work.finished k) → IsWhy (how_of r) (kept_view K) b k Reusable
  why_reused is =
      let f = some_left (λ f. has_run f.made) (finished_of work.finished k) false is in
      let right = right_of (how_of r) (begin (kept_view K) x) b work.finished k f.0 is_work.right f.1 in
      (x, begins, (ruled f.0 f.1, came_reused (how_of r) (begin (kept_view K) x) b k f.0.made f.2 right.made.came))

  pub why_input : None ≡ option_map (λ f. has_run f.made) (finished_of work.finished k) → IsWhy (how_of r) (kept_view K) b k Input
  why_input is = (x, begins, on (content b k) refl)
    where
      on : (o : Option Item) → content b k ≡ o → (v : Value) × (content b k ≡ Some (input v))
      on None nothing = absurd (let had = clean_among b targets k all among in let e : Some had.0 ≡ None = sym had.1 ∙ clean_nothing b k nothing in cc)
      on (Some (input v)) there = (v, there)
      on (Some (rule e)) there =
          let f = finished_there work.finished k (is_work.order.each k (treated.IsTreated.target among (e, there), clean_among b targets k all among)) in
          absurd (let n : None ≡ Some f.0 = sym (none_left (λ f. has_run f.made) (finished_of work.finished k) is) ∙ f.1 in cc)
