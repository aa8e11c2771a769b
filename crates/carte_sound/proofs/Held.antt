-- What a held key has: its clean value, in the store, and by links of its needs those that they have now.
use Rattle.std.proofs.Common.{◌≡◌, ℕ, true, false, List, [], ◌∷◌, Option, Some, None, option_map, Ok, refl, ap, sym, ◌∙◌, inl, inr, subst}
use Rattle.carte_value.specs.declared.digest.Digest.{Digest}
use Rattle.carte_value.specs.declared.value.Value.{Value}
use Rattle.carte_value.specs.Asks.{firsts, asked}
use Rattle.carte_value.specs.Spelling.{digest_of}
use Rattle.carte_value.specs.Truths.{Truth, Among}
use Rattle.carte_value.proofs.Asks.{asked_known}
use Rattle.carte_value.proofs.Firsts.{among_firsts, firsts_among}
use Rattle.carte_tree.specs.Tree.{Tree}
use Rattle.carte_tree.specs.Meaning.{asks, eval, fetched}
use Rattle.carte_book.specs.Book.{rule, Book, content, clean}
use Rattle.carte_book.specs.Needs.{needs, needs_of}
use Rattle.carte_book.specs.Task.{task_now}
use Rattle.carte_record.specs.declared.trace.Trace.{Trace}
use Rattle.carte_record.specs.declared.way.Way.{Way}
use Rattle.carte_record.specs.declared.way.Way.TheVariants.{Verifying, Constructive, Deep}
use Rattle.carte_record.specs.Kept.{SomeKept}
use Rattle.carte_record.specs.Ways.{TraceBy, links_by, result_by}
use Rattle.carte_value.specs.Lists.{Has}
use Rattle.carte_sound.specs.Marks.{IsFresh}
use Rattle.carte_sound.specs.True.{digest_or, or_none, links_to, linked, trace_of}
use Rattle.carte_sound.specs.Sound.{IsTraceOfSome, IsStored, IsSound}
use Rattle.carte_sound.specs.Base.{HasDistinctDigests, IsBase}
use Rattle.carte_sound.specs.Held.{tracing, AreLinks, clean_digest, IsTasked, IsHeldBy, looks_into_held}
use Rattle.carte_sound.specs.Results.{HasResult}
use Rattle.carte_value.proofs.Agreeing.{same_run, same_asked}
use Rattle.carte_sound.proofs.Fresh.{clean_ends, ends_clean}
use Rattle.carte_sound.proofs.Tasks.{own_task, same_task}
use Rattle.carte_sound.proofs.Traces.{trace_links, trace_result}

pub needs_rule : (b : Book) (k : List ℕ) (f : Tree) → content b k ≡ Some (rule f) → needs b k ≡ fetched b.kind (clean b) f
needs_rule b k f is = ap (λ o. needs_of o (λ g. fetched b.kind (clean b) g)) is

-- each need of a rule with a clean value has one
pub need_has_value : (b : Book) (k : List ℕ) (f : Tree) (v : Value) → content b k ≡ Some (rule f) → clean b k ≡ Some v → (j : List ℕ) → Among (needs b k) j → (w : Value) × (clean b j ≡ Some w)
need_has_value b k f v is has j among =
    asked_known (clean b) (asks b.kind f) v j (clean_ends b k f v is has) (among_firsts (asked (clean b) (asks b.kind f)) j (rw (needs_rule b k f is) at among))

pub links_same : (t u : Truth) (ks : List (List ℕ)) → ((j : List ℕ) → Among ks j → t j ≡ u j) → links_to t ks ≡ links_to u ks
links_same t u [] same = refl
links_same t u (k ∷ ks) same =
    let here : t k ≡ u k = same k (inl refl) in
    let later : links_to t ks ≡ links_to u ks = links_same t u ks (λ j among. same j (inr among)) in
    ap (λ (o : Option Value). record { name = k; digest = digest_or o } ∷ links_to t ks) here ∙ ap (λ ls. record { name = k; digest = digest_or (u k) } ∷ ls) later

-- a digest now is that of a value
pub digest_value : (b : Book) (j : List ℕ) (d : Digest) → clean_digest b j ≡ Some d → (u : Value) × (clean b j ≡ Some u) × (digest_of u ≡ d)
digest_value b j d = on_value (clean b j)
  where
    on_value : (o : Option Value) → option_map digest_of o ≡ Some d → (u : Value) × (o ≡ Some u) × (digest_of u ≡ d)
    on_value None is = cc
    on_value (Some u) is = (u, refl, (let same : digest_of u ≡ d = cc in same))

-- two books of a history of one kind
module _ (H : List Book) (distinct : HasDistinctDigests H) (c b : Book) (in_c : Has H c) (in_b : Has H b) (kind : c.kind ≡ b.kind) where
  -- links that are so now are to the same values
  pub link_agrees : (ks : List (List ℕ)) → AreLinks (clean_digest b) (links_to (clean c) ks) → (j : List ℕ) → Among ks j → (w : Value) → clean c j ≡ Some w → clean b j ≡ Some w
  link_agrees [] are j among w is = absurd among
  link_agrees (k ∷ ks) are j (inl same) w is =
      let at : clean c k ≡ Some w = ap (clean c) (sym same) ∙ is in
      let now = digest_value b k (digest_or (clean c k)) are.0 in
      let equal : now.0 ≡ w = distinct.values b c k k now.0 w in_b in_c now.1 at (now.2 ∙ ap digest_or at) in
      ap (clean b) same ∙ now.1 ∙ ap Some equal
  link_agrees (k ∷ ks) are j (inr later) w is = link_agrees ks are.1 j later w is

  module _ (k : List ℕ) (f : Tree) (v : Value) (rule_c : content c k ≡ Some (rule f)) (rule_b : content b k ≡ Some (rule f)) (has : clean c k ≡ Some v) (are : AreLinks (clean_digest b) (links_to (clean c) (needs c k))) where
    ran : eval b.kind (clean c) f ≡ Ok v
    ran = subst (λ q. eval q (clean c) f ≡ Ok v) kind (clean_ends c k f v rule_c has)

    fetched_c : needs c k ≡ fetched b.kind (clean c) f
    fetched_c = needs_rule c k f rule_c ∙ ap (λ q. fetched q (clean c) f) kind

    agrees : (j : List ℕ) (w : Value) → Among (asked (clean c) (asks b.kind f)) j → clean c j ≡ Some w → clean b j ≡ Some w
    agrees j w among is = link_agrees (needs c k) are j (rw fetched_c (firsts_among (asked (clean c) (asks b.kind f)) j among)) w is

    -- the key has the same value in both
    pub same_value : clean b k ≡ Some v
    same_value = ends_clean b k f v rule_b (same_run (clean c) (clean b) (asks b.kind f) v ran agrees)

    -- and the same needs
    pub same_needs : needs b k ≡ needs c k
    same_needs = needs_rule b k f rule_b ∙ ap firsts (same_asked (clean c) (clean b) (asks b.kind f) v ran agrees) ∙ sym fetched_c

    -- with the same links
    pub same_links : links_to (clean c) (needs c k) ≡ links_to (clean b) (needs b k)
    same_links = links_same (clean c) (clean b) (needs c k) (λ j among.
        let w = need_has_value c k f v rule_c has j among in
        w.1 ∙ sym (link_agrees (needs c k) are j among w.0 w.1)) ∙ ap (links_to (clean b)) (sym same_needs)

-- what the store has of a clean value's digest is that value
pub stored_value : (K : SomeKept) (H : List Book) → IsSound K H → HasDistinctDigests H → (c : Book) → Has H c → (k : List ℕ) (v : Value) → clean c k ≡ Some v → (d : Digest) → IsStored K d → d ≡ digest_of v → K.stored d ≡ Some v
stored_value K H sound distinct c in_c k v has d stored is =
    let s = sound.stored d stored.0 stored.1 in
    stored.1 ∙ ap Some (distinct.values s.1.book c s.1.name k stored.0 v s.1.stood in_c s.1.clean has (s.0 ∙ is))

-- a trace of needs names the task that its key had, and links what it needed
pub needs_task : (w : Way) → looks_into_held (tracing w) ≡ true → (c b : Book) (k : List ℕ) (t : TraceBy w) → t ≡ trace_of w c k → IsTasked w b k t → task_now b k ≡ Some (or_none (task_now c k))
needs_task Verifying of c b k t is now = now ∙ ap (λ (x : Trace). Some x.task) is
needs_task Constructive of c b k t is now = now ∙ ap (λ (x : Trace). Some x.task) is
needs_task Deep of c b k t is now = (let never : false ≡ true = of in cc)

pub needs_linked : (w : Way) → looks_into_held (tracing w) ≡ true → (c : Book) (k : List ℕ) → linked w c k ≡ needs c k
needs_linked Verifying of c k = refl
needs_linked Constructive of c k = refl
needs_linked Deep of c k = (let never : false ≡ true = of in cc)

module _ (K : SomeKept) (b : Book) (H : List Book) (base : IsBase K b H) where
  -- a trace of needs that names the task that the key has now tells of the present rule, in a book of the same kind
  pub same_rule : (w : Way) → looks_into_held (tracing w) ≡ true → (k : List ℕ) (t : TraceBy w) (s : IsTraceOfSome K H w k t) → IsTasked w b k t → (s.book.kind ≡ b.kind) × (content b k ≡ Some (rule s.trace.formula))
  same_rule w of k t s now = same_task H base.distinct s.book b s.stood base.present k s.trace.formula s.trace.is_rule (needs_task w of s.book b k t s.trace.trace now ∙ ap Some (own_task s.book k s.trace.formula s.trace.is_rule))

  -- one that is held: its result, and its links
  needs_held : (w : Way) → looks_into_held (tracing w) ≡ true → (k : List ℕ) (t : TraceBy w) → IsTraceOfSome K H w k t → IsStored K (result_by w t) → IsTasked w b k t → AreLinks (clean_digest b) (links_by w t) → HasResult K b k (result_by w t) × (links_by w t ≡ links_to (clean b) (needs b k))
  needs_held w of k t s stored task are =
      let c = s.book in
      let f = s.trace.formula in
      let v = s.trace.value in
      let same = same_rule w of k t s task in
      let rule_b : content b k ≡ Some (rule f) = same.1 in
      let links : links_by w t ≡ links_to (clean c) (needs c k) = ap (links_by w) s.trace.trace ∙ trace_links w c k ∙ ap (links_to (clean c)) (needs_linked w of c k) in
      let then : AreLinks (clean_digest b) (links_to (clean c) (needs c k)) = subst (AreLinks (clean_digest b)) links are in
      let now : clean b k ≡ Some v = same_value H base.distinct c b s.stood base.present same.0 k f v s.trace.is_rule rule_b s.trace.clean then in
      let result : result_by w t ≡ digest_of v = ap (result_by w) s.trace.trace ∙ trace_result w c k ∙ ap digest_or s.trace.clean in (
        record { value = v; clean = now; digest = result; stored = stored_value K H base.sound base.distinct c s.stood k v s.trace.clean (result_by w t) stored result },
        links ∙ same_links H base.distinct c b s.stood base.present same.0 k f v s.trace.is_rule rule_b s.trace.clean then,
      )

  -- a key held by links of its needs
  pub verifying_held : (k : List ℕ) (t : Trace) → IsHeldBy Verifying K b k t → HasResult K b k t.result × (t.links ≡ links_to (clean b) (needs b k))
  verifying_held k t held = needs_held Verifying refl k t (base.sound.traces Verifying k t held.kept) (base.sound.trace_stored Verifying k t held.kept) held.task held.links

  pub constructive_held : (k : List ℕ) (t : Trace) → IsHeldBy Constructive K b k t → HasResult K b k t.result × (t.links ≡ links_to (clean b) (needs b k))
  constructive_held k t held = needs_held Constructive refl k t (base.sound.traces Constructive k t held.kept) (base.sound.trace_stored Constructive k t held.kept) held.task held.links

  -- and one that is held by a fresh entry
  pub fresh_result : (k : List ℕ) (f : IsFresh K k) → HasResult K b k f.entry.result
  fresh_result k f =
      let now = base.now k f.entry f.kept f.fresh in
      record {
        value = now.value;
        clean = now.clean;
        digest = now.result;
        stored = stored_value K H base.sound base.distinct b base.present k now.value now.clean f.entry.result (base.sound.entry_stored k f.entry f.kept) now.result;
      }
