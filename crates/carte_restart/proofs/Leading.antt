-- The names that targets lead to by entries.
use Rattle.std.proofs.Common.{◌≡◌, ◌⊎◌, ℕ, ◌+◌, ◌<◌, ◌≤◌, Bool, true, false, cond, List, [], ◌∷◌, ◌++◌, length, Option, Some, None, slice_get, find, refl, ap, sym, ◌∙◌, subst, inl, inr, arith}
use Rattle.std.specs.List.{IsDistinct}
use Rattle.carte_name.specs.Names.{name_eq}
use Rattle.carte_value.specs.Truths.{Among}
use Rattle.carte_value.proofs.Members.{among_append, among_left, among_right, no_longer}
use Rattle.carte_record.specs.declared.entry.Entry.{Entry}
use Rattle.carte_record.specs.declared.kept.Kept.{Kept}
use Rattle.carte_record.specs.Kept.{SomeKept, kept_view}
use Rattle.carte_record.specs.Lookups.{first_entry, is_entry_of}
use Rattle.carte_sound.specs.Marks as marks
use Rattle.carte_sound.specs.Marks.{Leads}
use Rattle.carte_sound.specs.Treated.{IsLedTo}
use Rattle.carte_mark.specs.Puts.{put_all}
use Rattle.carte_mark.proofs.Putting.{put_only, put_stays, put_there, put_get, get_among, among_get, get_there}
use Rattle.carte_mark.proofs.Reaching.{none_twice}
use Rattle.carte_restart.specs.Led.{AreLed, AreNeeded, IsNeeded, needs_at, needs_in}

-- the needs of one key more
pub needed_none : (K : SomeKept) (names : List (List ℕ)) → names ≡ [] → AreNeeded K [] names
needed_none K names none = record {
  only = λ q here. absurd (subst (λ ks. Among ks q) none here);
  each = λ q (k, nowhere, named). absurd nowhere;
}

pub needed_more : (K : SomeKept) (keys names : List (List ℕ)) (k : List ℕ) → AreNeeded K keys names → AreNeeded K (keys ++ k ∷ []) (put_all names (needs_in K k))
needed_more K keys names k so = record {
  only = λ q here. elim (put_only names (needs_in K k) q here) [
    | inl was ↦ (let n = so.only q was in (n.0, among_left keys (k ∷ []) n.0 n.1, n.2))
    | inr new ↦ (k, among_right keys (k ∷ []) k (inl refl), new)
  ];
  each = λ q (j, among, named). elim (among_append keys (k ∷ []) j among) [
    | inl before ↦ put_stays names (needs_in K k) q (so.each q (j, before, named))
    | inr last ↦ elim last [
      | inl same ↦ put_there names (needs_in K k) q (subst (λ i. Among (needs_in K i) q) same named)
      | inr nowhere ↦ absurd nowhere
    ]
  ];
}

-- what an entry tells of is a need of its key
told : (K : SomeKept) (k q : List ℕ) (e : Entry) → K.entries k ≡ Some e → Among e.needs q → Among (needs_in K k) q
told K k q e kept among = rw kept among

teller : (K : SomeKept) (k q : List ℕ) → Among (needs_in K k) q → (e : Entry) × (K.entries k ≡ Some e) × Among e.needs q
teller K k q named = at (K.entries k) refl named
  where
    at : (o : Option Entry) → K.entries k ≡ o → Among (needs_at o) q → (e : Entry) × (K.entries k ≡ Some e) × Among e.needs q
    at None is nowhere = absurd nowhere
    at (Some e) is among = (e, is, among)

-- a name that leads somewhere leads to what is needed there
pub leads_need : (K : SomeKept) (k j q : List ℕ) (e : Entry) → K.entries j ≡ Some e → Among e.needs q → Leads K k j → Leads K k q
leads_need K k j q e kept among (marks.need f found named) = marks.on f found named (marks.need e kept among)
leads_need K k j q e kept among (marks.on {i = i} f found named leads) = marks.on f found named (leads_need K i j q e kept among leads)

-- at most what targets lead to; all that they need themselves, and the needs of those at the first places
pub record IsLeading (K : SomeKept) (targets names : List (List ℕ)) (next : ℕ) : Type 0 where
  pub only : (q : List ℕ) → Among names q → IsLedTo K targets q
  pub begun : (q : List ℕ) → IsNeeded K targets q → Among names q
  pub closed : (i : ℕ) (k q : List ℕ) → i < next → slice_get names i ≡ Some k → Among (needs_in K k) q → Among names q

pub leading_first : (K : SomeKept) (targets names : List (List ℕ)) → AreNeeded K targets names → IsLeading K targets names 0
leading_first K targets names needed = record {
  only = λ q here. (let n = needed.only q here in let e = teller K n.0 q n.2 in record { target = n.0; among = n.1; leads = marks.need e.0 e.1 e.2 });
  begun = needed.each;
  closed = λ i k q below is named. absurd (omega arith);
}

-- the needs of one name more
pub leading_next : (K : SomeKept) (targets names : List (List ℕ)) (next : ℕ) (k : List ℕ) → next < length names → slice_get names next ≡ Some k → IsLeading K targets names next → IsLeading K targets (put_all names (needs_in K k)) (next + 1)
leading_next K targets names next k within at so = record {
  only = λ q here. elim (put_only names (needs_in K k) q here) [
    | inl was ↦ so.only q was
    | inr new ↦ (let e = teller K k q new in let l = so.only k (get_among names next k at) in record { target = l.target; among = l.among; leads = leads_need K l.target k q e.0 e.1 e.2 l.leads })
  ];
  begun = λ q needed. put_stays names (needs_in K k) q (so.begun q needed);
  closed = closed;
}
  where
    either : (i : ℕ) → i < next + 1 → (i < next) ⊎ (i ≡ next)
    either i below = grind arith

    closed : (i : ℕ) (j q : List ℕ) → i < next + 1 → slice_get (put_all names (needs_in K k)) i ≡ Some j → Among (needs_in K j) q → Among (put_all names (needs_in K k)) q
    closed i j q below is named =
        let inside : i < length names = omega arith in
        let old = get_there names i inside in
        let both : Some old.0 ≡ Some j = sym (put_get names (needs_in K k) i old.0 old.1) ∙ is in
        let was : slice_get names i ≡ Some j = old.1 ∙ both in
        elim (either i below) [
          | inl before ↦ put_stays names (needs_in K k) q (so.closed i j q before was named)
          | inr here ↦
              let two : Some j ≡ Some k = sym was ∙ (ap (slice_get names) here ∙ at) in
              let e : j ≡ k = cc in
              put_there names (needs_in K k) q (subst (λ l. Among (needs_in K l) q) e named)
        ]

module _ (K : SomeKept) (targets names : List (List ℕ)) (next : ℕ) (past : length names ≤ next) (so : IsLeading K targets names next) where
  on_from : (k q : List ℕ) → Leads K k q → ((j : List ℕ) → Among (needs_in K k) j → Among names j) → Among names q
  on_from k q (marks.need e kept among) there = there q (told K k q e kept among)
  on_from k q (marks.on {i = i} e kept among leads) there =
      let here = there i (told K k i e kept among) in
      on_from i q leads (λ j named. (let at = among_get names i here in let below : at.0 < length names = at.1 in so.closed at.0 i j (omega arith) at.2 named))

  -- at the end all are there
  pub all_led : AreLed K targets names
  all_led = record {
    only = so.only;
    each = λ q l. on_from l.target q l.leads (λ j named. so.begun j (l.target, l.among, named));
  }

-- there are no more of them than entries have needs
abbrev pub all_needs : List Entry → List (List ℕ)
all_needs [] = []
all_needs (e ∷ es) = e.needs ++ all_needs es

needs_found : (es : List Entry) (k q : List ℕ) (e : Entry) → first_entry es k ≡ Some e → Among e.needs q → Among (all_needs es) q
needs_found [] k q e found among = cc
needs_found (x ∷ xs) k q e found among = on (name_eq k x.key) found (λ rest. needs_found xs k q e rest among)
  where
    on : (t : Bool) → cond t (Some x) (find (is_entry_of k) xs) ≡ Some e → (first_entry xs k ≡ Some e → Among (all_needs xs) q) → Among (x.needs ++ all_needs xs) q
    on true there rest = let same : x ≡ e = cc in among_left x.needs (all_needs xs) q (subst (λ (y : Entry). Among y.needs q) (sym same) among)
    on false there rest = among_right x.needs (all_needs xs) q (rest there)

leads_found : (K : Kept) (k q : List ℕ) → Leads (kept_view K) k q → Among (all_needs K.entries) q
leads_found K k q (marks.need e kept among) = needs_found K.entries k q e kept among
leads_found K k q (marks.on {i = i} e kept among leads) = leads_found K i q leads

pub led_few : (K : Kept) (targets names : List (List ℕ)) (next : ℕ) → IsDistinct name_eq names → IsLeading (kept_view K) targets names next → length names ≤ length (all_needs K.entries)
led_few K targets names next distinct so = no_longer names (all_needs K.entries) (none_twice names distinct) (λ q here. (let l = so.only q here in leads_found K l.target q l.leads))
