-- Names, and keys that lead to them, that are put to one another.
use Rattle.std.proofs.Common.{◌≡◌, ◌⊎◌, ℕ, true, false, List, [], ◌∷◌, ◌++◌, Some, slice_get, refl, sym, ◌∙◌, subst, inl, inr}
use Rattle.carte_value.specs.Firsts.{seen_also}
use Rattle.carte_value.specs.Truths.{Among}
use Rattle.carte_value.proofs.Members.{among_append}
use Rattle.carte_record.specs.declared.entry.Entry.{Entry}
use Rattle.carte_record.specs.Kept.{SomeKept}
use Rattle.carte_sound.specs.Marks.{Leads, need, on}
use Rattle.carte_mark.specs.Reached.{LeadsTo, Spreads, Meets, IsUser, PutsMore, IsClosedAt}
use Rattle.carte_mark.proofs.Putting.{put_only, put_stays, put_there, get_among}

module _ (K : SomeKept) where
  leads_on : (k i j : List ℕ) → Leads K k i → Leads K i j → Leads K k j
  leads_on k i j (need e kept among) further = on e kept among further
  leads_on k i j (on {i = m} e kept among leads) further = on e kept among (leads_on m i j leads further)

  -- what leads to a key that leads to these names leads to them
  pub leads_further : (names : List (List ℕ)) (k j : List ℕ) → Leads K k j → Among names j ⊎ LeadsTo K names j → LeadsTo K names k
  leads_further names k j leads (inl among) = record { name = j; leads = leads; among = among }
  leads_further names k j leads (inr further) = record { name = further.name; leads = leads_on k j further.name leads further.leads; among = further.among }

  -- as what needs one of them
  pub leads_by : (names : List (List ℕ)) (k : List ℕ) (e : Entry) → K.entries k ≡ Some e → Meets e.needs names → LeadsTo K names k
  leads_by names k e kept meets = record { name = meets.name; leads = need e kept meets.needed; among = meets.among }

  pub spreads_self : (names : List (List ℕ)) → Spreads K names names
  spreads_self names = record { only = λ k among. inl among; stays = λ k among. among }

  pub spreads_on : (a b c : List (List ℕ)) → Spreads K a b → Spreads K b c → Spreads K a c
  spreads_on a b c first second = record {
    only = λ k among. elim (second.only k among) [
      | inl was ↦ first.only k was
      | inr l ↦ inr (leads_further a k l.name l.leads (first.only l.name l.among))
    ];
    stays = λ k among. second.stays k (first.stays k among);
  }

  pub spreads_put : (names : List (List ℕ)) (k : List ℕ) → LeadsTo K names k → Spreads K names (seen_also names k)
  spreads_put names k leads = record {
    only = λ j among. elim (put_only names (k ∷ []) j among) [
      | inl was ↦ inl was
      | inr here ↦ elim here [
        | inl same ↦ inr (subst (LeadsTo K names) (sym same) leads)
        | inr nowhere ↦ absurd nowhere
      ]
    ];
    stays = λ j among. put_stays names (k ∷ []) j among;
  }

  -- a key was put
  pub puts_key : (old new : List (List ℕ)) (k : List ℕ) → IsUser K old k → new ≡ seen_also old k → PutsMore K old new true
  puts_key old new k user is = record {
    spreads = subst (Spreads K old) (sym is) (spreads_put old k (leads_by old k user.entry user.kept user.meets));
    same = λ no. cc;
  }

  pub closed_there : (names : List (List ℕ)) (k : List ℕ) → Among names k → IsClosedAt K names k
  closed_there names k there e kept meets = there

  pub closed_put : (old new : List (List ℕ)) (k : List ℕ) → new ≡ seen_also old k → IsClosedAt K new k
  closed_put old new k is = closed_there new k (subst (λ names. Among names k) (sym is) (put_there old (k ∷ []) k (inl refl)))

  -- none was put
  pub puts_none : (names : List (List ℕ)) → PutsMore K names names false
  puts_none names = record { spreads = spreads_self names; same = λ no. refl }

  pub closed_not : (names : List (List ℕ)) (k : List ℕ) → ¬ (IsUser K names k) → IsClosedAt K names k
  closed_not names k other e kept meets = absurd (other (record { entry = e; kept = kept; meets = meets }))

  pub closed_unmet : (names : List (List ℕ)) (k : List ℕ) (e : Entry) → ¬ (Meets e.needs names) → K.entries k ≡ Some e → IsClosedAt K names k
  closed_unmet names k e unmet first f kept meets =
      let both : Some f ≡ Some e = sym kept ∙ first in
      let same : f ≡ e = cc in
      absurd (unmet (subst (λ (x : Entry). Meets x.needs names) same meets))

-- needs that are there

pub meets_none : (names : List (List ℕ)) → ¬ (Meets [] names)
meets_none names m = m.needed

pub meets_more : (needs names : List (List ℕ)) (n : List ℕ) → ¬ (Meets needs names) → ¬ (Among names n) → ¬ (Meets (needs ++ n ∷ []) names)
meets_more needs names n before here m = elim (among_append needs (n ∷ []) m.name m.needed) [
  | inl was ↦ before (record { name = m.name; needed = was; among = m.among })
  | inr last ↦ elim last [
    | inl same ↦ here (subst (Among names) same m.among)
    | inr nowhere ↦ nowhere
  ]
]

-- an item of the list that is there
pub meets_at : (needs names : List (List ℕ)) (i : ℕ) (n : List ℕ) → slice_get needs i ≡ Some n → Among names n → Meets needs names
meets_at needs names i n at there = record { name = n; needed = get_among needs i n at; among = there }
