-- Users of names that are put to those that are reached.
use Rattle.std.proofs.Common.{◌≡◌, ℕ, Bool, List, [], ◌∷◌, ◌++◌, sym, subst, inl, inr, Some}
use Rattle.carte_value.specs.Lists.{Begins}
use Rattle.carte_value.specs.Truths.{Among}
use Rattle.carte_value.proofs.Members.{among_append}
use Rattle.carte_record.specs.Kept.{SomeKept}
use Rattle.carte_table.proofs.Steps.{begins_self, begins_on}
use Rattle.carte_mark.specs.Reached.{PutsMore, IsClosedAt}
use Rattle.carte_mark.specs.Tables.{NeedsIn, PutsUsers}
use Rattle.carte_mark.proofs.Spreading.{spreads_self, spreads_on}

module _ (K : SomeKept) where
  pub puts_nothing : (rs : List (List ℕ)) → PutsUsers K [] rs rs
  puts_nothing rs = record { front = begins_self rs; spreads = spreads_self K rs; each = λ k q nowhere needs was. absurd nowhere }

  -- a key that is there already
  pub puts_again : (rs : List (List ℕ)) (k : List ℕ) → Among rs k → PutsUsers K (k ∷ []) rs rs
  puts_again rs k there = record { front = begins_self rs; spreads = spreads_self K rs; each = each }
    where
      each : (j q : List ℕ) → Among (k ∷ []) j → NeedsIn K j q → Among rs q → Among rs j
      each j q (inl same) needs was = subst (Among rs) (sym same) there
      each j q (inr nowhere) needs was = absurd nowhere

  -- one that was put where it needs what was there
  pub puts_that : (old new : List (List ℕ)) (k : List ℕ) (more : Bool) → Begins old new → PutsMore K old new more → IsClosedAt K new k → PutsUsers K (k ∷ []) old new
  puts_that old new k more front puts closed = record { front = front; spreads = puts.spreads; each = each }
    where
      each : (j q : List ℕ) → Among (k ∷ []) j → NeedsIn K j q → Among old q → Among new j
      each j q (inl same) needs was =
          subst (Among new) (sym same) (closed needs.0 (subst (λ i. K.entries i ≡ Some needs.0) same needs.1) (record { name = q; needed = needs.2; among = puts.spreads.stays q was }))
      each j q (inr nowhere) needs was = absurd nowhere

  -- more keys
  pub puts_further : (ks js old mid new : List (List ℕ)) → PutsUsers K ks old mid → PutsUsers K js mid new → PutsUsers K (ks ++ js) old new
  puts_further ks js old mid new first second = record {
    front = begins_on old mid new first.front second.front;
    spreads = spreads_on K old mid new first.spreads second.spreads;
    each = λ j q among needs was. elim (among_append ks js j among) [
      | inl before ↦ second.spreads.stays j (first.each j q before needs was)
      | inr here ↦ second.each j q here needs (first.spreads.stays q was)
    ];
  }
