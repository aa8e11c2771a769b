-- Passes over the entries.
use Rattle.std.proofs.Common.{◌≡◌, ◌⊎◌, ℕ, zero, suc, ◌+◌, ◌≤◌, ◌<◌, Bool, true, false, cond, List, [], ◌∷◌, length, Some, slice_get, find, refl, ap, sym, ◌∙◌, subst, inl, inr, arith}
use Rattle.std.specs.Prelude.{◌==◌}
use Rattle.std.proofs.Math.Dec.{eqb-suc-zero}
use Rattle.carte_name.specs.Names.{name_eq}
use Rattle.carte_record.specs.declared.entry.Entry.{Entry}
use Rattle.carte_record.specs.declared.kept.Kept.{Kept}
use Rattle.carte_record.specs.Kept.{kept_view}
use Rattle.carte_record.specs.Lookups.{first_entry, is_entry_of}
use Rattle.carte_table.proofs.Names.{name_eq_is}
use Rattle.carte_mark.specs.Reached.{Spreads, PutsMore, IsClosedAt}
use Rattle.carte_mark.specs.Passes.{Passes, IsRound, AreReached}
use Rattle.carte_mark.proofs.Spreading.{spreads_self, spreads_on}

pub record FoundAt (es : List Entry) (k : List ℕ) (e : Entry) : Type 0 where
  pub place : ℕ
  pub below : place < length es
  pub there : slice_get es place ≡ Some e
  pub key : k ≡ e.key

-- a first entry stands somewhere
pub found_at : (es : List Entry) (k : List ℕ) (e : Entry) → first_entry es k ≡ Some e → FoundAt es k e
found_at [] k e found = cc
found_at (x ∷ xs) k e found = on (name_eq k x.key) refl found (found_at xs k e)
  where
    on : (t : Bool) → name_eq k x.key ≡ t → cond t (Some x) (find (is_entry_of k) xs) ≡ Some e → (first_entry xs k ≡ Some e → FoundAt xs k e) → FoundAt (x ∷ xs) k e
    on true is there rest = let same : x ≡ e = cc in record { place = 0; below = omega arith; there = ap Some same; key = name_eq_is k x.key is ∙ ap (λ (y : Entry). y.key) same }
    on false is there rest = let f = rest there in let inside = f.below in record { place = suc f.place; below = omega arith; there = f.there; key = f.key }

pub no_place : (n : ℕ) → (n == 0) ≡ true → n ≡ 0
no_place zero is = refl
no_place (suc n) is = let e : true ≡ false = sym is ∙ eqb-suc-zero n in cc

module _ (K : Kept) where
  -- of an entry at a place, for whatever entry stands there
  pub closed_same : (names : List (List ℕ)) (at : ℕ) (x : Entry) → slice_get K.entries at ≡ Some x → ((kept_view K).entries x.key ≡ Some x → IsClosedAt (kept_view K) names x.key)
      → (e : Entry) → slice_get K.entries at ≡ Some e → (kept_view K).entries e.key ≡ Some e → IsClosedAt (kept_view K) names e.key
  closed_same names at x here closed e there first =
      let both : Some x ≡ Some e = sym here ∙ there in
      let same : x ≡ e = cc in
      subst (λ (y : Entry). IsClosedAt (kept_view K) names y.key) same (closed (subst (λ (y : Entry). (kept_view K).entries y.key ≡ Some y) (sym same) first))

  pub pass_first : (names : List (List ℕ)) → Passes K 0 0 names names
  pass_first names = record { spreads = spreads_self (kept_view K) names; same = λ none. refl; closed = λ i e from below. absurd (omega arith) }

  -- an entry more whose key was put
  pub pass_put : (at last : ℕ) (old mid new : List (List ℕ)) → Passes K at last old mid → PutsMore (kept_view K) mid new true → Passes K (at + 1) (at + 1) old new
  pass_put at last old mid new so puts = record {
    spreads = spreads_on (kept_view K) old mid new so.spreads puts.spreads;
    same = λ none. absurd (omega arith);
    closed = λ i e from below. absurd (omega arith);
  }

  -- an entry more whose key wasn't put
  pub pass_not : (at last : ℕ) (old mid new : List (List ℕ)) → Passes K at last old mid → new ≡ mid
      → ((e : Entry) → slice_get K.entries at ≡ Some e → (kept_view K).entries e.key ≡ Some e → IsClosedAt (kept_view K) new e.key) → Passes K (at + 1) last old new
  pass_not at last old mid new so same here = record {
    spreads = subst (Spreads (kept_view K) old) (sym same) so.spreads;
    same = λ none. same ∙ so.same none;
    closed = λ i e from below there first. elim (either i below) [
      | inl before ↦ subst (λ names. IsClosedAt (kept_view K) names e.key) (sym same) (so.closed i e from before there first)
      | inr now ↦ here e (ap (slice_get K.entries) (sym now) ∙ there) first
    ];
  }
    where
      either : (i : ℕ) → i < at + 1 → (i < at) ⊎ (i ≡ at)
      either i below = grind arith

  -- two passes, the second over what stands before the last key of the first
  pub round_of : (end more : ℕ) (old mid new : List (List ℕ)) (done : Bool) → Passes K (length K.entries) end old mid → Passes K end more mid new → (done ≡ true → more ≡ 0) → IsRound K old new done
  round_of end more old mid new done first second none = record {
    spreads = spreads_on (kept_view K) old mid new first.spreads second.spreads;
    closed = λ is k e kept.
        let f = found_at K.entries k e kept in
        let no = none is in
        let same = second.same no in
        let inside = f.below in
        let own = ap (first_entry K.entries) (sym f.key) ∙ kept in
        subst (λ j. IsClosedAt (kept_view K) new j) (sym f.key) (elim (either f.place) [
          | inl before ↦ second.closed f.place e (omega arith) before f.there own
          | inr behind ↦ subst (λ names. IsClosedAt (kept_view K) names e.key) (sym same) (first.closed f.place e behind inside f.there own)
        ]) e kept;
  }
    where
      either : (i : ℕ) → (i < end) ⊎ (end ≤ i)
      either i = grind arith

  -- the last round
  pub reached_done : (names old new : List (List ℕ)) (done : Bool) → Spreads (kept_view K) names old → IsRound K old new done → done ≡ true → AreReached K names new
  reached_done names old new done before round is = record { spreads = spreads_on (kept_view K) names old new before round.spreads; closed = round.closed is }

  pub reached_on : (names old new : List (List ℕ)) → Spreads (kept_view K) names old → AreReached K old new → AreReached K names new
  reached_on names old new before are = record { spreads = spreads_on (kept_view K) names old new before are.spreads; closed = are.closed }
