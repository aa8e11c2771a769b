-- What is done is finished under its key, whatever is kept.
use Rattle.std.proofs.Common.{◌≡◌, ◌⊎◌, ℕ, Bool, true, false, List, [], ◌∷◌, ◌++◌, Option, Some, None, refl, ap, sym, ◌∙◌, subst, inl, inr}
use Rattle.std.proofs.lemmas.Bool.{cases_Bool}
use Rattle.std.specs.Map.{lookup}
use Rattle.carte_name.specs.Names.{name_eq}
use Rattle.carte_value.specs.Truths.{Among}
use Rattle.carte_value.proofs.Members.{same_or_not, among_left, among_right}
use Rattle.carte_effect.specs.declared.outcome.Made.{Made}
use Rattle.carte_effect.specs.Jobs.{outcome_of}
use Rattle.carte_book.specs.Book.{Item, input, rule, Book, content}
use Rattle.carte_book.specs.Edits.{IsInput}
use Rattle.carte_book.specs.Needs.{IsRule}
use Rattle.carte_book.specs.declared.reason.Reason.{Reason}
use Rattle.carte_book.specs.declared.reason.Reason.TheVariants.{Cycle, Missing, Dynamic}
use Rattle.carte_sound.specs.Held.{How}
use Rattle.carte_note.specs.declared.finished.Finished.{Finished}
use Rattle.carte_note.specs.Right.{key_of, keys_in}
use Rattle.carte_bench.specs.declared.slot.Slot.{Slot}
use Rattle.carte_bench.specs.declared.slot.Slot.TheVariants.{Ready, Stopped, Done}
use Rattle.carte_bench.specs.Spots.{Spots, PutAt, IsSame, is_done}
use Rattle.carte_bench.specs.Keys.{AreKeyed}
use Rattle.carte_bench.specs.Waits.{Onward, onward, WaitsAs}
use Rattle.carte_bench.proofs.Keys.{none_keyed, same_keyed, put_keyed}
use Rattle.carte_bench.proofs.Puts.{put_here, put_apart}
use Rattle.carte_bench.proofs.Whys.{stuck_has_reason}
use Rattle.carte_progress.specs.Opening.{Opens, EndsKey}
use Rattle.carte_progress.specs.Progress.{HasDone}
use Rattle.carte_progress.specs.Reasons.{HaveNone}
use Rattle.carte_progress.specs.Standing.{IsStanding, IsDemanded}
use Rattle.carte_progress.proofs.Ending.{has_ended}
use Rattle.carte_progress.proofs.Listing.{keys_end}

module _ {J : Type 0} (keyed : J → List ℕ → Type 0) where
  -- nothing was demanded
  pub done_none : (s : Spots J) → IsSame (λ q. None) s → HasDone keyed s []
  done_none s none = record {
    keys = none_keyed keyed s none;
    listed = λ k is. at (s k) (none k) is;
  }
    where
      at : (o : Option (Slot J)) → o ≡ None → is_done o ≡ true → ⊥
      at None same is = cc
      at (Some x) same is = cc

  -- where something that isn't done is put, what is done was so before
  done_before : (s d : Spots J) (k : List ℕ) (x : Slot J) → PutAt s d k x → is_done (Some x) ≡ false → (q : List ℕ) → is_done (d q) ≡ true → is_done (s q) ≡ true
  done_before s d k x put undone q is = elim (same_or_not k q) [
    | inl same ↦ (let here : is_done (d q) ≡ false = subst (λ i. is_done (d i) ≡ false) same (rw (put_here s d k x put) undone) in let both : true ≡ false = sym is ∙ here in cc)
    | inr other ↦ rw (put_apart s d k x q other put) at is
  ]

  -- a rule was demanded, or nothing was
  pub done_opens : (name : J → List ℕ) (started : J → Bool) (begins : List ℕ → J → Type 0) (b : Book) (s d : Spots J) (path path' : List (List ℕ)) (n : List ℕ) (fs : List Finished) → ((k : List ℕ) (j : J) → begins k j → keyed j k) → Opens name started begins b s d path path' n → HasDone keyed s fs → HasDone keyed d fs
  done_opens name started begins b s d path path' n fs law (inl demands) has = record {
    keys = put_keyed keyed s d n (Ready demands.job) has.keys (law n demands.job demands.begun) demands.put;
    listed = λ q is. has.listed q (done_before s d n (Ready demands.job) demands.put refl q is);
  }
  done_opens name started begins b s d path path' n fs law (inr (known, same, dropped)) has = record {
    keys = same_keyed keyed s d same has.keys;
    listed = λ q is. has.listed q (rw (same q) at is);
  }

  -- a job stopped
  pub done_stopped : (s d : Spots J) (k : List ℕ) (p : J) (n : List ℕ) (fs : List Finished) → PutAt s d k (Stopped p n) → AreKeyed keyed d → HasDone keyed s fs → HasDone keyed d fs
  done_stopped s d k p n fs put keys has = record {
    keys = keys;
    listed = λ q is. has.listed q (done_before s d k (Stopped p n) put refl q is);
  }

  -- or came to its end, and is finished
  pub done_ended : (h : How) (b : Book) (s d : Spots J) (k : List ℕ) (m : Made) (fs fs' : List Finished) → PutAt s d k (Done m) → AreKeyed keyed d → EndsKey h b fs fs' m → HasDone keyed s fs → HasDone keyed d fs'
  done_ended h b s d k m fs fs' put keys (f, grown, made, right) has = record {
    keys = keys;
    listed = λ q is. subst (λ ks. Among ks q) (sym all) (at q is (same_or_not k q));
  }
    where
      its_key : key_of f ≡ k
      its_key = ap (λ (x : Made). (outcome_of x).key) made ∙ keys k (Done m) (put_here s d k (Done m) put)

      all : keys_in fs' ≡ keys_in fs ++ key_of f ∷ []
      all = ap keys_in grown ∙ keys_end fs f

      at : (q : List ℕ) → is_done (d q) ≡ true → (k ≡ q) ⊎ (¬ (k ≡ q)) → Among (keys_in fs ++ key_of f ∷ []) q
      at q is (inl same) = among_right (keys_in fs) (key_of f ∷ []) q (inl (sym (its_key ∙ same)))
      at q is (inr other) = among_left (keys_in fs) (key_of f ∷ []) q (has.listed q (rw (put_apart s d k (Done m) q other put) at is))

  -- where no turn helps, a rule that was demanded and has no path of waits is finished
  pub done_target : (name : J → List ℕ) (b : Book) (s : Spots J) (fs : List Finished) → IsStanding name b s [] → (es : List (List ℕ × Slot J)) → ((q : List ℕ) → s q ≡ lookup (name_eq q) es) → HasDone keyed s fs → (t : List ℕ) → IsDemanded s t → WaitsAs (onward b s) t None → Among (keys_in fs) t
  done_target name b s fs standing es are has t there none = elim (cases_Bool (is_done (s t))) [
    | inl done ↦ has.listed t done
    | inr undone ↦ absurd (never (stuck_has_reason b s standing.stands.rules no_input (has_ended name b s standing) es are t (there, undone)))
  ]
    where
      no_input : (k n : List ℕ) (p : J) → s k ≡ Some (Stopped p n) → ¬ (IsInput b n)
      no_input k n p is (v, given) = elim (standing.stands.open_there k ((Stopped p n, is), rw is refl)) [
        | inl gone ↦ absurd gone
        | inr (q, m, stop, left) ↦ (
            let both : Some (Stopped p n) ≡ Some (Stopped q m) = sym is ∙ stop in
            let same : n ≡ m = cc in
            let held : content b m ≡ Some (input v) = subst (λ i. content b i ≡ Some (input v)) same given in
            elim left [
              | inl nothing ↦ (let never_both : None ≡ Some (input v) = sym nothing ∙ held in cc)
              | inr is_open ↦ (let there : IsRule b m = standing.stands.rules m is_open.0.0.0 is_open.0.0.1 in let never_both : Some (input v) ≡ Some (rule there.0) = sym held ∙ there.1 in cc)
            ])
      ]

      never : (r : Reason) × WaitsAs (onward b s) t (Some r) → ⊥
      never (Cycle p, (from, round)) = (none p from).0 round
      never (Missing p, (from, astray)) = (none p from).1 astray
      never (Dynamic p, no_path) = no_path

  -- so a target without a path of waits is an input or finished
  pub target_known : (name : J → List ℕ) (b : Book) (s : Spots J) (fs : List Finished) → IsStanding name b s [] → (es : List (List ℕ × Slot J)) → ((q : List ℕ) → s q ≡ lookup (name_eq q) es) → HasDone keyed s fs → (t : List ℕ) → (IsRule b t → IsDemanded s t) → WaitsAs (onward b s) t None → IsInput b t ⊎ Among (keys_in fs) t
  target_known name b s fs standing es are has t demanded none = at (content b t) refl
    where
      at : (o : Option Item) → content b t ≡ o → IsInput b t ⊎ Among (keys_in fs) t
      at None is = absurd ((none (t ∷ []) refl).1 (rw is refl))
      at (Some (input v)) is = inl (v, is)
      at (Some (rule e)) is = inr (done_target name b s fs standing es are has t (demanded (e, is)) none)

-- each of the targets has none
pub none_of : (f : List ℕ → Onward) (ts : List (List ℕ)) (t : List ℕ) → HaveNone f ts → Among ts t → WaitsAs f t None
none_of f [] t none here = absurd here
none_of f (i ∷ ts) t none (inl same) = subst (λ j. WaitsAs f j None) (sym same) none.0
none_of f (i ∷ ts) t none (inr later) = none_of f ts t none.1 later
