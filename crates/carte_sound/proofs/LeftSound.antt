-- Each station of a build is sound, and each key that was finished is kept with its clean value.
use Rattle.std.proofs.Common.{◌≡◌, ◌⊎◌, ℕ, Bool, true, false, List, [], ◌∷◌, Some, refl, ap, sym, ◌∙◌, inl, inr, subst}
use Rattle.carte_value.specs.declared.digest.Digest.{Digest}
use Rattle.carte_value.specs.declared.value.Value.{Value}
use Rattle.carte_value.specs.Spelling.{digest_of}
use Rattle.carte_value.specs.Truths.{Among, NoneTwice}
use Rattle.carte_book.specs.Book.{Book, clean}
use Rattle.carte_book.specs.Needs.{IsRule, needs}
use Rattle.carte_record.specs.declared.way.Way.TheVariants.{Verifying, Constructive, Deep}
use Rattle.carte_record.specs.Kept.{SomeKept}
use Rattle.carte_sound.specs.Marks.{IsFresh}
use Rattle.carte_sound.specs.Sound.{IsStored}
use Rattle.carte_sound.specs.Base.{IsBase}
use Rattle.carte_sound.specs.Held.{How, dirty, tracing, IsHeld}
use Rattle.carte_sound.specs.Results.{IsKeptNow}
use Rattle.carte_sound.specs.Left.{entry_left, add, Finishes, add_all, left}
use Rattle.carte_sound.specs.Finished.{RanOrHeld, IsFinishedAfter, AreFinished}
use Rattle.carte_sound.proofs.Tests.{put_here}
use Rattle.carte_sound.proofs.Deep.{held_result}
use Rattle.carte_sound.proofs.Entries.{NeedsFresh}
use Rattle.carte_sound.proofs.Written.{stored_grows}
use Rattle.carte_sound.proofs.AddedNow.{IsNext, fresh_grows}
use Rattle.carte_sound.proofs.Added.{added}
use Rattle.carte_sound.proofs.AddedKept.{kept_here, kept_grows}
use Rattle.carte_sound.proofs.Rebased.{chained_base}

-- a build that began with M stands at L, with these keys finished
pub record IsStation (h : How) (b : Book) (H : List Book) (M L : SomeKept) (before : List (List ℕ)) : Type 0 where
  pub base : IsBase L b H
  pub stored : (d : Digest) (u : Value) → M.stored d ≡ Some u → L.stored d ≡ Some u
  pub fresh : (j : List ℕ) → IsFresh M j → IsFresh L j
  pub kept : (j : List ℕ) → Among before j → IsKeptNow L b j
  pub finished : (h ≡ tracing Deep) ⊎ ((j : List ℕ) → Among before j → IsFresh L j)

module _ (h : How) (b : Book) (H : List Book) (M : SomeKept) (begun : IsBase M b H) where
  -- the store has the value of a key that is held
  held_stored : (L : SomeKept) (before : List (List ℕ)) → IsStation h b H M L before → (k : List ℕ) (v : Value) → clean b k ≡ Some v → IsHeld h M b k → IsStored L (digest_of v)
  held_stored L before at k v has held =
      let r = held_result M b H begun h k held in
      let same : r.1.value ≡ v = (let s : Some r.1.value ≡ Some v = sym r.1.clean ∙ has in cc) in
      (r.1.value, ap L.stored (ap digest_of (sym same) ∙ sym r.1.digest) ∙ at.stored r.0 r.1.value r.1.stored)

  ran_stored : (L : SomeKept) (before : List (List ℕ)) → IsStation h b H M L before → (k : List ℕ) (v : Value) → clean b k ≡ Some v → (ran : Bool) → RanOrHeld h M b k ran → (ran ≡ true) ⊎ IsStored L (digest_of v)
  ran_stored L before at k v has true came = inl refl
  ran_stored L before at k v has false came = inr (held_stored L before at k v has came)

-- of a key whose needs are looked into, those that are rules are fresh
behind : (h : How) (b : Book) (H : List Book) (M L : SomeKept) (before : List (List ℕ)) → ¬ (h ≡ tracing Deep) → IsStation h b H M L before → (k : List ℕ) → ((j : List ℕ) → Among (needs b k) j → IsRule b j → Among before j) → (j : List ℕ) → Among (needs b k) j → IsRule b j → IsFresh L j
behind h b H M L before shallow at k order j among is_rule = elim (at.finished) [
  | inl is_deep ↦ absurd (shallow is_deep)
  | inr fresh ↦ fresh j (order j among is_rule)
]

needs_fresh : (h : How) (b : Book) (H : List Book) (M : SomeKept) → IsBase M b H → (L : SomeKept) (before : List (List ℕ)) → IsStation h b H M L before → (k : List ℕ) (ran : Bool) → IsFinishedAfter h b M before k ran → NeedsFresh h b L k
needs_fresh dirty b H M begun L before at k true next = behind dirty b H M L before (λ is. cc) at k (next.order (λ held. absurd (next.came held)))
needs_fresh dirty b H M begun L before at k false next = λ j among is_rule.
    let f = next.came in
    let n = begun.now k f.entry f.kept f.fresh in
    at.fresh j (n.rules j (subst (λ ks. Among ks j) (sym n.needs) among) is_rule)
needs_fresh (tracing Verifying) b H M begun L before at k ran next = behind (tracing Verifying) b H M L before (λ is. cc) at k (next.order (λ held. refl))
needs_fresh (tracing Constructive) b H M begun L before at k ran next = behind (tracing Constructive) b H M L before (λ is. cc) at k (next.order (λ held. refl))
needs_fresh (tracing Deep) b H M begun L before at k ran next = tt

-- but under deep traces the entry of a finished key is fresh
pub fresh_here : (h : How) (b : Book) (L : SomeKept) (k : List ℕ) (ran : Bool) → (h ≡ tracing Deep) ⊎ IsFresh (add h b L k ran) k
fresh_here dirty b L k ran = inr (record { entry = entry_left dirty L b k; kept = put_here L.entries k (entry_left dirty L b k); fresh = refl })
fresh_here (tracing Verifying) b L k ran = inr (record { entry = entry_left (tracing Verifying) L b k; kept = put_here L.entries k (entry_left (tracing Verifying) L b k); fresh = refl })
fresh_here (tracing Constructive) b L k ran = inr (record { entry = entry_left (tracing Constructive) L b k; kept = put_here L.entries k (entry_left (tracing Constructive) L b k); fresh = refl })
fresh_here (tracing Deep) b L k ran = inl refl

-- the keys that are finished in the end, the newest first
abbrev pub finished_before : Finishes → List (List ℕ) → List (List ℕ)
finished_before [] before = before
finished_before (f ∷ fs) before = finished_before fs (f.0 ∷ before)

module _ (h : How) (b : Book) (H : List Book) (M : SomeKept) (begun : IsBase M b H) where
  pub first_station : IsStation h b H M M []
  first_station = record {
    base = begun;
    stored = λ d u is. is;
    fresh = λ j f. f;
    kept = λ j among. absurd among;
    finished = inr (λ j among. absurd among);
  }

  may_be_next : (L : SomeKept) (before : List (List ℕ)) (k : List ℕ) (ran : Bool) → IsStation h b H M L before → IsFinishedAfter h b M before k ran → IsNext h b H L k ran
  may_be_next L before k ran at next = record {
    base = at.base;
    formula = next.is_rule.0;
    is_rule = next.is_rule.1;
    value = next.clean.0;
    clean = next.clean.1;
    stored = ran_stored h b H M begun L before at k next.clean.0 next.clean.1 ran next.came;
    order = needs_fresh h b H M begun L before at k ran next;
  }

  fresh_on : (L : SomeKept) (before : List (List ℕ)) (k : List ℕ) (ran : Bool) → IsNext h b H L k ran → (h ≡ tracing Deep) ⊎ ((j : List ℕ) → Among before j → IsFresh L j) → (h ≡ tracing Deep) ⊎ IsFresh (add h b L k ran) k → (h ≡ tracing Deep) ⊎ ((j : List ℕ) → Among (k ∷ before) j → IsFresh (add h b L k ran) j)
  fresh_on L before k ran p (inl is_deep) here = inl is_deep
  fresh_on L before k ran p (inr all) (inl is_deep) = inl is_deep
  fresh_on L before k ran p (inr all) (inr here) = inr (λ j among. elim among [
    | inl same ↦ subst (IsFresh (add h b L k ran)) (sym same) here
    | inr later ↦ fresh_grows h b H L k ran p j (all j later)
  ])

  pub next_station : (L : SomeKept) (before : List (List ℕ)) (k : List ℕ) (ran : Bool) → IsStation h b H M L before → IsFinishedAfter h b M before k ran → IsStation h b H M (add h b L k ran) (k ∷ before)
  next_station L before k ran at next =
      let p = may_be_next L before k ran at next in
      record {
        base = added h b H L k ran p;
        stored = λ d u is. stored_grows h b L k ran d u (at.stored d u is);
        fresh = λ j fresh. fresh_grows h b H L k ran p j (at.fresh j fresh);
        kept = λ j among. elim among [
          | inl same ↦ subst (IsKeptNow (add h b L k ran) b) (sym same) (kept_here h b H L k ran p)
          | inr later ↦ kept_grows h b H L k ran p j (at.kept j later)
        ];
        finished = fresh_on L before k ran p at.finished (fresh_here h b L k ran);
      }

  pub stations : (fs : Finishes) (L : SomeKept) (before : List (List ℕ)) → IsStation h b H M L before → AreFinished h b M before fs → IsStation h b H M (add_all h b L fs) (finished_before fs before)
  stations [] L before at are = at
  stations (f ∷ fs) L before at are = stations fs (add h b L f.0 f.1) (f.0 ∷ before) (next_station L before f.0 f.1 at are.0) are.1

  -- what is left, under a chain without repeats, is sound and true now
  pub left_base : (fs : Finishes) (chain : List (List ℕ)) → NoneTwice chain → AreFinished h b M [] fs → IsBase (left h b M fs chain) b H
  left_base fs chain once are =
      let at = stations fs M [] first_station are in
      chained_base (add_all h b M fs) H chain b once at.base
