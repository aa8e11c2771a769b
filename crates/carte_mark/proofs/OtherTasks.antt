-- Gathering the keys whose entries have other tasks.
use Rattle.std.proofs.Common.{◌≡◌, ◌⊎◌, ℕ, ◌+◌, ◌<◌, ◌≤◌, Bool, true, false, not, ◌||◌, List, [], ◌∷◌, length, Option, Some, None, slice_get, refl, ap, sym, ◌∙◌, subst, inl, inr, arith}
use Rattle.carte_value.specs.Firsts.{seen_also}
use Rattle.carte_value.specs.declared.digest.Digest.{Digest}
use Rattle.carte_value.specs.Truths.{Among}
use Rattle.carte_book.specs.Book.{Book}
use Rattle.carte_book.specs.Task.{task_now}
use Rattle.carte_record.specs.declared.entry.Entry.{Entry}
use Rattle.carte_record.specs.declared.kept.Kept.{Kept}
use Rattle.carte_record.specs.Kept.{SomeKept, kept_view}
use Rattle.carte_record.specs.Lookups.{first_entry}
use Rattle.carte_sound.specs.Begun.{is_digest}
use Rattle.carte_sound.specs.Marks as marks
use Rattle.carte_sound.specs.Marks.{IsChanged}
use Rattle.carte_mark.specs.Reached.{is_other, IsOther, AreChanged, AreSeenChanged, AddsOther, PutsOthers}
use Rattle.carte_mark.proofs.Changing.{is_digest_is, is_digest_not}
use Rattle.carte_mark.proofs.Passing.{found_at}
use Rattle.carte_mark.proofs.Putting.{put_only, put_stays, put_there}

off : (t : Bool) → not t ≡ true → t ≡ false
off true h = cc
off false h = refl

still : (t : Bool) → not t ≡ false → t ≡ true
still true h = refl
still false h = cc

-- the test tells what is other
pub told : (K : SomeKept) (b : Book) (k : List ℕ) (o : Option Entry) → K.entries k ≡ o → is_other o (task_now b k) ≡ true → IsOther K b k
told K b k None is test = cc
told K b k (Some e) is test = record { entry = e; kept = is; differs = is_digest_not (task_now b k) e.task (off (is_digest (task_now b k) e.task) test) }

pub untold : (K : SomeKept) (b : Book) (k : List ℕ) (o : Option Entry) → K.entries k ≡ o → is_other o (task_now b k) ≡ false → ¬ (IsOther K b k)
untold K b k None is test c = let e : None ≡ Some c.entry = sym is ∙ c.kept in cc
untold K b k (Some e) is test c =
    let same : e ≡ c.entry = (let both : Some e ≡ Some c.entry = sym is ∙ c.kept in cc) in
    c.differs (is_digest_is (task_now b k) e.task (still (is_digest (task_now b k) e.task) test) ∙ ap (λ (y : Entry). Some y.task) same)

-- of an entry whose own task is the present one, or whose key's isn't other, none is put
pub adds_none : (K : SomeKept) (b : Book) (e : Entry) (task : Option Digest) (names : List (List ℕ)) → task ≡ task_now b e.key → (is_digest task e.task || not (is_other (K.entries e.key) task)) ≡ true → AddsOther K b e names names
adds_none K b e task names now test = record {
  only = λ q among. inl among;
  stays = λ q among. among;
  there = λ first c. absurd (on (is_digest (task_now b e.key) e.task) refl (ap (λ t. is_digest t e.task || not (is_other (K.entries e.key) t)) (sym now) ∙ test) first c);
}
  where
    on : (t : Bool) → is_digest (task_now b e.key) e.task ≡ t → (t || not (is_other (K.entries e.key) (task_now b e.key))) ≡ true → K.entries e.key ≡ Some e → ¬ (IsOther K b e.key)
    on true is test first c =
        let same : e ≡ c.entry = (let both : Some e ≡ Some c.entry = sym first ∙ c.kept in cc) in
        c.differs (is_digest_is (task_now b e.key) e.task is ∙ ap (λ (y : Entry). Some y.task) same)
    on false is test first c = untold K b e.key (K.entries e.key) refl (off (is_other (K.entries e.key) (task_now b e.key)) test) c

-- and else the key
pub adds_key : (K : SomeKept) (b : Book) (e : Entry) (task : Option Digest) (old new : List (List ℕ)) → task ≡ task_now b e.key → is_other (K.entries e.key) task ≡ true → new ≡ seen_also old e.key → AddsOther K b e old new
adds_key K b e task old new now test is = subst (AddsOther K b e old) (sym is) (record {
  only = λ q among. elim (put_only old (e.key ∷ []) q among) [
    | inl was ↦ inl was
    | inr here ↦ elim here [
      | inl same ↦ inr (subst (IsOther K b) (sym same) (told K b e.key (K.entries e.key) refl (ap (is_other (K.entries e.key)) (sym now) ∙ test)))
      | inr nowhere ↦ absurd nowhere
    ]
  ];
  stays = λ q among. put_stays old (e.key ∷ []) q among;
  there = λ first c. put_there old (e.key ∷ []) e.key (inl refl);
})

-- those of the entries before a place
pub record AreOthersBefore (K : SomeKept) (b : Book) (es : List Entry) (end : ℕ) (old ns : List (List ℕ)) : Type 0 where
  pub only : (q : List ℕ) → Among ns q → Among old q ⊎ IsOther K b q
  pub stays : (q : List ℕ) → Among old q → Among ns q
  pub each : (i : ℕ) (e : Entry) → i < end → slice_get es i ≡ Some e → K.entries e.key ≡ Some e → IsOther K b e.key → Among ns e.key

pub others_first : (K : SomeKept) (b : Book) (es : List Entry) (ns : List (List ℕ)) → AreOthersBefore K b es 0 ns ns
others_first K b es ns = record { only = λ q among. inl among; stays = λ q among. among; each = λ i e below there first c. absurd (omega arith) }

pub others_more : (K : SomeKept) (b : Book) (es : List Entry) (at : ℕ) (e : Entry) (first old new : List (List ℕ)) → slice_get es at ≡ Some e → AreOthersBefore K b es at first old → AddsOther K b e old new → AreOthersBefore K b es (at + 1) first new
others_more K b es at e first old new here so adds = record {
  only = λ q among. elim (adds.only q among) [
    | inl was ↦ so.only q was
    | inr c ↦ inr c
  ];
  stays = λ q among. adds.stays q (so.stays q among);
  each = λ i f below there own c. elim (either i below) [
    | inl before ↦ adds.stays f.key (so.each i f before there own c)
    | inr now ↦
        let both : Some e ≡ Some f = sym here ∙ (ap (slice_get es) (sym now) ∙ there) in
        let same : e ≡ f = cc in
        subst (λ (y : Entry). Among new y.key) same (adds.there (subst (λ (y : Entry). K.entries y.key ≡ Some y) (sym same) own) (subst (λ (y : Entry). IsOther K b y.key) (sym same) c))
  ];
}
  where
    either : (i : ℕ) → i < at + 1 → (i < at) ⊎ (i ≡ at)
    either i below = grind arith

pub others_all : (K : Kept) (b : Book) (end : ℕ) (old ns : List (List ℕ)) → length K.entries ≤ end → AreOthersBefore (kept_view K) b K.entries end old ns → PutsOthers (kept_view K) b old ns
others_all K b end old ns past so = record {
  only = so.only;
  stays = so.stays;
  each = λ q c.
      let f = found_at K.entries q c.entry c.kept in
      let inside = f.below in
      let own = ap (first_entry K.entries) (sym f.key) ∙ c.kept in
      subst (Among ns) (sym f.key) (so.each f.place c.entry (omega arith) f.there own (subst (IsOther (kept_view K) b) f.key c));
}

-- both kinds of changes together
pub both_changed : (K : SomeKept) (b : Book) (seen all : List (List ℕ)) → AreSeenChanged K b seen → PutsOthers K b seen all → AreChanged K b all
both_changed K b seen all are puts = record {
  only = λ q among. elim (puts.only q among) [
    | inl was ↦ let c = are.only q was in marks.IsChanged.seen c.digest c.seen c.differs
    | inr c ↦ marks.IsChanged.task c.entry c.kept c.differs
  ];
  each = λ q c. each q c;
}
  where
    each : (q : List ℕ) → IsChanged K b q → Among all q
    each q (marks.IsChanged.seen d at differs) = puts.stays q (are.each q (record { digest = d; seen = at; differs = differs }))
    each q (marks.IsChanged.task e at differs) = puts.each q (record { entry = e; kept = at; differs = differs })
