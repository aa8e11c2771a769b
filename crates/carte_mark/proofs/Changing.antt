-- Gathering the names that were seen with other digests.
use Rattle.std.proofs.Common.{◌≡◌, ◌⊎◌, ℕ, suc, ◌+◌, ◌<◌, ◌≤◌, Bool, true, false, not, ◌||◌, cond, List, [], ◌∷◌, length, Option, Some, None, slice_get, find, refl, ap, sym, ◌∙◌, subst, inl, inr, arith}
use Rattle.carte_value.specs.Firsts.{seen_also}
use Rattle.carte_value.specs.declared.digest.Digest.{Digest}
use Rattle.carte_value.specs.declared.link.Link.{Link}
use Rattle.carte_name.specs.Names.{name_eq}
use Rattle.carte_value.specs.Truths.{Among}
use Rattle.carte_book.specs.Book.{Book}
use Rattle.carte_record.specs.declared.kept.Kept.{Kept}
use Rattle.carte_record.specs.Kept.{SomeKept, kept_view}
use Rattle.carte_table.specs.Lookups.{digest_in, first_link, is_link_of}
use Rattle.carte_table.proofs.Names.{name_eq_is}
use Rattle.carte_sound.specs.Begun.{is_digest}
use Rattle.carte_sound.specs.Marks.{present}
use Rattle.carte_sound.proofs.Tests.{same_digest, digest_self}
use Rattle.carte_mark.specs.Reached.{has_changed, IsSeenChanged, AreSeenChanged, AddsChanged}
use Rattle.carte_mark.proofs.Putting.{put_only, put_stays, put_there}

pub is_digest_is : (o : Option Digest) (d : Digest) → is_digest o d ≡ true → o ≡ Some d
is_digest_is None d is = cc
is_digest_is (Some c) d is = ap Some (same_digest c d is)

pub is_digest_not : (o : Option Digest) (d : Digest) → is_digest o d ≡ false → ¬ (o ≡ Some d)
is_digest_not o d is same = let e : false ≡ true = sym is ∙ (ap (λ x. is_digest x d) same ∙ digest_self d) in cc

-- the test tells what has changed
pub told : (K : SomeKept) (b : Book) (q : List ℕ) (o : Option Digest) → K.seen q ≡ o → has_changed o (present b q) ≡ true → IsSeenChanged K b q
told K b q None is test = cc
told K b q (Some d) is test = record { digest = d; seen = is; differs = is_digest_not (present b q) d (off (is_digest (present b q) d) test) }
  where
    off : (t : Bool) → not t ≡ true → t ≡ false
    off true h = cc
    off false h = refl

pub untold : (K : SomeKept) (b : Book) (q : List ℕ) (o : Option Digest) → K.seen q ≡ o → has_changed o (present b q) ≡ false → ¬ (IsSeenChanged K b q)
untold K b q None is test c = let e : None ≡ Some c.digest = sym is ∙ c.seen in cc
untold K b q (Some d) is test c = c.differs (is_digest_is (present b q) d (on (is_digest (present b q) d) test) ∙ (sym is ∙ c.seen))
  where
    on : (t : Bool) → not t ≡ false → t ≡ true
    on true h = refl
    on false h = cc

-- of a link whose own digest is the present one, or whose name hasn't changed, none is put
pub adds_none : (K : SomeKept) (b : Book) (l : Link) (names : List (List ℕ)) → (is_digest (present b l.name) l.digest || not (has_changed (K.seen l.name) (present b l.name))) ≡ true → AddsChanged K b l names names
adds_none K b l names test = record { only = λ q among. inl among; stays = λ q among. among; there = λ first c. absurd (on (is_digest (present b l.name) l.digest) refl test first c) }
  where
    off : (t : Bool) → not t ≡ true → t ≡ false
    off true h = cc
    off false h = refl

    on : (t : Bool) → is_digest (present b l.name) l.digest ≡ t → (t || not (has_changed (K.seen l.name) (present b l.name))) ≡ true → K.seen l.name ≡ Some l.digest → ¬ (IsSeenChanged K b l.name)
    on true is test first c =
        let both : Some l.digest ≡ Some c.digest = sym first ∙ c.seen in
        let same : l.digest ≡ c.digest = cc in
        c.differs (is_digest_is (present b l.name) l.digest is ∙ ap Some same)
    on false is test first c = untold K b l.name (K.seen l.name) refl (off (has_changed (K.seen l.name) (present b l.name)) test) c

-- and else the name
pub adds_name : (K : SomeKept) (b : Book) (l : Link) (old new : List (List ℕ)) → has_changed (K.seen l.name) (present b l.name) ≡ true → new ≡ seen_also old l.name → AddsChanged K b l old new
adds_name K b l old new test is = subst (AddsChanged K b l old) (sym is) (record {
  only = λ q among. elim (put_only old (l.name ∷ []) q among) [
    | inl was ↦ inl was
    | inr here ↦ elim here [
      | inl same ↦ inr (subst (IsSeenChanged K b) (sym same) (told K b l.name (K.seen l.name) refl test))
      | inr nowhere ↦ absurd nowhere
    ]
  ];
  stays = λ q among. put_stays old (l.name ∷ []) q among;
  there = λ first c. put_there old (l.name ∷ []) l.name (inl refl);
})

-- those of the links before a place
pub record AreChangedBefore (K : SomeKept) (b : Book) (ls : List Link) (end : ℕ) (ns : List (List ℕ)) : Type 0 where
  pub only : (q : List ℕ) → Among ns q → IsSeenChanged K b q
  pub each : (i : ℕ) (l : Link) → i < end → slice_get ls i ≡ Some l → K.seen l.name ≡ Some l.digest → IsSeenChanged K b l.name → Among ns l.name

pub changed_first : (K : SomeKept) (b : Book) (ls : List Link) (ns : List (List ℕ)) → ns ≡ [] → AreChangedBefore K b ls 0 ns
changed_first K b ls ns none = record { only = λ q among. absurd (subst (λ ks. Among ks q) none among); each = λ i l below there first c. absurd (omega arith) }

pub changed_more : (K : SomeKept) (b : Book) (ls : List Link) (at : ℕ) (l : Link) (old new : List (List ℕ)) → slice_get ls at ≡ Some l → AreChangedBefore K b ls at old → AddsChanged K b l old new → AreChangedBefore K b ls (at + 1) new
changed_more K b ls at l old new here so adds = record {
  only = λ q among. elim (adds.only q among) [
    | inl was ↦ so.only q was
    | inr c ↦ c
  ];
  each = λ i m below there first c. elim (either i below) [
    | inl before ↦ adds.stays m.name (so.each i m before there first c)
    | inr now ↦
        let both : Some l ≡ Some m = sym here ∙ (ap (slice_get ls) (sym now) ∙ there) in
        let same : l ≡ m = cc in
        let f = subst (λ (x : Link). K.seen x.name ≡ Some x.digest) (sym same) first in
        subst (λ (x : Link). Among new x.name) same (adds.there f (subst (λ (x : Link). IsSeenChanged K b x.name) (sym same) c))
  ];
}
  where
    either : (i : ℕ) → i < at + 1 → (i < at) ⊎ (i ≡ at)
    either i below = grind arith

record SeenAt (ls : List Link) (q : List ℕ) (d : Digest) : Type 0 where
  pub place : ℕ
  pub link : Link
  pub below : place < length ls
  pub there : slice_get ls place ≡ Some link
  pub name : q ≡ link.name
  pub digest : link.digest ≡ d

-- a digest that was seen is that of the first link of the name
seen_at : (ls : List Link) (q : List ℕ) (d : Digest) → first_link ls q ≡ Some d → SeenAt ls q d
seen_at [] q d is = cc
seen_at (l ∷ ls) q d is = on (name_eq q l.name) refl is (seen_at ls q d)
  where
    on : (t : Bool) → name_eq q l.name ≡ t → digest_in (cond t (Some l) (find (is_link_of q) ls)) ≡ Some d → (first_link ls q ≡ Some d → SeenAt ls q d) → SeenAt (l ∷ ls) q d
    on true same there rest = record { place = 0; link = l; below = omega arith; there = refl; name = name_eq_is q l.name same; digest = (let e : l.digest ≡ d = cc in e) }
    on false same there rest = let s = rest there in let inside = s.below in record { place = suc s.place; link = s.link; below = omega arith; there = s.there; name = s.name; digest = s.digest }

pub changed_all : (K : Kept) (b : Book) (end : ℕ) (ns : List (List ℕ)) → length K.seen ≤ end → AreChangedBefore (kept_view K) b K.seen end ns → AreSeenChanged (kept_view K) b ns
changed_all K b end ns past so = record {
  only = so.only;
  each = λ q c.
      let s = seen_at K.seen q c.digest c.seen in
      let inside = s.below in
      let first = ap (first_link K.seen) (sym s.name) ∙ (c.seen ∙ ap Some (sym s.digest)) in
      subst (Among ns) (sym s.name) (so.each s.place s.link (omega arith) s.there first (subst (IsSeenChanged (kept_view K) b) s.name c));
}
