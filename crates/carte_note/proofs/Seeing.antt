-- The inputs that a batch has seen, with those that one more entry names.
use Rattle.std.proofs.Common.{◌≡◌, ℕ, Bool, true, false, not, ◌&&◌, ◌||◌, cond, List, [], ◌∷◌, ◌++◌, Option, Some, None, is_some, refl, ap, sym, ◌∙◌, map, subst, inl, inr, ◌⊎◌}
use Rattle.std.specs.Option.{option_or}
use Rattle.carte_value.specs.declared.digest.Digest.{Digest}
use Rattle.carte_value.specs.declared.link.Link.{Link}
use Rattle.carte_name.specs.Names.{name_eq}
use Rattle.carte_value.specs.Truths.{NoneTwice}
use Rattle.carte_book.specs.Book.{Book, clean}
use Rattle.carte_book.proofs.Clean.{clean_input}
use Rattle.carte_record.specs.Folds.{is_among}
use Rattle.carte_table.specs.Lookups.{link_in, first_link}
use Rattle.carte_table.proofs.Names.{name_eq_self, name_eq_sym}
use Rattle.carte_sound.specs.Begun.{is_digest}
use Rattle.carte_sound.specs.Left.{seen_left}
use Rattle.carte_sound.specs.Marks.{present}
use Rattle.carte_sound.specs.True.{digest_or, links_to}
use Rattle.carte_sound.proofs.Begun.{present_input}
use Rattle.carte_sound.proofs.Tests.{eq_or_apart, same_digest, digest_self}
use Rattle.carte_note.specs.Writes.{names_in, with_seen, all_seen}
use Rattle.carte_note.proofs.Ends.{link_end, once_end, none_last, first_last}

-- just those that are kept otherwise, as they are now
pub record SeenIn (b : Book) (kept now : List ℕ → Option Digest) (ls : List Link) : Type 0 where
  pub seen : (q : List ℕ) → now q ≡ option_or (link_in ls q) (kept q)
  pub differs : (q : List ℕ) (d : Digest) → link_in ls q ≡ Some d → ¬ (kept q ≡ Some d)
  pub is_present : (q : List ℕ) (d : Digest) → link_in ls q ≡ Some d → present b q ≡ Some d
  pub once : NoneTwice (map (λ l. l.name) ls)

-- the link has the present digest, where its name is an input
abbrev pub TellsNow : Book → Link → Type 0
TellsNow b l = (d : Digest) → present b l.name ≡ Some d → d ≡ l.digest

abbrev pub AllTell : Book → List Link → Type 0
AllTell b [] = Unit {0}
AllTell b (l ∷ ls) = TellsNow b l × AllTell b ls

-- with one input more
abbrev pub see_at : (List ℕ → Option Digest) → Book → List ℕ → List ℕ → Option Digest
see_at now b k q = cond (name_eq q k && is_some (present b q)) (present b q) (now q)

pub seen_alike : (b : Book) (kept now new : List ℕ → Option Digest) (ls : List Link) → ((q : List ℕ) → new q ≡ now q) → SeenIn b kept now ls → SeenIn b kept new ls
seen_alike b kept now new ls same s = record { seen = λ q. same q ∙ s.seen q; differs = s.differs; is_present = s.is_present; once = s.once }

is_digest_is : (o : Option Digest) (d : Digest) → is_digest o d ≡ true → o ≡ Some d
is_digest_is None d is = cc
is_digest_is (Some c) d is = ap Some (same_digest c d is)

-- neither test stands in the way
pub record Wanted (o p : Option Digest) (g : Bool) : Type 0 where
  pub digest : Digest
  pub is_input : o ≡ Some digest
  pub lacked : p ≡ None
  pub differs : g ≡ false

wanted : (o p : Option Digest) (g : Bool) → (is_some o && not (is_some p || g)) ≡ true → Wanted o p g
wanted None p g is = cc
wanted (Some d) (Some c) g is = cc
wanted (Some d) None true is = cc
wanted (Some d) None false is = record { digest = d; is_input = refl; lacked = refl; differs = refl }

-- or one does
unwanted : (o p : Option Digest) (g : Bool) → (is_some o && not (is_some p || g)) ≡ false → p ≡ None → (o ≡ None) ⊎ (g ≡ true)
unwanted None p g is none = inl refl
unwanted (Some d) (Some c) g is none = cc
unwanted (Some d) None true is none = inr refl
unwanted (Some d) None false is none = cc

module _ (b : Book) (ks : List Link) (now : List ℕ → Option Digest) (ls : List Link) (l : Link) (s : SeenIn b (first_link ks) now ls) (tells : TellsNow b l) where
  stayed : (is_some (present b l.name) && not (is_some (first_link ls l.name) || is_digest (first_link ks l.name) l.digest)) ≡ false → (q : List ℕ) → see_at now b l.name q ≡ now q
  stayed test q = elim (eq_or_apart q l.name) [
    | inl same ↦ subst (λ j. see_at now b l.name j ≡ now j) (sym same) (on_present (name_eq l.name l.name) (present b l.name) refl)
    | inr apart ↦ ap (λ t. cond (t && is_some (present b q)) (present b q) (now q)) apart
  ]
    where
      found : (d : Digest) → present b l.name ≡ Some d → (o : Option Digest) → link_in ls l.name ≡ o → now l.name ≡ Some d
      found d is (Some c) there =
          let both : Some c ≡ Some d = sym (s.is_present l.name c there) ∙ is in
          s.seen l.name ∙ (ap (λ o. option_or o (first_link ks l.name)) there ∙ both)
      found d is None there = elim (unwanted (present b l.name) (first_link ls l.name) (is_digest (first_link ks l.name) l.digest) test (first_last ls l.name s.once ∙ there)) [
        | inl none ↦ (let e : None ≡ Some d = sym none ∙ is in cc)
        | inr kept ↦ s.seen l.name ∙ (ap (λ o. option_or o (first_link ks l.name)) there ∙ (is_digest_is (first_link ks l.name) l.digest kept ∙ ap Some (sym (tells d is))))
      ]

      on_present : (t : Bool) (o : Option Digest) → present b l.name ≡ o → cond (t && is_some o) o (now l.name) ≡ now l.name
      on_present true None is = refl
      on_present true (Some d) is = sym (found d is (link_in ls l.name) refl)
      on_present false o is = refl

  seen_more : Wanted (present b l.name) (first_link ls l.name) (is_digest (first_link ks l.name) l.digest) → SeenIn b (first_link ks) (see_at now b l.name) (ls ++ l ∷ [])
  seen_more w = record { seen = seen; differs = differs; is_present = is_present; once = once_end (λ (m : Link). m.name) ls l s.once (none_last ls l.name s.once w.lacked) }
    where
      here : link_in (ls ++ l ∷ []) l.name ≡ Some l.digest
      here = link_end ls l l.name ∙ ap (λ t. cond t (Some l.digest) (link_in ls l.name)) (name_eq_self l.name)

      elsewhere : (q : List ℕ) → name_eq q l.name ≡ false → link_in (ls ++ l ∷ []) q ≡ link_in ls q
      elsewhere q apart = link_end ls l q ∙ ap (λ t. cond t (Some l.digest) (link_in ls q)) apart

      now_here : see_at now b l.name l.name ≡ Some l.digest
      now_here =
          ap (λ t. cond (t && is_some (present b l.name)) (present b l.name) (now l.name)) (name_eq_self l.name)
          ∙ (ap (λ o. cond (is_some o) o (now l.name)) w.is_input ∙ ap Some (tells w.digest w.is_input))

      seen : (q : List ℕ) → see_at now b l.name q ≡ option_or (link_in (ls ++ l ∷ []) q) (first_link ks q)
      seen q = elim (eq_or_apart q l.name) [
        | inl same ↦ subst (λ j. see_at now b l.name j ≡ option_or (link_in (ls ++ l ∷ []) j) (first_link ks j)) (sym same) (now_here ∙ sym (ap (λ o. option_or o (first_link ks l.name)) here))
        | inr apart ↦ ap (λ t. cond (t && is_some (present b q)) (present b q) (now q)) apart ∙ (s.seen q ∙ sym (ap (λ o. option_or o (first_link ks q)) (elsewhere q apart)))
      ]

      new_or_old : (q : List ℕ) (c : Digest) → link_in (ls ++ l ∷ []) q ≡ Some c → ((q ≡ l.name) × (c ≡ l.digest)) ⊎ (link_in ls q ≡ Some c)
      new_or_old q c is = elim (eq_or_apart q l.name) [
        | inl same ↦ inl (same, (let e : Some l.digest ≡ Some c = sym here ∙ (ap (link_in (ls ++ l ∷ [])) (sym same) ∙ is) in let f : l.digest ≡ c = cc in sym f))
        | inr apart ↦ inr (sym (elsewhere q apart) ∙ is)
      ]

      differs : (q : List ℕ) (c : Digest) → link_in (ls ++ l ∷ []) q ≡ Some c → ¬ (first_link ks q ≡ Some c)
      differs q c is kept = elim (new_or_old q c is) [
        | inl new ↦
            let at : first_link ks l.name ≡ Some l.digest = ap (first_link ks) (sym new.0) ∙ (kept ∙ ap Some new.1) in
            let e : false ≡ true = sym w.differs ∙ (ap (λ o. is_digest o l.digest) at ∙ digest_self l.digest) in
            cc
        | inr old ↦ s.differs q c old kept
      ]

      is_present : (q : List ℕ) (c : Digest) → link_in (ls ++ l ∷ []) q ≡ Some c → present b q ≡ Some c
      is_present q c is = elim (new_or_old q c is) [
        | inl new ↦ ap (present b) new.0 ∙ (w.is_input ∙ ap Some (tells w.digest w.is_input ∙ sym new.1))
        | inr old ↦ s.is_present q c old
      ]

  pub one_seen : SeenIn b (first_link ks) (see_at now b l.name) (with_seen b ks l ls)
  one_seen = on (is_some (present b l.name) && not (is_some (first_link ls l.name) || is_digest (first_link ks l.name) l.digest)) refl
    where
      on : (t : Bool) → (is_some (present b l.name) && not (is_some (first_link ls l.name) || is_digest (first_link ks l.name) l.digest)) ≡ t → SeenIn b (first_link ks) (see_at now b l.name) (cond t (ls ++ l ∷ []) ls)
      on true is = seen_more (wanted (present b l.name) (first_link ls l.name) (is_digest (first_link ks l.name) l.digest) is)
      on false is = seen_alike b (first_link ks) now (see_at now b l.name) ls (stayed is) s

joined : (a c : Bool) (o s : Option Digest) → cond ((a || c) && is_some o) o s ≡ cond (c && is_some o) o (cond (a && is_some o) o s)
joined true true None s = refl
joined true true (Some d) s = refl
joined true false None s = refl
joined true false (Some d) s = refl
joined false true None s = refl
joined false true (Some d) s = refl
joined false false o s = refl

-- the inputs among the names of links that tell their present digests
pub links_seen : (b : Book) (ks ms : List Link) (now : List ℕ → Option Digest) (ls : List Link) → SeenIn b (first_link ks) now ls → AllTell b ms → SeenIn b (first_link ks) (seen_left now b (names_in ms)) (all_seen b ks ms ls)
links_seen b ks [] now ls s tell = s
links_seen b ks (m ∷ ms) now ls s tell =
    seen_alike b (first_link ks) (seen_left (see_at now b m.name) b (names_in ms)) (seen_left now b (m.name ∷ names_in ms)) (all_seen b ks ms (with_seen b ks m ls))
    (λ q. ap (λ t. cond ((t || is_among (names_in ms) q) && is_some (present b q)) (present b q) (now q)) (name_eq_sym m.name q) ∙ joined (name_eq q m.name) (is_among (names_in ms) q) (present b q) (now q))
    (links_seen b ks ms (see_at now b m.name) (with_seen b ks m ls) (one_seen b ks now ls m s tell.0) tell.1)

-- links to clean values tell them
pub clean_tells : (b : Book) (js : List (List ℕ)) → AllTell b (links_to (clean b) js)
clean_tells b [] = tt
clean_tells b (j ∷ js) = ((λ d is. let x = present_input b j d is in sym x.2 ∙ sym (ap digest_or (clean_input b j x.0 x.1))), clean_tells b js)

pub names_linked : (b : Book) (js : List (List ℕ)) → names_in (links_to (clean b) js) ≡ js
names_linked b [] = refl
names_linked b (j ∷ js) = ap (λ ks. j ∷ ks) (names_linked b js)
