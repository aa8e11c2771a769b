-- How tables of users grow.
use Rattle.std.proofs.Common.{◌≡◌, ◌⊎◌, ℕ, Bool, true, false, cond, List, [], ◌∷◌, ◌++◌, Some, None, map, refl, ap, sym, ◌∙◌, subst, inl, inr, find}
use Rattle.carte_name.specs.Names.{name_eq}
use Rattle.carte_value.specs.Truths.{Among}
use Rattle.carte_value.proofs.Members.{among_append, among_left, among_right}
use Rattle.carte_record.specs.declared.entry.Entry.{Entry}
use Rattle.carte_record.specs.Lookups.{first_entry, is_entry_of}
use Rattle.carte_table.proofs.Names.{name_eq_is, name_eq_self}
use Rattle.carte_mark.specs.Tables.{Users, Needs, AddsKey, AddsFor, AreUsers}

-- for one name
pub adds_one : (old new : Users) (n k : List ℕ) → AddsKey old new n k → AddsFor old new k (Among (n ∷ []))
adds_one old new n k adds = record {
  only = λ q j among. only q j (name_eq n q) refl (subst (λ ks. Among ks j) (adds q) among);
  stays = λ q j among. subst (λ ks. Among ks j) (sym (adds q)) (stays q j (name_eq n q) among);
  there = λ q here. subst (λ ks. Among ks k) (sym (adds q)) (there q (name_eq n q) refl here);
}
  where
    only : (q j : List ℕ) (t : Bool) → name_eq n q ≡ t → Among (cond t (old q ++ k ∷ []) (old q)) j → Among (old q) j ⊎ ((j ≡ k) × Among (n ∷ []) q)
    only q j true is among = elim (among_append (old q) (k ∷ []) j among) [
      | inl before ↦ inl before
      | inr new ↦ elim new [
        | inl same ↦ inr (same, inl (sym (name_eq_is n q is)))
        | inr nowhere ↦ absurd nowhere
      ]
    ]
    only q j false is among = inl among

    stays : (q j : List ℕ) (t : Bool) → Among (old q) j → Among (cond t (old q ++ k ∷ []) (old q)) j
    stays q j true among = among_left (old q) (k ∷ []) j among
    stays q j false among = among

    there : (q : List ℕ) (t : Bool) → name_eq n q ≡ t → Among (n ∷ []) q → Among (cond t (old q ++ k ∷ []) (old q)) k
    there q true is here = among_right (old q) (k ∷ []) k (inl refl)
    there q false is (inl same) = absurd (let e : false ≡ true = sym is ∙ (ap (name_eq n) same ∙ name_eq_self n) in cc)
    there q false is (inr nowhere) = absurd nowhere

pub adds_none : (d : Users) (k : List ℕ) → AddsFor d d k (Among [])
adds_none d k = record { only = λ q j among. inl among; stays = λ q j among. among; there = λ q nowhere. absurd nowhere }

-- for one name more
pub adds_more : (old mid new : Users) (k n : List ℕ) (ns : List (List ℕ)) → AddsFor old mid k (Among ns) → AddsKey mid new n k → AddsFor old new k (Among (ns ++ n ∷ []))
adds_more old mid new k n ns before adds = record {
  only = λ q j among. elim (one.only q j among) [
    | inl was ↦ elim (before.only q j was) [
      | inl older ↦ inl older
      | inr new ↦ inr (new.0, among_left ns (n ∷ []) q new.1)
    ]
    | inr new ↦ inr (new.0, among_right ns (n ∷ []) q new.1)
  ];
  stays = λ q j among. one.stays q j (before.stays q j among);
  there = λ q among. elim (among_append ns (n ∷ []) q among) [
    | inl was ↦ one.stays q k (before.there q was)
    | inr here ↦ one.there q here
  ];
}
  where
    one : AddsFor mid new k (Among (n ∷ []))
    one = adds_one mid new n k adds

-- for all needs of the key's entry
pub adds_found : (es : List Entry) (old new : Users) (k : List ℕ) (e : Entry) → first_entry es k ≡ Some e → AddsFor old new k (Among e.needs) → AddsFor old new k (Needs es k)
adds_found es old new k e found adds = record {
  only = λ q j among. elim (adds.only q j among) [
    | inl was ↦ inl was
    | inr new ↦ inr (new.0, (e, found, new.1))
  ];
  stays = adds.stays;
  there = λ q needs. adds.there q (let both : Some needs.0 ≡ Some e = sym needs.1 ∙ found in let same : needs.0 ≡ e = cc in subst (λ (x : Entry). Among x.needs q) same needs.2);
}

pub adds_nothing : (es : List Entry) (d : Users) (k : List ℕ) → first_entry es k ≡ None → AddsFor d d k (Needs es k)
adds_nothing es d k none = record { only = λ q j among. inl among; stays = λ q j among. among; there = λ q needs. let e : None ≡ Some needs.0 = sym none ∙ needs.1 in cc }

-- the keys of the entries so far are in the table
pub record AreUsersSoFar (es before : List Entry) (d : Users) : Type 0 where
  pub only : (q k : List ℕ) → Among (d q) k → Needs es k q
  pub each : (q k : List ℕ) → Among (map (λ e. e.key) before) k → Needs es k q → Among (d q) k

map_end : (xs : List Entry) (x : Entry) → map (λ e. e.key) (xs ++ x ∷ []) ≡ map (λ e. e.key) xs ++ x.key ∷ []
map_end [] x = refl
map_end (y ∷ ys) x = ap (λ zs. y.key ∷ zs) (map_end ys x)

pub users_more : (es before : List Entry) (x : Entry) (old new : Users) → AreUsersSoFar es before old → AddsFor old new x.key (Needs es x.key) → AreUsersSoFar es (before ++ x ∷ []) new
users_more es before x old new so adds = record {
  only = λ q k among. elim (adds.only q k among) [
    | inl was ↦ so.only q k was
    | inr new ↦ subst (λ j. Needs es j q) (sym new.0) new.1
  ];
  each = λ q k among needs. elim (among_append (map (λ (e : Entry). e.key) before) (x.key ∷ []) k (subst (λ ks. Among ks k) (map_end before x) among)) [
    | inl was ↦ adds.stays q k (so.each q k was needs)
    | inr here ↦ elim here [
      | inl same ↦ subst (λ j. Among (new q) j) (sym same) (adds.there q (subst (λ j. Needs es j q) same needs))
      | inr nowhere ↦ absurd nowhere
    ]
  ];
}

-- a key with an entry is the key of one of them
pub found_key : (es : List Entry) (k : List ℕ) (e : Entry) → first_entry es k ≡ Some e → Among (map (λ x. x.key) es) k
found_key [] k e found = cc
found_key (x ∷ xs) k e found = on (name_eq k x.key) refl found (found_key xs k e)
  where
    on : (t : Bool) → name_eq k x.key ≡ t → cond t (Some x) (find (is_entry_of k) xs) ≡ Some e → (first_entry xs k ≡ Some e → Among (map (λ y. y.key) xs) k) → Among (x.key ∷ map (λ y. y.key) xs) k
    on true is there rest = inl (name_eq_is k x.key is)
    on false is there rest = inr (rest there)

pub users_all : (es : List Entry) (d : Users) → AreUsersSoFar es es d → AreUsers es d
users_all es d so = record { only = so.only; each = λ q k needs. so.each q k (found_key es k needs.0 needs.1) needs }
