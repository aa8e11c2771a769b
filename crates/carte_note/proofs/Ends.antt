-- Lists of a batch with one item more at their end.
use Rattle.std.proofs.Common.{◌≡◌, ℕ, Bool, true, false, cond, List, [], ◌∷◌, ◌++◌, Option, Some, None, refl, ap, sym, ◌∙◌, map, subst, inl, inr}
use Rattle.std.specs.Prelude.{find}
use Rattle.std.specs.Option.{option_or}
use Rattle.carte_value.specs.declared.link.Link.{Link}
use Rattle.carte_value.specs.Lists.{Has}
use Rattle.carte_name.specs.Names.{name_eq}
use Rattle.carte_value.specs.Truths.{Among, NoneTwice}
use Rattle.carte_value.proofs.Members.{apart_append, has_append}
use Rattle.carte_record.specs.declared.entry.Entry.{Entry}
use Rattle.carte_table.specs.Lookups.{find_last, is_link_of, link_in, first_link, digest_in}
use Rattle.carte_record.specs.Lookups.{is_entry_of, entry_in}
use Rattle.carte_table.proofs.FirstPlaces.{map_end}
use Rattle.carte_table.proofs.Found.{last_end}
use Rattle.carte_record.proofs.Looked.{first_is_last}
use Rattle.carte_table.proofs.Names.{name_eq_self}
use Rattle.carte_sound.specs.Lists.{EachOnce}

pub or_parts : {A : Type 0} (a b : Option A) → option_or a b ≡ None → (a ≡ None) × (b ≡ None)
or_parts None b is = (refl, is)
or_parts (Some x) b is = cc

-- the digest of the new link, or what was there
pub link_end : (ls : List Link) (l : Link) (q : List ℕ) → link_in (ls ++ l ∷ []) q ≡ cond (name_eq q l.name) (Some l.digest) (link_in ls q)
link_end ls l q = ap digest_in (last_end (is_link_of q) ls l) ∙ on (name_eq q l.name)
  where
    on : (t : Bool) → digest_in (option_or (cond t (Some l) None) (find_last (is_link_of q) ls)) ≡ cond t (Some l.digest) (link_in ls q)
    on true = refl
    on false = refl

pub entry_end : (es : List Entry) (e : Entry) (q : List ℕ) → entry_in (es ++ e ∷ []) q ≡ cond (name_eq q e.key) (Some e) (entry_in es q)
entry_end es e q = last_end (is_entry_of q) es e ∙ on (name_eq q e.key)
  where
    on : (t : Bool) → option_or (cond t (Some e) None) (find_last (is_entry_of q) es) ≡ cond t (Some e) (entry_in es q)
    on true = refl
    on false = refl

-- a name that isn't found isn't there
pub last_lacks : {A : Type 0} (key : A → List ℕ) (xs : List A) (k : List ℕ) → find_last (λ x. name_eq k (key x)) xs ≡ None → ¬ (Among (map key xs) k)
last_lacks key [] k none h = h
last_lacks key (x ∷ xs) k none h =
    let parts = or_parts (find_last (λ y. name_eq k (key y)) xs) (cond (name_eq k (key x)) (Some x) None) none in
    elim h [
      | inl same ↦
          let t : name_eq k (key x) ≡ true = ap (name_eq k) (sym same) ∙ name_eq_self k in
          let e : Some x ≡ None = sym (ap (λ b. cond b (Some x) None) t) ∙ parts.1 in
          cc
      | inr later ↦ last_lacks key xs k parts.0 later
    ]

-- an item of a key that wasn't there
pub once_end : {A : Type 0} (key : A → List ℕ) (xs : List A) (x : A) → NoneTwice (map key xs) → find_last (λ y. name_eq (key x) (key y)) xs ≡ None → NoneTwice (map key (xs ++ x ∷ []))
once_end key xs x once none = subst NoneTwice (sym (map_end key xs x))
    (apart_append (map key xs) (key x ∷ []) once ((λ h. h), tt) (λ k among here. elim here [
      | inl same ↦ last_lacks key xs (key x) none (subst (Among (map key xs)) same among)
      | inr nowhere ↦ nowhere
    ]))

-- one that wasn't there
pub each_end : {A : Type 0} (xs : List A) (x : A) → EachOnce xs → ¬ (Has xs x) → EachOnce (xs ++ x ∷ [])
each_end [] x once lacks = ((λ h. h), tt)
each_end (y ∷ ys) x once lacks = (
  (λ h. elim (has_append ys (x ∷ []) y h) [
    | inl there ↦ once.0 there
    | inr here ↦ elim here [
      | inl same ↦ lacks (inl (sym same))
      | inr nowhere ↦ nowhere
    ]
  ]),
  each_end ys x once.1 (λ h. lacks (inr h)),
)

map_none : (o : Option Link) → digest_in o ≡ None → o ≡ None
map_none None is = refl
map_none (Some l) is = cc

-- where each name stands there once, none is found from either end
pub none_last : (ls : List Link) (k : List ℕ) → NoneTwice (map (λ l. l.name) ls) → first_link ls k ≡ None → find_last (is_link_of k) ls ≡ None
none_last ls k once none = sym (first_is_last (λ (l : Link). l.name) ls k once) ∙ map_none (find (is_link_of k) ls) none

-- and what is found is the same
pub first_last : (ls : List Link) (k : List ℕ) → NoneTwice (map (λ l. l.name) ls) → first_link ls k ≡ link_in ls k
first_last ls k once = ap digest_in (first_is_last (λ (l : Link). l.name) ls k once)
