-- Of a batch that is cut in two the rest carries what the whole does besides the front.
use Rattle.std.proofs.Common.{◌≡◌, ℕ, Bool, true, false, cond, List, [], ◌∷◌, ◌++◌, Option, Some, None, map, unwrap_or, refl, ap, sym, ◌∙◌, subst, inl, inr}
use Rattle.std.specs.Option.{option_or}
use Rattle.std.proofs.lemmas.List.{map-append}
use Rattle.std.proofs.lemmas.List.Folds.{find-append}
use Rattle.carte_name.specs.Names.{name_eq}
use Rattle.carte_value.specs.declared.digest.Digest.{Digest}
use Rattle.carte_value.specs.declared.link.Link.{Link}
use Rattle.carte_value.specs.declared.value.Value.{Value}
use Rattle.carte_value.specs.Lists.{Has}
use Rattle.carte_value.specs.Spelling.{digest_of}
use Rattle.carte_value.specs.Truths.{Among, NoneTwice}
use Rattle.carte_value.proofs.Members.{among_right, has_right}
use Rattle.carte_book.specs.Book.{Book}
use Rattle.carte_record.specs.declared.batch.Batch.{Batch}
use Rattle.carte_record.specs.declared.entry.Entry.{Entry}
use Rattle.carte_record.specs.Folds.{batch_traces}
use Rattle.carte_record.specs.Kept.{SomeKept, traces_in}
use Rattle.carte_record.specs.Lookups.{entry_in, is_entry_of}
use Rattle.carte_record.proofs.Growing.{traces_on}
use Rattle.carte_table.specs.Lookups.{digest_in, find_last, first_value, is_link_of, is_value_of, link_in}
use Rattle.carte_table.proofs.Found.{map_or, or_none, or_twice}
use Rattle.carte_sound.specs.Carries.{Carries}
use Rattle.carte_sound.specs.Cut.{IsCut}
use Rattle.carte_sound.specs.Lists.{EachOnce}
use Rattle.carte_sound.proofs.Tests.{same_digest, same_name}

-- the last item of the rest, or of the front
last_append : {A : Type 0} (p : A → Bool) (xs ys : List A) → find_last p (xs ++ ys) ≡ option_or (find_last p ys) (find_last p xs)
last_append p [] ys = sym (or_none (find_last p ys))
last_append p (x ∷ xs) ys = ap (λ o. option_or o (cond (p x) (Some x) None)) (last_append p xs ys) ∙ or_twice (find_last p ys) (find_last p xs) (cond (p x) (Some x) None)

-- no name of the front is one of the rest
once_behind : (js ks : List (List ℕ)) → NoneTwice (js ++ ks) → NoneTwice ks
once_behind [] ks once = once
once_behind (j ∷ js) ks once = once_behind js ks once.1

names_apart : (js ks : List (List ℕ)) (k : List ℕ) → NoneTwice (js ++ ks) → Among js k → Among ks k → ⊥
names_apart [] ks k once here there = here
names_apart (j ∷ js) ks k once (inl same) there = once.0 (among_right js ks j (subst (Among ks) same there))
names_apart (j ∷ js) ks k once (inr later) there = names_apart js ks k once.1 later there

each_behind : {A : Type 0} (xs ys : List A) → EachOnce (xs ++ ys) → EachOnce ys
each_behind [] ys once = once
each_behind (x ∷ xs) ys once = each_behind xs ys once.1

items_apart : {A : Type 0} (xs ys : List A) (z : A) → EachOnce (xs ++ ys) → Has xs z → Has ys z → ⊥
items_apart [] ys z once here there = here
items_apart (x ∷ xs) ys z once (inl same) there = once.0 (has_right xs ys x (subst (Has ys) same there))
items_apart (x ∷ xs) ys z once (inr later) there = items_apart xs ys z once.1 later there

-- a key that is found is one of the keys
module _ {A : Type 0} (key : A → List ℕ) where
  found_among : (k : List ℕ) (xs : List A) (x : A) → find_last (λ y. name_eq k (key y)) xs ≡ Some x → Among (map key xs) k
  found_among k [] x is = cc
  found_among k (y ∷ ys) x is = on (find_last (λ z. name_eq k (key z)) ys) refl (name_eq k (key y)) refl (found_among k ys) is
    where
      on : (o : Option A) → find_last (λ z. name_eq k (key z)) ys ≡ o → (t : Bool) → name_eq k (key y) ≡ t → ((z : A) → find_last (λ z. name_eq k (key z)) ys ≡ Some z → Among (map key ys) k) → option_or o (cond t (Some y) None) ≡ Some x → Among (map key (y ∷ ys)) k
      on (Some z) later t test before is = inr (before z later)
      on None later true test before is = inl (same_name k (key y) test)
      on None later false test before is = cc

  -- so where each stands once, what the rest has isn't in the front
  only_behind : (k : List ℕ) (xs ys : List A) (y : A) → NoneTwice (map key (xs ++ ys)) → find_last (λ z. name_eq k (key z)) ys ≡ Some y → find_last (λ z. name_eq k (key z)) xs ≡ None
  only_behind k xs ys y once is = on (find_last (λ z. name_eq k (key z)) xs) refl
    where
      on : (o : Option A) → find_last (λ z. name_eq k (key z)) xs ≡ o → o ≡ None
      on None here = refl
      on (Some x) here = absurd (names_apart (map key xs) (map key ys) k (subst NoneTwice (map-append key xs ys) once) (found_among k xs x here) (found_among k ys y is))

value_among : (d : Digest) (vs : List Value) (v : Value) → first_value vs d ≡ Some v → Has (map digest_of vs) d
value_among d [] v is = cc
value_among d (u ∷ us) v is = on (is_value_of d u) refl (value_among d us v) is
  where
    on : (t : Bool) → is_value_of d u ≡ t → (first_value us d ≡ Some v → Has (map digest_of us) d) → cond t (Some u) (first_value us d) ≡ Some v → Has (map digest_of (u ∷ us)) d
    on true test before is = inl (same_digest d (digest_of u) test)
    on false test before is = inr (before is)

value_behind : (d : Digest) (us vs : List Value) (v : Value) → EachOnce (map digest_of (us ++ vs)) → first_value vs d ≡ Some v → first_value us d ≡ None
value_behind d us vs v once is = on (first_value us d) refl
  where
    on : (o : Option Value) → first_value us d ≡ o → o ≡ None
    on None here = refl
    on (Some u) here = absurd (items_apart (map digest_of us) (map digest_of vs) d (subst EachOnce (map-append digest_of us vs) once) (value_among d us u here) (value_among d vs v is))

link_behind : (q : List ℕ) (ls ms : List Link) → link_in (ls ++ ms) q ≡ option_or (link_in ms q) (link_in ls q)
link_behind q ls ms = ap digest_in (last_append (is_link_of q) ls ms) ∙ map_or (λ l. l.digest) (find_last (is_link_of q) ms) (find_last (is_link_of q) ls)

link_found : (q : List ℕ) (ls : List Link) (d : Digest) → link_in ls q ≡ Some d → (l : Link) × (find_last (is_link_of q) ls ≡ Some l)
link_found q ls d is = on (find_last (is_link_of q) ls) refl is
  where
    on : (o : Option Link) → find_last (is_link_of q) ls ≡ o → digest_in o ≡ Some d → (l : Link) × (find_last (is_link_of q) ls ≡ Some l)
    on None found is = cc
    on (Some l) found is = (l, found)

module _ (b : Book) (M L N : SomeKept) (A B C : Batch) (cut : IsCut A B C) (front : Carries b M L B) (whole : Carries b M N A) where
  values_in : (d : Digest) → first_value A.values d ≡ option_or (first_value B.values d) (first_value C.values d)
  values_in d = ap (λ vs. first_value vs d) cut.values ∙ find-append (is_value_of d) B.values C.values

  links_in : (q : List ℕ) → link_in A.seen q ≡ option_or (link_in C.seen q) (link_in B.seen q)
  links_in q = ap (λ ls. link_in ls q) cut.seen ∙ link_behind q B.seen C.seen

  entries_in : (q : List ℕ) → entry_in A.entries q ≡ option_or (entry_in C.entries q) (entry_in B.entries q)
  entries_in q = ap (λ es. entry_in es q) cut.entries ∙ last_append (is_entry_of q) B.entries C.entries

  digests_once : EachOnce (map digest_of (B.values ++ C.values))
  digests_once = subst (λ vs. EachOnce (map digest_of vs)) cut.values whole.values_once

  links_once : NoneTwice (map (λ l. l.name) (B.seen ++ C.seen))
  links_once = subst (λ ls. NoneTwice (map (λ (l : Link). l.name) ls)) cut.seen whole.seen_once

  entries_once : NoneTwice (map (λ e. e.key) (B.entries ++ C.entries))
  entries_once = subst (λ es. NoneTwice (map (λ (e : Entry). e.key) es)) cut.entries whole.entries_once

  -- what the rest brings the station in between has as before
  value_lacked : (d : Digest) (v : Value) → first_value C.values d ≡ Some v → L.stored d ≡ None
  value_lacked d v is =
      let none = value_behind d B.values C.values v digests_once is in
      let all : first_value A.values d ≡ Some v = values_in d ∙ (ap (λ o. option_or o (first_value C.values d)) none ∙ is) in
      front.values d ∙ (ap (option_or (M.stored d)) none ∙ (or_none (M.stored d) ∙ whole.values_lacked d v all))

  link_here : (q : List ℕ) (d : Digest) → link_in C.seen q ≡ Some d → (link_in A.seen q ≡ Some d) × (L.seen q ≡ M.seen q)
  link_here q d is =
      let found = link_found q C.seen d is in
      let none : link_in B.seen q ≡ None = ap digest_in (only_behind (λ (l : Link). l.name) q B.seen C.seen found.0 links_once found.1) in
      (links_in q ∙ ap (λ o. option_or o (link_in B.seen q)) is, front.seen q ∙ ap (λ o. option_or o (M.seen q)) none)

  entry_here : (q : List ℕ) (e : Entry) → entry_in C.entries q ≡ Some e → (entry_in A.entries q ≡ Some e) × (L.entries q ≡ M.entries q)
  entry_here q e is =
      let none = only_behind (λ (x : Entry). x.key) q B.entries C.entries e entries_once is in
      (entries_in q ∙ ap (λ o. option_or o (entry_in B.entries q)) is, front.entries q ∙ ap (λ o. option_or o (M.entries q)) none)

  same_chain : L.chain ≡ M.chain
  same_chain = front.chain ∙ ap (λ o. unwrap_or o M.chain) cut.none

  pub cut_carries : Carries b L N C
  cut_carries = record {
    values = λ d. whole.values d ∙ (ap (option_or (M.stored d)) (values_in d) ∙ (sym (or_twice (M.stored d) (first_value B.values d) (first_value C.values d)) ∙ ap (λ o. option_or o (first_value C.values d)) (sym (front.values d))));
    values_lacked = value_lacked;
    values_once = each_behind (map digest_of B.values) (map digest_of C.values) (subst EachOnce (map-append digest_of B.values C.values) digests_once);
    seen = λ q. whole.seen q ∙ (ap (λ o. option_or o (M.seen q)) (links_in q) ∙ (or_twice (link_in C.seen q) (link_in B.seen q) (M.seen q) ∙ ap (option_or (link_in C.seen q)) (sym (front.seen q))));
    seen_differs = λ q d is was. (let here = link_here q d is in whole.seen_differs q d here.0 (sym here.1 ∙ was));
    seen_present = λ q d is. whole.seen_present q d (link_here q d is).0;
    seen_once = once_behind (map (λ (l : Link). l.name) B.seen) (map (λ (l : Link). l.name) C.seen) (subst NoneTwice (map-append (λ (l : Link). l.name) B.seen C.seen) links_once);
    entries = λ q. whole.entries q ∙ (ap (λ o. option_or o (M.entries q)) (entries_in q) ∙ (or_twice (entry_in C.entries q) (entry_in B.entries q) (M.entries q) ∙ ap (option_or (entry_in C.entries q)) (sym (front.entries q))));
    entries_differ = λ q e is was. (let here = entry_here q e is in whole.entries_differ q e here.0 (sym here.1 ∙ was));
    entries_once = once_behind (map (λ (e : Entry). e.key) B.entries) (map (λ (e : Entry). e.key) C.entries) (subst NoneTwice (map-append (λ (e : Entry). e.key) B.entries C.entries) entries_once);
    traces = λ w q. whole.traces w q ∙ (ap (λ ts. traces_in w q ts (M.traces w q)) (cut.traces w) ∙ (traces_on w q (batch_traces w B) (batch_traces w C) (M.traces w q) ∙ ap (traces_in w q (batch_traces w C)) (sym (front.traces w q))));
    chain = whole.chain ∙ (ap (λ o. unwrap_or o M.chain) cut.chain ∙ ap (unwrap_or C.chain) (sym same_chain));
    chain_differs = λ ks is was. whole.chain_differs ks (cut.chain ∙ is) (sym same_chain ∙ was);
  }
