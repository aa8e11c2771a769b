-- What is gathered from links, each name once.
use Rattle.std.proofs.Common.{◌≡◌, ℕ, ◌+◌, ◌<◌, length, get_or, take, append_assoc, append-nil, Bool, true, false, not, ◌||◌, cond, List, [], ◌∷◌, ◌++◌, Option, Some, None, is_some, filter, refl, ap, sym, ◌∙◌}
use Rattle.std.specs.List.{list_any}
use Rattle.std.proofs.lemmas.List.{take_more}
use Rattle.indexmap.specs.IndexMap.{IndexMap, get, insert_entry}
use Rattle.indexmap.proofs.CallerLemmas.{insert_entry-new}
use Rattle.std.specs.Map.{lookup}
use Rattle.std.specs.Cmp.Lexicographic.{bytes_decides}
use Rattle.carte_value.specs.declared.digest.Digest.{Digest}
use Rattle.carte_value.specs.declared.link.Link.{Link}
use Rattle.carte_name.specs.Names.{name_eq}
use Rattle.carte_value.specs.Asks.{firsts}
use Rattle.carte_value.specs.Firsts.{seen_also, seen_all}
use Rattle.carte_tree.proofs.Once.{firsts_all, seen_both}
use Rattle.carte_sound.specs.Beneath.{gathered}
use Rattle.carte_sound.specs.True.{linked_by}
use Rattle.carte_sound.proofs.Tests.{name_self}
use Rattle.carte_book.specs.Book.{Book, content}
use Rattle.carte_note.specs.declared.finished.Finished.{Finished}
use Rattle.carte_note.specs.Lists.{finished_of}
use Rattle.carte_rebuild.specs.declared.gather.Role.{Role}
use Rattle.carte_rebuild.specs.Gathering.{Gathered, put_link, put_links, links_in, brought, brought_by, picks, picked}

-- 1. names, each once

any_left : (p : List ℕ → Bool) (xs ys : List (List ℕ)) → list_any p xs ≡ true → list_any p (xs ++ ys) ≡ true
any_left p [] ys has = cc
any_left p (x ∷ xs) ys has =
    elim (p x) as (λ b. (b || list_any p xs) ≡ true → (b || list_any p (xs ++ ys)) ≡ true) [
      | true ↦ λ h. refl
      | false ↦ λ h. any_left p xs ys h
    ] has

any_end : (p : List ℕ → Bool) (xs : List (List ℕ)) (y : List ℕ) → p y ≡ true → list_any p (xs ++ y ∷ []) ≡ true
any_end p [] y is = ap (λ b. b || false) is
any_end p (x ∷ xs) y is =
    elim (p x) as (λ b. (b || list_any p (xs ++ y ∷ [])) ≡ true) [
      | true ↦ refl
      | false ↦ any_end p xs y is
    ]

seen_known : (js : List (List ℕ)) (y : List ℕ) → list_any (name_eq y) js ≡ true → seen_also js y ≡ js
seen_known js y has = ap (λ c. cond c js (js ++ y ∷ [])) has

seen_still : (js : List (List ℕ)) (k y : List ℕ) → list_any (name_eq k) js ≡ true → list_any (name_eq k) (seen_also js y) ≡ true
seen_still js k y has =
    elim (list_any (name_eq y) js) as (λ b. list_any (name_eq k) (cond b js (js ++ y ∷ [])) ≡ true) [
      | true ↦ has
      | false ↦ any_left (name_eq k) js (y ∷ []) has
    ]

seen_after : (js : List (List ℕ)) (k : List ℕ) → list_any (name_eq k) (seen_also js k) ≡ true
seen_after js k =
    elim (list_any (name_eq k) js) as (λ b. list_any (name_eq k) js ≡ b → list_any (name_eq k) (cond b js (js ++ k ∷ [])) ≡ true) [
      | true ↦ λ has. has
      | false ↦ λ none. any_end (name_eq k) js k (name_self k)
    ] refl

-- a name that is known may be left out
seen_without : (js : List (List ℕ)) (k : List ℕ) (ys : List (List ℕ)) → list_any (name_eq k) js ≡ true → seen_all js (filter (λ i. not (name_eq k i)) ys) ≡ seen_all js ys
seen_without js k [] has = refl
seen_without js k (y ∷ ys) has =
    elim (name_eq k y) as (λ b. name_eq k y ≡ b → seen_all js (cond (not b) (y ∷ filter (λ i. not (name_eq k i)) ys) (filter (λ i. not (name_eq k i)) ys)) ≡ seen_all (seen_also js y) ys) [
      | true ↦ λ same. seen_without js k ys has ∙ ap (λ is. seen_all is ys) (sym (seen_known js y (ap (λ i. list_any (name_eq i) js) (sym ((bytes_decides k y).0 same)) ∙ has)))
      | false ↦ λ other. seen_without (seen_also js y) k ys (seen_still js k y has)
    ] refl

seen_firsts : (js xs : List (List ℕ)) → seen_all js (firsts xs) ≡ seen_all js xs
seen_firsts js [] = refl
seen_firsts js (k ∷ xs) = seen_without (seen_also js k) k (firsts xs) (seen_after js k) ∙ seen_firsts (seen_also js k) xs

firsts_seen : (xs : List (List ℕ)) → seen_all [] xs ≡ firsts xs
firsts_seen xs = firsts_all [] xs

seen_gathered : (f : List ℕ → List (List ℕ)) (js ks : List (List ℕ)) → seen_all js (gathered (λ j. firsts (f j)) ks) ≡ seen_all js (gathered f ks)
seen_gathered f js [] = refl
seen_gathered f js (k ∷ ks) =
    seen_both js (firsts (f k)) (gathered (λ j. firsts (f j)) ks)
    ∙ ap (λ is. seen_all is (gathered (λ j. firsts (f j)) ks)) (seen_firsts js (f k))
    ∙ seen_gathered f (seen_all js (f k)) ks
    ∙ sym (seen_both js (f k) (gathered f ks))

-- behind some names it is the same whether the others are taken once before they are gathered, or not
pub firsts_behind : (f : List ℕ → List (List ℕ)) (xs ks : List (List ℕ)) → firsts (xs ++ gathered (λ j. firsts (f j)) ks) ≡ firsts (xs ++ gathered f ks)
firsts_behind f xs ks =
    sym (firsts_seen (xs ++ gathered (λ j. firsts (f j)) ks))
    ∙ seen_both [] xs (gathered (λ j. firsts (f j)) ks)
    ∙ seen_gathered f (seen_all [] xs) ks
    ∙ sym (seen_both [] xs (gathered f ks))
    ∙ firsts_seen (xs ++ gathered f ks)

-- 2. links

pub put_both : (es : Gathered) (ls ms : List Link) → put_links es (ls ++ ms) ≡ put_links (put_links es ls) ms
put_both es [] ms = refl
put_both es (l ∷ ls) ms = put_both (put_link es l) ls ms

module _ (g : List ℕ → Digest) where
  -- names with the digests that the function gives them
  abbrev pub entries_by : List (List ℕ) → Gathered
  entries_by [] = []
  entries_by (k ∷ ks) = (k, g k) ∷ entries_by ks

  entries_links : (ks : List (List ℕ)) → links_in (entries_by ks) ≡ linked_by g ks
  entries_links [] = refl
  entries_links (k ∷ ks) = ap (λ ls. record { name = k; digest = g k } ∷ ls) (entries_links ks)

  entries_end : (ks : List (List ℕ)) (k : List ℕ) → entries_by (ks ++ k ∷ []) ≡ entries_by ks ++ (k, g k) ∷ []
  entries_end [] k = refl
  entries_end (j ∷ ks) k = ap (λ es. (j, g j) ∷ es) (entries_end ks k)

  entries_any : (k : List ℕ) (ks : List (List ℕ)) → is_some (lookup (name_eq k) (entries_by ks)) ≡ list_any (name_eq k) ks
  entries_any k [] = refl
  entries_any k (j ∷ ks) =
      elim (name_eq k j) as (λ b. is_some (cond b (Some (g j)) (lookup (name_eq k) (entries_by ks))) ≡ (b || list_any (name_eq k) ks)) [
        | true ↦ refl
        | false ↦ entries_any k ks
      ]

  put_seen : (js : List (List ℕ)) (k : List ℕ) → put_link (entries_by js) (record { name = k; digest = g k }) ≡ entries_by (seen_also js k)
  put_seen js k = ap (λ b. cond b (entries_by js) (entries_by js ++ (k, g k) ∷ [])) (entries_any k js) ∙ on (list_any (name_eq k) js)
    where
      on : (b : Bool) → cond b (entries_by js) (entries_by js ++ (k, g k) ∷ []) ≡ entries_by (cond b js (js ++ k ∷ []))
      on true = refl
      on false = sym (entries_end js k)

  puts_seen : (js ks : List (List ℕ)) → put_links (entries_by js) (linked_by g ks) ≡ entries_by (seen_all js ks)
  puts_seen js [] = refl
  puts_seen js (k ∷ ks) = ap (λ es. put_links es (linked_by g ks)) (put_seen js k) ∙ puts_seen (seen_also js k) ks

  -- links by one function that are put one after the other are those of the names, each once
  pub put_firsts : (ks : List (List ℕ)) → links_in (put_links [] (linked_by g ks)) ≡ linked_by g (firsts ks)
  put_firsts ks = ap links_in (puts_seen [] ks) ∙ entries_links (seen_all [] ks) ∙ ap (linked_by g) (firsts_seen ks)

  pub links_join : (js ks : List (List ℕ)) → linked_by g (js ++ ks) ≡ linked_by g js ++ linked_by g ks
  links_join [] ks = refl
  links_join (j ∷ js) ks = ap (λ ls. record { name = j; digest = g j } ∷ ls) (links_join js ks)

-- 3. in the code

-- a link was put whose name wasn't there
pub put_new : {S : Type 0} (m : IndexMap (List ℕ) Digest S) (l : Link) (new : Gathered) → is_some (get name_eq m l.name) ≡ false → new ≡ insert_entry name_eq m.entries l.name l.digest → new ≡ put_link m.entries l
put_new m l new none put = put ∙ insert_entry-new name_eq m l.name l.digest (nothing (get name_eq m l.name) none) ∙ sym (ap (λ b. cond b m.entries (m.entries ++ (l.name, l.digest) ∷ [])) none)
  where
    nothing : (o : Option Digest) → is_some o ≡ false → o ≡ None
    nothing None is = refl
    nothing (Some d) is = cc

-- one link more of a list was put
pub put_more : (xs : List Link) (at : ℕ) (l : Link) (start now new : Gathered) → at < length xs → l ≡ get_or xs at l → now ≡ put_links start (take at xs) → new ≡ put_link now l → new ≡ put_links start (take (at + 1) xs)
put_more xs at l start now new within is before after =
    after ∙ ap (λ es. put_link es l) before ∙ sym (put_both start (take at xs) (l ∷ [])) ∙ ap (put_links start) (ap (λ x. take at xs ++ x ∷ []) is ∙ sym (take_more xs at l within))

module _ (r : Role) (b : Book) where
  brought_end : (before : List Finished) (ls : List Link) (l : Link) → brought_by r b before (ls ++ l ∷ []) ≡ brought_by r b before ls ++ brought r (content b l.name) (finished_of before l.name) l
  brought_end before [] l = append-nil (brought r (content b l.name) (finished_of before l.name) l)
  brought_end before (m ∷ ls) l =
      ap (λ xs. brought r (content b m.name) (finished_of before m.name) m ++ xs) (brought_end before ls l)
      ∙ sym (append_assoc (brought r (content b m.name) (finished_of before m.name) m) (brought_by r b before ls) (brought r (content b l.name) (finished_of before l.name) l))

  -- what one link more brings was put
  pub brought_more : (before : List Finished) (xs : List Link) (at : ℕ) (l : Link) (start now new : Gathered) → at < length xs → l ≡ get_or xs at l → now ≡ put_links start (brought_by r b before (take at xs)) → new ≡ put_links now (brought r (content b l.name) (finished_of before l.name) l) → new ≡ put_links start (brought_by r b before (take (at + 1) xs))
  brought_more before xs at l start now new within is so_far after =
      after
      ∙ ap (λ es. put_links es (brought r (content b l.name) (finished_of before l.name) l)) so_far
      ∙ sym (put_both start (brought_by r b before (take at xs)) (brought r (content b l.name) (finished_of before l.name) l))
      ∙ ap (put_links start) (sym (brought_end before (take at xs) l))
      ∙ ap (λ ls. put_links start (brought_by r b before ls)) (ap (λ x. take at xs ++ x ∷ []) is ∙ sym (take_more xs at l within))

  picked_end : (ls : List Link) (l : Link) → picked r b (ls ++ l ∷ []) ≡ picked r b ls ++ picks r (content b l.name) l
  picked_end [] l = append-nil (picks r (content b l.name) l)
  picked_end (m ∷ ls) l =
      ap (λ xs. picks r (content b m.name) m ++ xs) (picked_end ls l)
      ∙ sym (append_assoc (picks r (content b m.name) m) (picked r b ls) (picks r (content b l.name) l))

  -- one link more was looked at
  pub picked_more : (xs : List Link) (at : ℕ) (l : Link) (now new : List Link) → at < length xs → l ≡ get_or xs at l → now ≡ picked r b (take at xs) → new ≡ now ++ picks r (content b l.name) l → new ≡ picked r b (take (at + 1) xs)
  picked_more xs at l now new within is so_far after =
      after
      ∙ ap (λ ls. ls ++ picks r (content b l.name) l) so_far
      ∙ sym (picked_end (take at xs) l)
      ∙ ap (picked r b) (ap (λ x. take at xs ++ x ∷ []) is ∙ sym (take_more xs at l within))
