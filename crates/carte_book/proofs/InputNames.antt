-- The names of inputs, among those that are listed.
use Rattle.std.proofs.Common.{◌≡◌, ℕ, zero, suc, slice_get, ◌+◌, true, false, not, cond, Bool, ◌||◌, IsTrue, List, [], ◌∷◌, ◌++◌, length, nat_lt, is_err, Option, Some, None, is_some, arith, option_map, if◌then◌else◌, Result, Ok, Err, OnOk, OnErr, refl, ap, sym, ◌∙◌, subst}
use Rattle.std.specs.HashMap as hash
use Rattle.indexmap.specs.IndexMap.{insert_entry}
use Rattle.std.specs.FinMap.{get}
use Rattle.std.specs.List.{list_any}
use Rattle.std.specs.Map.{lookup}
use Rattle.std.specs.Cmp.Lexicographic.{bytes_decides}
use Rattle.carte_name.specs.Names.{name_eq}
use Rattle.carte_value.specs.Firsts.{seen_also}
use Rattle.carte_value.specs.Numbers.{number_of}
use Rattle.carte_value.proofs.Numbered.{numbered_there as place_of}
use Rattle.carte_book.specs.declared.book.Book.{Book as CodeBook}
use Rattle.carte_book.specs.declared.book.Item.{Item as CodeItem}
use Rattle.carte_book.specs.Book.{Item, input, rule, content, default_of, or_default, item_view, entries_view, book_view}
use Rattle.carte_book.specs.Edits.{IsInput}
use Rattle.carte_book.specs.Inputs.{AreListed, HasAll, IsListed, has_name, is_input}
use Rattle.carte_book.proofs.Books.{Map, item_found}
use Rattle.carte_book.proofs.Fitting.{Entries}

-- ---- numbers and lists

below : (x n : ℕ) → is_some (cond (nat_lt x n) (Some x) None) ≡ true → nat_lt x n ≡ true
below x n is = on (nat_lt x n) is
  where
    on : (t : Bool) → is_some (cond t (Some x) None) ≡ true → t ≡ true
    on true is = refl
    on false is = cc

further : (x n : ℕ) → nat_lt x n ≡ true → nat_lt (1 + x) (suc n) ≡ true
further x n is = grind arith

one : (t : Bool) (x n : ℕ) → (t ≡ false → is_some (cond (nat_lt x n) (Some x) None) ≡ true) → is_some (cond (nat_lt (cond (not t) (1 + x) 0) (suc n)) (Some (cond (not t) (1 + x) 0)) None) ≡ true
one true x n rest = ap (λ t. is_some {T = ℕ} (cond t (Some 0) None)) (first n)
  where
    first : (n : ℕ) → nat_lt 0 (suc n) ≡ true
    first n = grind arith
one false x n rest = ap (λ t. is_some {T = ℕ} (cond t (Some (1 + x)) None)) (further x n (below x n (rest refl)))

-- those that are there have numbers
numbered : (ks : List (List ℕ)) (k : List ℕ) → list_any (name_eq k) ks ≡ true → is_some (number_of ks k) ≡ true
numbered [] k nowhere = cc
numbered (j ∷ js) k there = one (name_eq k j) _ (length js) (λ other. numbered js k (ap (λ b. b || list_any (name_eq k) js) (sym other) ∙ there))

pub unnumbered : (ks : List (List ℕ)) (k : List ℕ) → is_some (number_of ks k) ≡ false → has_name ks k ≡ false
unnumbered ks k none = on (has_name ks k) refl
  where
    on : (t : Bool) → has_name ks k ≡ t → t ≡ false
    on true is = let e : true ≡ false = sym (numbered ks k is) ∙ none in cc
    on false is = refl

any_there : (ks : List (List ℕ)) (k : List ℕ) (at : ℕ) → slice_get ks at ≡ Some k → has_name ks k ≡ true
any_there [] k at is = cc
any_there (j ∷ ks) k zero is = let same : name_eq k j ≡ true = (bytes_decides k j).1 (cc) in ap (λ b. b || has_name ks k) same
any_there (j ∷ ks) k (suc at) is = elim (name_eq k j) as (λ b. (b || has_name ks k) ≡ true) [
  | true ↦ refl
  | false ↦ any_there ks k at is
]

pub numbered_there : (ks : List (List ℕ)) (k : List ℕ) → is_some (number_of ks k) ≡ true → has_name ks k ≡ true
numbered_there ks k some = there (number_of ks k) refl
  where
    there : (o : Option ℕ) → number_of ks k ≡ o → has_name ks k ≡ true
    there None is = let e : true ≡ false = sym some ∙ ap is_some is in cc
    there (Some at) is = any_there ks k at (place_of ks k at is)

any_front : (ks : List (List ℕ)) (j k : List ℕ) → has_name ks j ≡ true → has_name (ks ++ k ∷ []) j ≡ true
any_front [] j k is = cc
any_front (i ∷ is) j k there = elim (name_eq j i) as (λ b. (b || has_name is j) ≡ true → (b || has_name (is ++ k ∷ []) j) ≡ true) [
  | true ↦ λ first. refl
  | false ↦ λ later. any_front is j k later
] there

any_last : (ks : List (List ℕ)) (k : List ℕ) → has_name (ks ++ k ∷ []) k ≡ true
any_last [] k = ap (λ b. b || false) ((bytes_decides k k).1 refl)
any_last (i ∷ is) k = elim (name_eq k i) as (λ b. (b || has_name (is ++ k ∷ []) k) ≡ true) [
  | true ↦ refl
  | false ↦ any_last is k
]

-- a name that was given a number is there
pub given_there : (ks : List (List ℕ)) (k : List ℕ) → has_name (seen_also ks k) k ≡ true
given_there ks k = elim (has_name ks k) as (λ b. has_name ks k ≡ b → has_name (cond b ks (ks ++ k ∷ [])) k ≡ true) [
  | true ↦ λ is. is
  | false ↦ λ is. any_last ks k
] refl

-- and so are those from before
pub given_more : (ks : List (List ℕ)) (k : List ℕ) → HasAll (seen_also ks k) ks
given_more ks k j there = elim (has_name ks k) as (λ b. has_name (cond b ks (ks ++ k ∷ [])) j ≡ true) [
  | true ↦ there
  | false ↦ any_front ks j k there
]

pub same_all : (ms ns : List (List ℕ)) → ms ≡ ns → HasAll ms ns
same_all ms ns same j there = ap (λ ks. has_name ks j) same ∙ there

-- ---- what is listed

pub ok_of : {A B : Type 0} (P : Type 0) (r : Result A B) → is_err r ≡ false → OnOk r P → P
ok_of P (Ok a) told is = is
ok_of P (Err e) told is = cc

pub err_of : {A B : Type 0} (P : Type 0) (r : Result A B) → is_err r ≡ true → OnErr r P → P
err_of P (Ok a) told is = cc
err_of P (Err e) told is = is

pub more_listed_at : (ns ms : List (List ℕ)) (k : List ℕ) (x : Item) → HasAll ms ns → IsListed ns k x → IsListed ms k x
more_listed_at ns ms k (input v) all is = all k is
more_listed_at ns ms k (rule e) all is = tt

-- they stay listed among more names
pub more_listed : (ns ms : List (List ℕ)) (es : List (List ℕ × Item)) → HasAll ms ns → AreListed ns es → AreListed ms es
more_listed ns ms [] all are = tt
more_listed ns ms (e ∷ es) all are = (more_listed_at ns ms e.0 e.1 all are.0, more_listed ns ms es all are.1)

listed_one_more : (ns : List (List ℕ)) (es : Entries) (k : List ℕ) (x : CodeItem) → IsListed ns k (item_view x) → AreListed ns (entries_view es) → AreListed ns (entries_view (insert_entry name_eq es k x))
listed_one_more ns [] k x is are = (is, tt)
listed_one_more ns (e ∷ es) k x is are = elim (name_eq k e.0) as (λ b. name_eq k e.0 ≡ b → AreListed ns (entries_view (if b then (e.0, x) ∷ es else e ∷ insert_entry name_eq es k x))) [
  | true ↦ λ tied. (subst (λ j. IsListed ns j (item_view x)) ((bytes_decides k e.0).0 tied) is, are.1)
  | false ↦ λ apart. (are.0, listed_one_more ns es k x is are.1)
] refl

-- what was put is listed, and what couldn't be put changed nothing
pub listed_put : {A B S : Type 0} (ns ms : List (List ℕ)) (m n : Map S) (k : List ℕ) (x : CodeItem) (r : Result A B) → HasAll ms ns → IsListed ms k (item_view x)
    → OnOk r (n.entries ≡ insert_entry name_eq m.entries k x) → OnErr r (n.entries ≡ m.entries) → AreListed ns (entries_view m.entries) → AreListed ms (entries_view n.entries)
listed_put ns ms m n k x (Ok a) all is put kept are = subst (λ es. AreListed ms (entries_view es)) (sym put) (listed_one_more ms m.entries k x is (more_listed ns ms (entries_view m.entries) all are))
listed_put ns ms m n k x (Err e) all is put kept are = subst (λ es. AreListed ms (entries_view es)) (sym kept) (more_listed ns ms (entries_view m.entries) all are)

-- what is found is listed
listed_found : (ns : List (List ℕ)) (es : Entries) (k : List ℕ) (x : CodeItem) → AreListed ns (entries_view es) → lookup (name_eq k) es ≡ Some x → IsListed ns k (item_view x)
listed_found ns [] k x are found = cc
listed_found ns (e ∷ es) k x are found = elim (name_eq k e.0) as (λ b. name_eq k e.0 ≡ b → cond b (Some e.1) (lookup (name_eq k) es) ≡ Some x → IsListed ns k (item_view x)) [
  | true ↦ λ tied here. let same : k ≡ e.0 = (bytes_decides k e.0).0 tied in let is : e.1 ≡ x = cc in rw same (rw is at are.0)
  | false ↦ λ apart later. listed_found ns es k x are.1 later
] refl found

-- a name of a rule file that isn't listed is no input
pub unlisted : (b : CodeBook) (k : List ℕ) → default_of b.kind k ≡ None → has_name b.inputs k ≡ false → is_input (content (book_view b) k) ≡ false
unlisted b k none lacks = ap (λ o. is_input (or_default o (default_of b.kind k))) (item_found b k) ∙ (ap (λ d. is_input (or_default (option_map item_view (hash.get name_eq b.items k)) d)) none ∙ on (hash.get name_eq b.items k) refl)
  where
    at : (x : Item) → IsListed b.inputs k x → is_input (Some x) ≡ false
    at (input v) is = let e : true ≡ false = sym is ∙ lacks in cc
    at (rule f) is = refl

    on : (o : Option CodeItem) → hash.get name_eq b.items k ≡ o → is_input (or_default (option_map item_view o) None) ≡ false
    on None is = refl
    on (Some x) is = at (item_view x) (listed_found b.inputs b.items.entries k x b.listed is)

-- an input that the book holds is listed
pub unlisted_absent : (b : CodeBook) (k : List ℕ) → IsInput (book_view b) k → has_name b.inputs k ≡ false → get (book_view b).items k ≡ None
unlisted_absent b k is lacks = item_found b k ∙ on (hash.get name_eq b.items k) refl
  where
    at : (x : Item) → x ≡ input is.0 → IsListed b.inputs k x → ⊥
    at (input v) same listed = let e : true ≡ false = sym listed ∙ lacks in cc
    at (rule f) same listed = cc

    on : (o : Option CodeItem) → hash.get name_eq b.items k ≡ o → option_map item_view o ≡ None
    on None found = refl
    on (Some x) found =
        let held : content (book_view b) k ≡ Some (item_view x) = ap (λ o. or_default o (default_of b.kind k)) (item_found b k ∙ ap (option_map item_view) found) in
        let same : item_view x ≡ input is.0 = let e : Some (item_view x) ≡ Some (input is.0) = sym held ∙ is.1 in cc in
        absurd (at (item_view x) same (listed_found b.inputs b.items.entries k x b.listed found))
