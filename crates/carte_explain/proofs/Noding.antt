-- The names that may stand on a path.
use Rattle.std.proofs.Common.{◌≡◌, ℕ, ◌+◌, ◌<◌, Bool, true, false, cond, List, [], ◌∷◌, ◌++◌, Option, Some, None, map, take, get_or, length, refl, ap, sym, ◌∙◌, subst, inl, inr}
use Rattle.std.specs.Prelude.{find}
use Rattle.std.specs.BTreeSet.{BTreeSet, contains}
use Rattle.std.specs.Ordering.{eq_by_cmp}
use Rattle.std.proofs.lemmas.List.{map-append, take_more}
use Rattle.carte_value.specs.declared.digest.Digest.{Digest}
use Rattle.carte_value.specs.declared.link.Link.{Link}
use Rattle.carte_name.specs.Names.{name_cmp, name_eq}
use Rattle.carte_value.specs.Truths.{Among}
use Rattle.carte_value.proofs.Members.{among_append}
use Rattle.carte_book.specs.Book.{Book}
use Rattle.carte_record.specs.declared.entry.Entry.{Entry}
use Rattle.carte_record.specs.declared.kept.Kept.{Kept}
use Rattle.carte_record.specs.Kept.{kept_view}
use Rattle.carte_table.specs.Lookups.{digest_in, first_link, is_link_of}
use Rattle.carte_record.specs.Lookups.{first_entry, is_entry_of}
use Rattle.carte_table.proofs.Names.{name_eq_is}
use Rattle.carte_mark.specs.Marking.{PutsIf}
use Rattle.carte_search.specs.Search.{HasNodes, IsNode}
use Rattle.carte_sound.specs.Marks as marks
use Rattle.carte_sound.specs.Marks.{IsChanged}
use Rattle.carte_explain.specs.Nodes.{AddsAll, AreNodes, keys_in, names_in}
use Rattle.carte_explain.specs.Paths.{needs_at, needs_in}

or_true : (t : Bool) → cond t true true ≡ true
or_true true = refl
or_true false = refl

-- one more name
adds_one : (old mid new : BTreeSet (List ℕ)) (ks : List (List ℕ)) (k : List ℕ) → eq_by_cmp name_cmp k k ≡ true → AddsAll old mid ks → PutsIf true mid new k → AddsAll old new (ks ++ k ∷ [])
adds_one old mid new ks k self adds puts = record {
  stays = λ q there. still q (adds.stays q there);
  there = λ q among. elim (among_append ks (k ∷ []) q among) [
    | inl before ↦ still q (adds.there q before)
    | inr here ↦ elim here [
      | inl same ↦ puts q ∙ ap (λ j. cond (eq_by_cmp name_cmp k j) true (contains name_cmp mid q)) same ∙ ap (λ t. cond t true (contains name_cmp mid q)) self
      | inr nowhere ↦ absurd nowhere
    ]
  ];
}
  where
    still : (q : List ℕ) → contains name_cmp mid q ≡ true → contains name_cmp new q ≡ true
    still q there = puts q ∙ ap (cond (eq_by_cmp name_cmp k q) true) there ∙ or_true (eq_by_cmp name_cmp k q)

pub adds_none : (s : BTreeSet (List ℕ)) → AddsAll s s []
adds_none s = record { stays = λ q there. there; there = λ q nowhere. absurd nowhere }

-- of the items so far, and of one more
pub adds_next : {A : Type 0} (name : A → List ℕ) (old mid new : BTreeSet (List ℕ)) (xs : List A) (i : ℕ) (x : A) → eq_by_cmp name_cmp (name x) (name x) ≡ true → i < length xs → x ≡ get_or xs i x
    → AddsAll old mid (map name (take i xs)) → PutsIf true mid new (name x) → AddsAll old new (map name (take (i + 1) xs))
adds_next name old mid new xs i x self below is adds puts =
    subst (AddsAll old new) (sym (ap (map name) (take_more xs i x below ∙ ap (λ y. take i xs ++ y ∷ []) (sym is)) ∙ map-append name (take i xs) (x ∷ [])))
    (adds_one old mid new (map name (take i xs)) (name x) self adds puts)

-- a key with an entry, and a name that was seen
entry_key : (es : List Entry) (k : List ℕ) (e : Entry) → first_entry es k ≡ Some e → Among (keys_in es) k
entry_key [] k e is = cc
entry_key (x ∷ es) k e is = on (name_eq k x.key) refl is (entry_key es k e)
  where
    on : (t : Bool) → name_eq k x.key ≡ t → cond t (Some x) (find (is_entry_of k) es) ≡ Some e → (first_entry es k ≡ Some e → Among (keys_in es) k) → Among (keys_in (x ∷ es)) k
    on true same is rest = inl (name_eq_is k x.key same)
    on false apart is rest = inr (rest is)

seen_name : (ls : List Link) (k : List ℕ) (d : Digest) → first_link ls k ≡ Some d → Among (names_in ls) k
seen_name [] k d is = cc
seen_name (l ∷ ls) k d is = on (name_eq k l.name) refl is (seen_name ls k d)
  where
    on : (t : Bool) → name_eq k l.name ≡ t → digest_in (cond t (Some l) (find (is_link_of k) ls)) ≡ Some d → (first_link ls k ≡ Some d → Among (names_in ls) k) → Among (names_in (l ∷ ls)) k
    on true same is rest = inl (name_eq_is k l.name same)
    on false apart is rest = inr (rest is)

pub has_nodes : (K : Kept) (b : Book) (nodes : BTreeSet (List ℕ)) → AreNodes K.entries K.seen nodes → HasNodes (needs_at (kept_view K)) (IsChanged (kept_view K) b) nodes
has_nodes K b nodes are = record {
  goals = λ k changed. goal k changed;
  inner = λ k j among. are.keys k (needing k j (first_entry K.entries k) refl among);
}
  where
    goal : (k : List ℕ) → IsChanged (kept_view K) b k → IsNode nodes k
    goal k (marks.IsChanged.seen d seen differs) = are.seen k (seen_name K.seen k d seen)
    goal k (marks.IsChanged.task e kept differs) = are.keys k (entry_key K.entries k e kept)

    needing : (k j : List ℕ) (o : Option Entry) → first_entry K.entries k ≡ o → Among (needs_in o) j → Among (keys_in K.entries) k
    needing k j None is among = absurd among
    needing k j (Some e) is among = entry_key K.entries k e is
