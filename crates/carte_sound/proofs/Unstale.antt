-- The entry of a finished key isn't stale, so its mark need not be carried.
use Rattle.std.proofs.Common.{◌≡◌, ◌⊎◌, ℕ, Bool, true, false, not, ◌&&◌, ◌||◌, cond, List, [], ◌∷◌, filter, Option, Some, None, option_map, refl, ap, sym, ◌∙◌, inl, inr}
use Rattle.carte_name.specs.Names.{name_eq}
use Rattle.carte_value.specs.Truths.{Among}
use Rattle.carte_book.specs.Book.{Book}
use Rattle.carte_record.specs.declared.entry.Entry.{Entry}
use Rattle.carte_record.specs.declared.way.Way.TheVariants.{Verifying, Constructive, Deep}
use Rattle.carte_record.specs.Folds.{is_among}
use Rattle.carte_record.specs.Kept.{SomeKept, is_fresh, staled}
use Rattle.carte_sound.specs.True.{shallow_entry}
use Rattle.carte_sound.specs.Held.{How, dirty, tracing}
use Rattle.carte_sound.specs.Left.{fresh_or, entry_left, Finishes, keys_of, add, add_all}
use Rattle.std.specs.Option.{option_or}
use Rattle.carte_sound.proofs.Tests.{name_self, apart_name, eq_or_apart, put_there, put_cases, fresh_parts}
use Rattle.carte_sound.proofs.LeftSound.{finished_before}

-- an entry of the key, if there is one, isn't stale
abbrev pub IsUnstale : SomeKept → List ℕ → Type 0
IsUnstale L j = (e : Entry) → L.entries j ≡ Some e → e.stale ≡ false

left_unstale : (h : How) (b : Book) (L : SomeKept) (k : List ℕ) → (entry_left h L b k).stale ≡ false
left_unstale dirty b L k = refl
left_unstale (tracing Verifying) b L k = refl
left_unstale (tracing Constructive) b L k = refl
left_unstale (tracing Deep) b L k = on_entry (L.entries k)
  where
    on_fresh : (e : Entry) (t : Bool) → is_fresh e ≡ t → (cond t e (shallow_entry b k)).stale ≡ false
    on_fresh e true is = (fresh_parts e is).0
    on_fresh e false is = refl

    on_entry : (o : Option Entry) → (fresh_or o (shallow_entry b k)).stale ≡ false
    on_entry None = refl
    on_entry (Some e) = on_fresh e (is_fresh e) refl

unstale_add : (h : How) (b : Book) (L : SomeKept) (k : List ℕ) (ran : Bool) (j : List ℕ) → (j ≡ k) ⊎ IsUnstale L j → IsUnstale (add h b L k ran) j
unstale_add h b L k ran j known e is = elim (put_cases L.entries k (entry_left h L b k) j e is) [
  | inl new ↦ ap (λ (x : Entry). x.stale) (sym new.1) ∙ left_unstale h b L k
  | inr before ↦ elim known [
    | inl same ↦ absurd (let t : name_eq j k ≡ true = ap (λ x. name_eq x k) same ∙ name_self k in let f : name_eq j k ≡ false = before.0 in cc)
    | inr unstale ↦ unstale e before.1
  ]
]

pub unstale_all : (h : How) (b : Book) (fs : Finishes) (L : SomeKept) (before : List (List ℕ)) → ((j : List ℕ) → Among before j → IsUnstale L j) → (j : List ℕ) → Among (finished_before fs before) j → IsUnstale (add_all h b L fs) j
unstale_all h b [] L before unstale j among = unstale j among
unstale_all h b (f ∷ fs) L before unstale j among = unstale_all h b fs (add h b L f.0 f.1) (f.0 ∷ before) (λ i here. elim here [
  | inl same ↦ unstale_add h b L f.0 f.1 i (inl same)
  | inr later ↦ unstale_add h b L f.0 f.1 i (inr (unstale i later))
]) j among

and_false : (x : Bool) → (x && false) ≡ false
and_false true = refl
and_false false = refl

-- what a filter lets stand
pub among_filtered : (p : List ℕ → Bool) (ms : List (List ℕ)) (q : List ℕ) → is_among (filter p ms) q ≡ (is_among ms q && p q)
among_filtered p [] q = refl
among_filtered p (m ∷ ms) q = elim (eq_or_apart m q) [
  | inl same ↦ here (p m) refl same (among_filtered p ms q)
  | inr apart ↦ there (p m) apart (among_filtered p ms q)
]
  where
    here : (x : Bool) → p m ≡ x → m ≡ q → is_among (filter p ms) q ≡ (is_among ms q && p q) → is_among (cond x (m ∷ filter p ms) (filter p ms)) q ≡ ((name_eq m q || is_among ms q) && p q)
    here true is same later =
        let t : name_eq m q ≡ true = ap (λ x. name_eq x q) same ∙ name_self q in
        let passes : p q ≡ true = ap p (sym same) ∙ is in
        rw (t, passes) refl
    here false is same later =
        let fails : p q ≡ false = ap p (sym same) ∙ is in
        later ∙ ap (λ x. is_among ms q && x) fails ∙ and_false (is_among ms q) ∙ sym (and_false (name_eq m q || is_among ms q)) ∙ ap (λ x. (name_eq m q || is_among ms q) && x) (sym fails)

    there : (x : Bool) → name_eq m q ≡ false → is_among (filter p ms) q ≡ (is_among ms q && p q) → is_among (cond x (m ∷ filter p ms) (filter p ms)) q ≡ ((name_eq m q || is_among ms q) && p q)
    there true apart later = rw apart later
    there false apart later = rw apart later

-- a key that isn't finished keeps its entry
pub unfinished_entry : (h : How) (b : Book) (fs : Finishes) (L : SomeKept) (q : List ℕ) → is_among (keys_of fs) q ≡ false → (add_all h b L fs).entries q ≡ L.entries q
unfinished_entry h b [] L q none = refl
unfinished_entry h b (f ∷ fs) L q none =
    let parts = both_false (name_eq f.0 q) (is_among (keys_of fs) q) none in
    unfinished_entry h b fs (add h b L f.0 f.1) q parts.1
    ∙ put_there L.entries f.0 (entry_left h L b f.0) q (apart_name q f.0 (λ same. let t : name_eq f.0 q ≡ true = ap (name_eq f.0) same ∙ name_self f.0 in let e : name_eq f.0 q ≡ false = parts.0 in cc))
  where
    both_false : (x y : Bool) → (x || y) ≡ false → (x ≡ false) × (y ≡ false)
    both_false true y is = cc
    both_false false y is = (refl, is)

-- Of one key: g says that it is dropped, m that it is marked and k that it is finished. An entry that the batch brings has no mark of the batch, and where
-- it brings none, the mark is carried or there is no entry that could be marked.
pub mark_carried : (g m k : Bool) (brought o left : Option Entry) → (k ≡ true → (e : Entry) → left ≡ Some e → e.stale ≡ false) → (k ≡ false → left ≡ cond g None (option_map (staled m) o)) → ((e : Entry) → brought ≡ Some e → ¬ (cond g None (option_map (staled m) o) ≡ Some e))
    → left ≡ option_or brought (cond g None (option_map (staled m) o)) → option_map (staled (m && (not g && not k))) (option_or brought (cond g None o)) ≡ left
mark_carried g false k (Some e) o left unstale keeps differs is = sym is
mark_carried true true k (Some e) o left unstale keeps differs is = sym is
mark_carried false true true (Some e) o left unstale keeps differs is = sym is
mark_carried false true false (Some e) o left unstale keeps differs is = absurd (differs e refl (sym (keeps refl) ∙ is))
mark_carried true false k None o left unstale keeps differs is = sym is
mark_carried true true k None o left unstale keeps differs is = sym is
mark_carried false false k None o left unstale keeps differs is = sym is
mark_carried false true false None o left unstale keeps differs is = sym is
mark_carried false true true None None left unstale keeps differs is = sym is
mark_carried false true true None (Some e) left unstale keeps differs is = let fresh : true ≡ false = unstale refl (staled true e) is in cc
