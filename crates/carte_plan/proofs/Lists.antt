-- Lists of finished keys, and the marks that they leave.
use Rattle.std.proofs.Common.{◌≡◌, ℕ, Bool, true, false, not, ◌||◌, ◌&&◌, cond, List, [], ◌∷◌, ◌++◌, Option, Some, None, is_none, length, filter, find, refl, ap, sym, ◌∙◌, subst, inl, inr}
use Rattle.std.specs.Prelude.{◌==◌, ◌↔◌}
use Rattle.std.proofs.Math.Dec.{eqb-suc-zero}
use Rattle.std.proofs.lemmas.List.Elements.{filter-append}
use Rattle.carte_name.specs.Names.{name_eq}
use Rattle.carte_value.specs.Truths.{Among, NoneTwice}
use Rattle.carte_value.proofs.Members.{among_right, among_left}
use Rattle.carte_book.specs.Book.{Book}
use Rattle.carte_record.specs.declared.batch.Batch.{Batch}
use Rattle.carte_record.specs.declared.start.Start.{Start}
use Rattle.carte_record.specs.declared.start.Start.TheVariants.{GoOn, Cleared}
use Rattle.carte_record.specs.Empty.{goes_on, is_empty, brings_no_key, brings_no_trace}
use Rattle.carte_record.specs.Folds.{is_among}
use Rattle.carte_record.specs.Kept.{SomeKept}
use Rattle.carte_table.proofs.Names.{name_eq_sym}
use Rattle.carte_sound.specs.Held.{How}
use Rattle.carte_sound.specs.LeadsTo.{empty_batch, marks_left}
use Rattle.carte_sound.specs.Left.{Finishes, keys_of, add, add_all, entry_left}
use Rattle.carte_sound.proofs.Tests.{among_tested, not_among, put_there, apart_name}
use Rattle.carte_note.specs.declared.finished.Finished.{Finished}
use Rattle.carte_note.specs.Lists.{finished_of, is_of_key}
use Rattle.carte_note.specs.Right.{AreRight, IsRightFinished, finishes_of, has_run, key_of, keys_in}

-- a list that grows at its end
pub finishes_end : (fs : List Finished) (f : Finished) → finishes_of (fs ++ f ∷ []) ≡ finishes_of fs ++ (key_of f, has_run f.made) ∷ []
finishes_end [] f = refl
finishes_end (g ∷ gs) f = ap (λ xs. (key_of g, has_run g.made) ∷ xs) (finishes_end gs f)

pub keys_end : (fs : List Finished) (f : Finished) → keys_in (fs ++ f ∷ []) ≡ keys_in fs ++ key_of f ∷ []
keys_end [] f = refl
keys_end (g ∷ gs) f = ap (λ ks. key_of g ∷ ks) (keys_end gs f)

pub keys_same : (fs : List Finished) → keys_of (finishes_of fs) ≡ keys_in fs
keys_same [] = refl
keys_same (f ∷ fs) = ap (λ ks. key_of f ∷ ks) (keys_same fs)

pub right_front : (h : How) (M : SomeKept) (b : Book) (fs : List Finished) (f : Finished) → AreRight h M b (fs ++ f ∷ []) → AreRight h M b fs × IsRightFinished h M b (key_of f) f
right_front h M b [] f right = (tt, right.0)
right_front h M b (g ∷ gs) f right = let rest = right_front h M b gs f right.1 in ((right.0, rest.0), rest.1)

once_parts : (ks : List (List ℕ)) (k : List ℕ) → NoneTwice (ks ++ k ∷ []) → NoneTwice ks × ¬ (Among ks k)
once_parts [] k once = (tt, (λ h. h))
once_parts (j ∷ js) k once =
    let rest = once_parts js k once.1 in (
      ((λ among. once.0 (among_left js (k ∷ []) j among)), rest.0),
      (λ among. elim among [
        | inl same ↦ once.0 (among_right js (k ∷ []) j (inl (sym same)))
        | inr later ↦ rest.1 later
      ]),
    )

pub once_front : (fs : List Finished) (f : Finished) → NoneTwice (keys_in (fs ++ f ∷ [])) → NoneTwice (keys_in fs) × ¬ (Among (keys_in fs) (key_of f))
once_front fs f once = once_parts (keys_in fs) (key_of f) (subst NoneTwice (keys_end fs f) once)

-- the entry of a key that isn't finished stays
pub others_stay : (h : How) (b : Book) (M : SomeKept) (fs : Finishes) (k : List ℕ) → ¬ (Among (keys_of fs) k) → (add_all h b M fs).entries k ≡ M.entries k
others_stay h b M [] k apart = refl
others_stay h b M (f ∷ fs) k apart = others_stay h b (add h b M f.0 f.1) fs k (λ later. apart (inr later)) ∙ put_there M.entries f.0 (entry_left h M b f.0) k (apart_name k f.0 (λ same. apart (inl same)))

-- a key is found where it is among them
pub found_among : (fs : List Finished) (k : List ℕ) → is_none (finished_of fs k) ≡ not (is_among (keys_of (finishes_of fs)) k)
found_among [] k = refl
found_among (f ∷ fs) k = ap (λ t. is_none (cond t (Some f) (find (is_of_key k) fs))) (name_eq_sym k (key_of f)) ∙ on (name_eq (key_of f) k) (found_among fs k)
  where
    on : (t : Bool) → is_none (find (is_of_key k) fs) ≡ not (is_among (keys_of (finishes_of fs)) k) → is_none (cond t (Some f) (find (is_of_key k) fs)) ≡ not (t || is_among (keys_of (finishes_of fs)) k)
    on true is = refl
    on false is = is

-- a test by a set of names is one by its list
pub test_is : (t : Bool) (ks : List (List ℕ)) (k : List ℕ) → ((t ≡ true) ↔ Among ks k) → t ≡ is_among ks k
test_is true ks k holds = sym (among_tested ks k (holds.0 refl))
test_is false ks k holds = sym (not_among ks k (λ among. let e : false ≡ true = holds.1 among in cc))

-- the marks of one key more
pub left_more : (fs : List Finished) (gs ms left : List (List ℕ)) (m : List ℕ) (t : Bool) → t ≡ (not (is_among gs m) && is_none (finished_of fs m)) → left ≡ marks_left (finishes_of fs) (record { marks = ms; gone = gs })
    → cond t (left ++ m ∷ []) left ≡ marks_left (finishes_of fs) (record { marks = ms ++ m ∷ []; gone = gs })
left_more fs gs ms left m t is so = on t (is ∙ ap (λ u. not (is_among gs m) && u) (found_among fs m)) ∙ sym (filter-append test ms (m ∷ []))
  where
    test : List ℕ → Bool
    test k = not (is_among gs k) && not (is_among (keys_of (finishes_of fs)) k)

    nil_end : (xs : List (List ℕ)) → xs ++ [] ≡ xs
    nil_end [] = refl
    nil_end (x ∷ xs) = ap (λ ys. x ∷ ys) (nil_end xs)

    on : (u : Bool) → u ≡ test m → cond u (left ++ m ∷ []) left ≡ filter test ms ++ filter test (m ∷ [])
    on true passes = ap (λ xs. xs ++ m ∷ []) so ∙ ap (λ u. filter test ms ++ cond u (m ∷ []) []) passes
    on false fails = so ∙ (sym (nil_end (filter test ms)) ∙ ap (λ u. filter test ms ++ cond u (m ∷ []) []) fails)

-- a batch with nothing in it is the empty one

pub no_items : {A : Type 0} (xs : List A) → (length xs == 0) ≡ true → xs ≡ []
no_items [] is = refl
no_items (x ∷ xs) is = let e : true ≡ false = sym is ∙ eqb-suc-zero (length xs) in cc

no_chain : (o : Option (List (List ℕ))) → is_none o ≡ true → o ≡ None
no_chain None is = refl
no_chain (Some ks) is = cc

on_start : (s : Start) → goes_on s ≡ true → s ≡ GoOn
on_start GoOn is = refl
on_start Cleared is = cc

pub both : (a c : Bool) → (a && c) ≡ true → (a ≡ true) × (c ≡ true)
both true c is = (refl, is)
both false c is = cc

pub empty_is : (B : Batch) → is_empty B ≡ true → B ≡ empty_batch
empty_is B is =
    let halves = both ((goes_on B.start && is_none B.chain) && brings_no_key B) (brings_no_trace B) is in
    let front = both (goes_on B.start && is_none B.chain) (brings_no_key B) halves.0 in
    let first = both (goes_on B.start) (is_none B.chain) front.0 in
    let keys = both ((length B.values == 0 && length B.gone == 0) && length B.seen == 0) (length B.entries == 0 && length B.stale == 0) front.1 in
    let firsts = both (length B.values == 0 && length B.gone == 0) (length B.seen == 0) keys.0 in
    let values = both (length B.values == 0) (length B.gone == 0) firsts.0 in
    let entries = both (length B.entries == 0) (length B.stale == 0) keys.1 in
    let traces = both (length B.verifying == 0 && length B.constructive == 0) (length B.deep == 0) halves.1 in
    let others = both (length B.verifying == 0) (length B.constructive == 0) traces.0 in
    join (on_start B.start first.0) (no_items B.values values.0) (no_items B.gone values.1) (no_items B.seen firsts.1) (no_items B.entries entries.0) (no_items B.stale entries.1) (no_items B.verifying others.0) (no_items B.constructive others.1) (no_items B.deep traces.1) (no_chain B.chain first.1)
  where
    join : B.start ≡ GoOn → B.values ≡ [] → B.gone ≡ [] → B.seen ≡ [] → B.entries ≡ [] → B.stale ≡ [] → B.verifying ≡ [] → B.constructive ≡ [] → B.deep ≡ [] → B.chain ≡ None → B ≡ empty_batch
    join start values gone seen entries stale verifying constructive deep chain i = record { start = start i; values = values i; gone = gone i; seen = seen i; entries = entries i; stale = stale i; verifying = verifying i; constructive = constructive i; deep = deep i; chain = chain i }
