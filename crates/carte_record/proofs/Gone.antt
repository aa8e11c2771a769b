-- What is kept without some names.
use Rattle.std.proofs.Common.{◌≡◌, ℕ, Bool, true, false, cond, List, [], ◌∷◌, Option, Some, None, refl, ap, sym, ◌∙◌}
use Rattle.std.specs.Prelude.{filter, find, is_some, not, option_map, ◌||◌, if◌then◌else◌}
use Rattle.carte_name.specs.Names.{name_eq}
use Rattle.carte_record.specs.declared.batch.Batch.{Batch}
use Rattle.carte_record.specs.declared.kept.Kept.{Kept}
use Rattle.carte_record.specs.declared.way.Way.{Way}
use Rattle.carte_record.specs.declared.way.Way.TheVariants.{Verifying, Constructive, Deep}
use Rattle.carte_table.specs.Changes.{is_of_none}
use Rattle.carte_table.specs.Lookups.{first_link, first_value, is_link_of}
use Rattle.carte_record.specs.Lookups.{first_entry}
use Rattle.carte_record.specs.Ways.{key_by, eq_by}
use Rattle.carte_record.specs.Kept.{SomeKept, kept_traces, kept_view, newest, newest_in, nothing_kept, traces_in}
use Rattle.carte_record.specs.Folds.{carried, is_among, without}
use Rattle.carte_record.specs.Growth.{put_in}
use Rattle.carte_table.proofs.Names.{name_eq_is, name_eq_sym}
use Rattle.carte_record.proofs.Growing.{kept_same}

among_found : (ks : List (List ℕ)) (k : List ℕ) → is_some (find (name_eq k) ks) ≡ is_among ks k
among_found [] k = refl
among_found (j ∷ js) k = rw (name_eq_sym j k) (on (name_eq k j) (among_found js k))
  where
    on : (b : Bool) → is_some (find (name_eq k) js) ≡ is_among js k → is_some (cond b (Some j) (find (name_eq k) js)) ≡ (b || is_among js k)
    on true is = refl
    on false is = is

either : {A : Type 0} (x : A) (g : Bool) → (if g then x else x) ≡ x
either x true = refl
either x false = refl

module _ {A : Type 0} (key : A → List ℕ) (ks : List (List ℕ)) where
  keeps : (k : List ℕ) (x : A) → name_eq k (key x) ≡ true → is_of_none key ks x ≡ not (is_among ks k)
  keeps k x is = ap (λ j. not (is_some (find (name_eq j) ks))) (sym (name_eq_is k (key x) is)) ∙ ap not (among_found ks k)

  pub found_left : (k : List ℕ) (xs : List A) → find (λ x. name_eq k (key x)) (filter (is_of_none key ks) xs) ≡ (if is_among ks k then None else find (λ x. name_eq k (key x)) xs)
  found_left k [] = sym (either None (is_among ks k))
  found_left k (x ∷ xs) = on (name_eq k (key x)) refl (is_of_none key ks x) refl (is_among ks k) refl (found_left k xs)
    where
      here : A → Bool
      here y = name_eq k (key y)

      rest : List A
      rest = filter (is_of_none key ks) xs

      on : (b : Bool) → name_eq k (key x) ≡ b → (s : Bool) → is_of_none key ks x ≡ s → (g : Bool) → is_among ks k ≡ g → find here rest ≡ (if g then None else find here xs)
          → find here (cond s (x ∷ rest) rest) ≡ (if g then None else cond b (Some x) (find here xs))
      on true is true stays true among same = let no : true ≡ false = sym stays ∙ keeps k x is ∙ ap not among in cc
      on true is true stays false among same = ap (λ here. cond here (Some x) (find (λ y. name_eq k (key y)) rest)) is
      on true is false stays true among same = same
      on true is false stays false among same = let no : false ≡ true = sym stays ∙ keeps k x is ∙ ap not among in cc
      on false is true stays g among same = ap (λ here. cond here (Some x) (find (λ y. name_eq k (key y)) rest)) is ∙ same
      on false is false stays g among same = same

  pub newest_left : (alike : A → A → Bool) (k : List ℕ) (xs old : List A) → newest_in key alike k (filter (is_of_none key ks) xs) old ≡ (if is_among ks k then old else newest_in key alike k xs old)
  newest_left alike k [] old = sym (either old (is_among ks k))
  newest_left alike k (x ∷ xs) old = on (name_eq k (key x)) refl (is_of_none key ks x) refl (is_among ks k) refl (newest_left alike k xs)
    where
      rest : List A
      rest = filter (is_of_none key ks) xs

      on : (b : Bool) → name_eq k (key x) ≡ b → (s : Bool) → is_of_none key ks x ≡ s → (g : Bool) → is_among ks k ≡ g → ((ys : List A) → newest_in key alike k rest ys ≡ (if g then ys else newest_in key alike k xs ys))
          → newest_in key alike k (cond s (x ∷ rest) rest) old ≡ (if g then old else newest_in key alike k xs (if b then newest alike x old else old))
      on true is true stays true among same = let no : true ≡ false = sym stays ∙ keeps k x is ∙ ap not among in cc
      on true is true stays false among same = ap (λ here. newest_in key alike k rest (if here then newest alike x old else old)) is ∙ same (newest alike x old)
      on true is false stays true among same = same old
      on true is false stays false among same = let no : false ≡ true = sym stays ∙ keeps k x is ∙ ap not among in cc
      on false is true stays g among same = ap (λ here. newest_in key alike k rest (if here then newest alike x old else old)) is ∙ same old
      on false is false stays g among same = same old

mapped : {A B : Type 0} (f : A → B) (g : Bool) (o : Option A) → option_map f (if g then None else o) ≡ (if g then None else option_map f o)
mapped f true o = refl
mapped f false o = refl

pub without_view : (K L : Kept) (ks : List (List ℕ)) → L.seen ≡ filter (is_of_none (λ l. l.name) ks) K.seen → L.entries ≡ filter (is_of_none (λ e. e.key) ks) K.entries
    → L.verifying ≡ filter (is_of_none (λ t. t.key) ks) K.verifying → L.constructive ≡ filter (is_of_none (λ t. t.key) ks) K.constructive → L.deep ≡ filter (is_of_none (λ t. t.key) ks) K.deep
    → L.chain ≡ K.chain → L.values ≡ K.values → kept_view L ≡ without ks (kept_view K)
without_view K L ks seen entries verifying constructive deep chain values =
    kept_same (kept_view L) (without ks (kept_view K))
    (λ k. ap (λ ls. first_link ls k) seen ∙ ap (option_map (λ l. l.digest)) (found_left (λ l. l.name) ks k K.seen) ∙ mapped (λ l. l.digest) (is_among ks k) (find (is_link_of k) K.seen))
    (λ k. ap (λ es. first_entry es k) entries ∙ found_left (λ e. e.key) ks k K.entries)
    traces chain (λ d. ap (λ vs. first_value vs d) values)
  where
    traces : (w : Way) (k : List ℕ) → traces_in w k (kept_traces w L) [] ≡ (if is_among ks k then [] else traces_in w k (kept_traces w K) [])
    traces Verifying k = ap (λ ts. traces_in Verifying k ts []) verifying ∙ newest_left (key_by Verifying) ks (eq_by Verifying) k K.verifying []
    traces Constructive k = ap (λ ts. traces_in Constructive k ts []) constructive ∙ newest_left (key_by Constructive) ks (eq_by Constructive) k K.constructive []
    traces Deep k = ap (λ ts. traces_in Deep k ts []) deep ∙ newest_left (key_by Deep) ks (eq_by Deep) k K.deep []

-- where nothing is dropped
pub without_none : (K : SomeKept) → without [] K ≡ K
without_none K = kept_same (without [] K) K (λ k. refl) (λ k. refl) (λ w k. refl) refl (λ d. refl)

pub dropping_none : (B : Batch) (K : SomeKept) → B.gone ≡ [] → carried B K ≡ put_in B K
dropping_none B K none = ap (λ ks. put_in B (without ks K)) none ∙ ap (put_in B) (without_none K)

-- and where there is nothing
pub without_nothing : (ks : List (List ℕ)) → without ks nothing_kept ≡ nothing_kept
without_nothing ks = kept_same (without ks nothing_kept) nothing_kept (λ k. either None (is_among ks k)) (λ k. either None (is_among ks k)) (λ w k. either [] (is_among ks k)) refl (λ d. refl)
