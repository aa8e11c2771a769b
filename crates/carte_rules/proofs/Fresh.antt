-- Inputs that are still to come stand at keys that the content hasn't.
use Rattle.std.proofs.Common.{◌≡◌, ℕ, false, cond, List, [], ◌∷◌, Some, None, Ok, Less, String, Global, string_bytes, ap, subst, sym, ◌∙◌}
use Rattle.std.specs.FinMap.{get, insert, empty, get-empty, get-insert}
use Rattle.std.specs.Ordering.{eq_by_cmp, is_eq}
use Rattle.std.specs.Cmp.{eq_by_cmp_equiv}
use Rattle.std.specs.Map.{keys_of}
use Rattle.std.specs.List.{AllByRecursion}
use Rattle.std.specs.List.Sorted.{IsStrictlySortedBy}
use Rattle.std.specs.String.{string_cmp}
use Rattle.std.proofs.lemmas.Cmp.{nat_list_cmp_total}
use Rattle.std.proofs.lemmas.Map.Keys.{sorted_head, sorted_tail}
use Rattle.toml.specs.Data.{Data}
use Rattle.toml.specs.View.{view}
use Rattle.toml.specs.declared.value.Value.{Value}
use Rattle.carte_name.specs.Names.{name_cmp}
use Rattle.carte_book.specs.Book.{Item}
use Rattle.carte_rules.specs.Reading.{Content, input_into}
use Rattle.carte_rules.proofs.Keys.{one_input}

abbrev AreNew : Content → List (String Global) → Type 0
AreNew m ks = AllByRecursion (λ k. get m (string_bytes k) ≡ None) ks

-- the keys ascend, and nothing stands at any of them
pub record AllFresh (m : Content) (es : List (String Global × Value)) : Type 0 where
  pub sorted : IsStrictlySortedBy string_cmp (keys_of es)
  pub new : AreNew m (keys_of es)

none_new : (ks : List (String Global)) → AreNew empty ks
none_new [] = tt
none_new (k ∷ ks) = (get-empty name_cmp (string_bytes k), none_new ks)

pub all_fresh : (es : List (String Global × Value)) → IsStrictlySortedBy string_cmp (keys_of es) → AllFresh empty es
all_fresh es sorted = record { sorted = sorted; new = none_new (keys_of es) }

still_new : (m : Content) (k : List ℕ) (x : Item) (ks : List (String Global)) → AllByRecursion (λ j. name_cmp k (string_bytes j) ≡ Less) ks → AreNew m ks → AreNew (insert m k x) ks
still_new m k x [] above new = tt
still_new m k x (j ∷ ks) above new =
    let apart : eq_by_cmp name_cmp (string_bytes j) k ≡ false = (eq_by_cmp_equiv nat_list_cmp_total).symm (string_bytes j) k ∙ ap is_eq above.0 in
    (get-insert nat_list_cmp_total m k x (string_bytes j) ∙ ap (λ t. cond t (Some x) (get m (string_bytes j))) apart ∙ new.0, still_new m k x ks above.1 new.1)

pub rest_fresh : (k : String Global) (v : Value) (es : List (String Global × Value)) (m n : Content) → AllFresh m ((k, v) ∷ es) → input_into (string_bytes k) (view v) m ≡ Ok n → AllFresh n es
rest_fresh k v es m n h is =
    let one = one_input (string_bytes k) (view v) m n is in
    record {
      sorted = sorted_tail string_cmp k (keys_of es) h.sorted;
      new = subst (λ (c : Content). AreNew c (keys_of es)) (sym one.1) (still_new m (string_bytes k) one.0 (keys_of es) (sorted_head string_cmp k (keys_of es) h.sorted) h.new.1);
    }

-- ---- the same of keys as their bytes

abbrev AreFree : Content → List (List ℕ) → Type 0
AreFree m ks = AllByRecursion (λ k. get m k ≡ None) ks

pub record KeysFresh (m : Content) (ks : List (List ℕ)) : Type 0 where
  pub sorted : IsStrictlySortedBy name_cmp ks
  pub new : AreFree m ks

none_free : (ks : List (List ℕ)) → AreFree empty ks
none_free [] = tt
none_free (k ∷ ks) = (get-empty name_cmp k, none_free ks)

pub keys_fresh : (ks : List (List ℕ)) → IsStrictlySortedBy name_cmp ks → KeysFresh empty ks
keys_fresh ks sorted = record { sorted = sorted; new = none_free ks }

still_free : (m : Content) (k : List ℕ) (x : Item) (ks : List (List ℕ)) → AllByRecursion (λ j. name_cmp k j ≡ Less) ks → AreFree m ks → AreFree (insert m k x) ks
still_free m k x [] above new = tt
still_free m k x (j ∷ ks) above new =
    let apart : eq_by_cmp name_cmp j k ≡ false = (eq_by_cmp_equiv nat_list_cmp_total).symm j k ∙ ap is_eq above.0 in
    (get-insert nat_list_cmp_total m k x j ∙ ap (λ t. cond t (Some x) (get m j)) apart ∙ new.0, still_free m k x ks above.1 new.1)

pub rest_keys_fresh : (k : List ℕ) (d : Data) (ks : List (List ℕ)) (m n : Content) → KeysFresh m (k ∷ ks) → input_into k d m ≡ Ok n → KeysFresh n ks
rest_keys_fresh k d ks m n h is =
    let one = one_input k d m n is in
    record {
      sorted = sorted_tail name_cmp k ks h.sorted;
      new = subst (λ (c : Content). AreFree c ks) (sym one.1) (still_free m k one.0 ks (sorted_head name_cmp k ks h.sorted) h.new.1);
    }
