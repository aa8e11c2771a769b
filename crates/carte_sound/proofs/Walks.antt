-- What is met beneath a key: by however many rounds, and in books that agree there.
use Rattle.std.proofs.Common.{◌≡◌, ℕ, zero, suc, ◌+◌, ◌-◌, List, [], ◌∷◌, length, Option, Some, refl, ap, sym, ◌∙◌, inl, inr, arith}
use Rattle.std.proofs.lemmas.Bool.{cases_lt}
use Rattle.carte_value.specs.declared.value.Value.{Value}
use Rattle.carte_value.specs.Asks.{firsts}
use Rattle.carte_value.specs.Lists.{Has}
use Rattle.carte_value.specs.Truths.{Among}
use Rattle.carte_value.proofs.Firsts.{among_firsts}
use Rattle.carte_book.specs.Book.{Item, input, Book, content, val, rules_of, clean}
use Rattle.carte_book.proofs.Clean.{clean_input, val_kept}
use Rattle.carte_sound.specs.Base.{HasDistinctDigests}
use Rattle.carte_sound.specs.Beneath.{walk, beneath_in}
use Rattle.carte_sound.specs.Held.{AreLinks}
use Rattle.carte_sound.specs.Marks.{present}
use Rattle.carte_sound.specs.True.{digest_or, links_to}
use Rattle.carte_sound.proofs.Begun.{present_input}
use Rattle.carte_sound.proofs.Held.{links_same}
use Rattle.carte_sound.proofs.Beneath.{beneath_input, AgreeBeneath, beneath_val, beneath_value, walk_same, walk_stays}

module _ (met : Option Item → List ℕ → List (List ℕ) → List (List ℕ)) where
  -- a round that finds a key's value finds what each later one finds beneath it
  pub walk_more : (b : Book) (n : ℕ) (k : List ℕ) (v : Value) → val b n k ≡ Some v → (d m : ℕ) → m ≡ n + d → (walk met m b k ≡ walk met n b k) × (val b m k ≡ Some v)
  walk_more b n k v has zero m is = let e : m ≡ n = omega arith in (ap (λ x. walk met x b k) e, ap (λ x. val b x k) e ∙ has)
  walk_more b n k v has (suc d) m is =
      let before = walk_more b n k v has d (n + d) refl in
      let e : m ≡ suc (n + d) = omega arith in (
        ap (λ x. walk met x b k) e ∙ walk_stays met b (n + d) k v before.1 ∙ before.0,
        ap (λ x. val b x k) e ∙ val_kept b (n + d) k v before.1,
      )

  -- two rounds that find a key's value find the same beneath it
  pub walk_either : (b : Book) (n m : ℕ) (k : List ℕ) (v w : Value) → val b n k ≡ Some v → val b m k ≡ Some w → walk met n b k ≡ walk met m b k
  walk_either b n m k v w has also = elim (cases_lt n m) [
    | inl below ↦ sym (walk_more b n k v has (m - n) m (omega arith)).0
    | inr above ↦ (walk_more b m k w also (n - m) n (omega arith)).0
  ]

  -- in books that agree beneath a key the same is found in the end
  pub walk_whole : (c b : Book) (k : List ℕ) (v : Value) → clean c k ≡ Some v → AgreeBeneath c b (length (rules_of c) + 1) k → firsts (walk met (length (rules_of b) + 1) b k) ≡ firsts (walk met (length (rules_of c) + 1) c k)
  walk_whole c b k v has agree =
      let n = length (rules_of c) + 1 in
      ap firsts (walk_either b (length (rules_of b) + 1) n k v v (beneath_value c b n k v has agree) (beneath_val c b n k v has agree) ∙ walk_same c b met n k v has agree)

-- links to inputs that are so now are to the same values
pub present_agrees : (H : List Book) → HasDistinctDigests H → (c b : Book) → Has H c → Has H b → (ks : List (List ℕ)) → AreLinks (present b) (links_to (clean c) ks) → (i : List ℕ) → Among ks i → (x : Value) → content c i ≡ Some (input x) → content b i ≡ Some (input x)
present_agrees H distinct c b in_c in_b [] are i among x is = absurd among
present_agrees H distinct c b in_c in_b (k ∷ ks) are i (inl same) x is =
    let at : content c k ≡ Some (input x) = ap (content c) (sym same) ∙ is in
    let now = present_input b k (digest_or (clean c k)) are.0 in
    let equal : now.0 ≡ x = distinct.values b c k k now.0 x in_b in_c (clean_input b k now.0 now.1) (clean_input c k x at) (now.2 ∙ ap digest_or (clean_input c k x at)) in
    ap (content b) same ∙ now.1 ∙ ap (λ y. Some (input y)) equal
present_agrees H distinct c b in_c in_b (k ∷ ks) are i (inr later) x is = present_agrees H distinct c b in_c in_b ks are.1 i later x is

-- links to inputs that are the same in both books
pub inputs_same : (c b : Book) (n : ℕ) (k : List ℕ) → ((i : List ℕ) → Among (beneath_in n c k) i → content b i ≡ content c i) → links_to (clean c) (firsts (beneath_in n c k)) ≡ links_to (clean b) (firsts (beneath_in n c k))
inputs_same c b n k same = links_same (clean c) (clean b) (firsts (beneath_in n c k)) (λ i among.
    let there = among_firsts (beneath_in n c k) i among in
    let x = beneath_input n c k i there in
    clean_input c i x.0 x.1 ∙ sym (clean_input b i x.0 (same i there ∙ x.1)))
