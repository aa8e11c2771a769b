-- What is fresh and true now leads to seen inputs and to rules with entries of their tasks alone.
use Rattle.std.proofs.Common.{◌≡◌, ◌⊎◌, ℕ, true, List, Option, Some, None, refl, ap, sym, ◌∙◌, inl, inr, subst}
use Rattle.carte_value.specs.declared.value.Value.{Value}
use Rattle.carte_value.specs.Truths.{Among}
use Rattle.carte_book.specs.Book.{Item, input, rule, Book, content, clean}
use Rattle.carte_book.specs.Needs.{IsRule}
use Rattle.carte_book.proofs.Clean.{clean_nothing}
use Rattle.carte_book.proofs.Tasks.{task_of_rule}
use Rattle.carte_record.specs.declared.entry.Entry.{Entry}
use Rattle.carte_record.specs.Kept.{SomeKept, is_fresh}
use Rattle.carte_sound.specs.Marks.{IsFresh, Leads, need, on}
use Rattle.carte_sound.specs.Sound.{IsSeen, IsRuled, IsFreshIn}
use Rattle.carte_sound.specs.Base.{IsNow, AllNow}
use Rattle.carte_sound.proofs.Held.{need_has_value}

-- what has a value is an input or a rule
pub input_or_rule : (b : Book) (j : List ℕ) (w : Value) → clean b j ≡ Some w → ((x : Value) × (content b j ≡ Some (input x))) ⊎ IsRule b j
input_or_rule b j w has = on_item (content b j) refl
  where
    on_item : (o : Option Item) → content b j ≡ o → ((x : Value) × (content b j ≡ Some (input x))) ⊎ IsRule b j
    on_item None is = let none : clean b j ≡ None = clean_nothing b j is in cc
    on_item (Some (input x)) is = inl (x, is)
    on_item (Some (rule f)) is = inr (f, is)

-- the entry of a key that is fresh and true now has the task that the key has now
pub now_ruled : (K : SomeKept) (b : Book) → AllNow K b → (k : List ℕ) → IsFresh K k → IsRuled K b k
now_ruled K b now k f = let n = now k f.entry f.kept f.fresh in record { entry = f.entry; kept = f.kept; task = task_of_rule b k n.formula n.is_rule ∙ ap Some (sym n.task) }

-- where fresh entries are true now and each entry is of a rule, a fresh one leads to seen inputs and such rules alone
pub now_names : (K : SomeKept) (b : Book) → AllNow K b → ((k : List ℕ) (e : Entry) → K.entries k ≡ Some e → IsRule b k) → (k : List ℕ) (e : Entry) → K.entries k ≡ Some e → is_fresh e ≡ true → (i : List ℕ) → Leads K k i → IsSeen K b i ⊎ IsRuled K b i
now_names K b now rules k e kept fresh i (need d there among) = at_need (now k d there fresh_d) among
  where
    fresh_d : is_fresh d ≡ true
    fresh_d = let same : e ≡ d = (let s : Some e ≡ Some d = sym kept ∙ there in cc) in ap is_fresh (sym same) ∙ fresh

    at_need : IsNow K b k d → Among d.needs i → IsSeen K b i ⊎ IsRuled K b i
    at_need n here =
        let w = need_has_value b k n.formula n.value n.is_rule n.clean i (subst (λ ks. Among ks i) n.needs here) in
        elim (input_or_rule b i w.0 w.1) [
          | inl is_input ↦ inl (record { value = is_input.0; is_input = is_input.1; seen = n.seen i is_input.0 here is_input.1 })
          | inr is_rule ↦ inr (now_ruled K b now i (n.rules i here is_rule))
        ]
now_names K b now rules k e kept fresh i (on {i = j} d there among leads) = at_need (now k d there fresh_d) among (λ r. now_names K b now rules j r.entry r.kept r.fresh i leads)
  where
    fresh_d : is_fresh d ≡ true
    fresh_d = let same : e ≡ d = (let s : Some e ≡ Some d = sym kept ∙ there in cc) in ap is_fresh (sym same) ∙ fresh

    entry_of : Leads K j i → (x : Entry) × (K.entries j ≡ Some x)
    entry_of (need x at here) = (x, at)
    entry_of (on x at here further) = (x, at)

    at_need : IsNow K b k d → Among d.needs j → (IsFresh K j → IsSeen K b i ⊎ IsRuled K b i) → IsSeen K b i ⊎ IsRuled K b i
    at_need n here rec = let x = entry_of leads in rec (n.rules j here (rules j x.0 x.1))

-- so it is fresh in the sense of soundness
pub now_fresh : (K : SomeKept) (b : Book) → AllNow K b → ((k : List ℕ) (e : Entry) → K.entries k ≡ Some e → IsRule b k) → (k : List ℕ) (e : Entry) → K.entries k ≡ Some e → is_fresh e ≡ true → IsFreshIn K b k e
now_fresh K b now rules k e kept fresh = record {
  names = λ i leads. now_names K b now rules k e kept fresh i leads;
  rules = (now k e kept fresh).rules;
}
