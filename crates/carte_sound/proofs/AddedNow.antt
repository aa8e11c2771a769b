-- What is fresh behind one finished key more is true now.
use Rattle.std.proofs.Common.{◌≡◌, ◌⊎◌, ℕ, Bool, true, false, cond, List, Some, refl, ap, sym, ◌∙◌, inl, inr, subst}
use Rattle.carte_value.specs.declared.value.Value.{Value}
use Rattle.carte_value.specs.Spelling.{digest_of}
use Rattle.carte_value.specs.Truths.{Among}
use Rattle.carte_tree.specs.Tree.{Tree}
use Rattle.carte_book.specs.Book.{input, rule, Book, content, clean}
use Rattle.carte_book.specs.Needs.{IsRule, needs}
use Rattle.carte_record.specs.declared.entry.Entry.{Entry}
use Rattle.carte_record.specs.Kept.{SomeKept, is_fresh, put_at}
use Rattle.carte_sound.specs.Marks.{IsFresh}
use Rattle.carte_sound.specs.Beneath.{beneath}
use Rattle.carte_sound.specs.True.{digest_or, full_entry, IsEntryOf}
use Rattle.carte_sound.specs.Sound.{IsStored}
use Rattle.carte_sound.specs.Base.{IsNow, AllNow, IsBase}
use Rattle.carte_sound.specs.Held.{How}
use Rattle.carte_sound.specs.Left.{entry_left, is_kept, add}
use Rattle.carte_sound.proofs.Tests.{eq_or_apart, put_here, put_there, put_cases, fresh_parts}
use Rattle.carte_sound.proofs.Tasks.{own_task}
use Rattle.carte_sound.proofs.Entries.{kept_is, Leaves, full, old, shallow, NeedsFresh, leaves}
use Rattle.carte_sound.proofs.Written.{seen_grows, seen_written}

-- the entry says what the present book says
pub now_entry : (K : SomeKept) (b : Book) (k : List ℕ) (e : Entry) → is_fresh e ≡ true → IsNow K b k e → IsEntryOf b k e
now_entry K b k e fresh n = record {
  formula = n.formula;
  is_rule = n.is_rule;
  value = n.value;
  clean = n.clean;
  key = n.key;
  task = n.task;
  result = n.result;
  needs = n.needs ∙ ap (λ t. cond t (beneath b k) (needs b k)) (sym (fresh_parts e fresh).1);
}

fresh_leaves : (b : Book) (K : SomeKept) (k : List ℕ) (e : Entry) → Leaves b K k e → IsFresh K k → is_fresh e ≡ true
fresh_leaves b K k e (full r) f = refl
fresh_leaves b K k e (old x kept fresh) f = fresh
fresh_leaves b K k e (shallow none) f = absurd (none f)

-- A key that may be finished next: a rule with a clean value that the store has or will have. The rules that it needs are fresh.
pub record IsNext (h : How) (b : Book) (H : List Book) (K : SomeKept) (k : List ℕ) (ran : Bool) : Type 0 where
  pub base : IsBase K b H
  pub formula : Tree
  pub is_rule : content b k ≡ Some (rule formula)
  pub value : Value
  pub clean : clean b k ≡ Some value
  pub stored : (ran ≡ true) ⊎ IsStored K (digest_of value)
  pub order : NeedsFresh h b K k

module _ (h : How) (b : Book) (H : List Book) (K : SomeKept) (k : List ℕ) (ran : Bool) (p : IsNext h b H K k ran) where
  -- what was fresh is fresh
  pub fresh_grows : (j : List ℕ) → IsFresh K j → IsFresh (add h b K k ran) j
  fresh_grows j fresh = elim (eq_or_apart j k) [
    | inl is ↦ record {
      entry = entry_left h K b k;
      kept = ap (put_at K.entries k (entry_left h K b k)) is ∙ put_here K.entries k (entry_left h K b k);
      fresh = fresh_leaves b K k (entry_left h K b k) (leaves h b K k p.order) (subst (λ q. IsFresh K q) is fresh);
    }
    | inr apart ↦ record { entry = fresh.entry; kept = put_there K.entries k (entry_left h K b k) j apart ∙ fresh.kept; fresh = fresh.fresh }
  ]

  now_grows : (q : List ℕ) (e : Entry) → IsNow K b q e → IsNow (add h b K k ran) b q e
  now_grows q e n = record {
    formula = n.formula;
    is_rule = n.is_rule;
    value = n.value;
    clean = n.clean;
    key = n.key;
    task = n.task;
    result = n.result;
    needs = n.needs;
    rules = λ j among r. fresh_grows j (n.rules j among r);
    seen = λ i x among is. seen_grows h b K k ran i x is (n.seen i x among is);
  }

  -- the full entry names inputs that are seen, whether it is written or kept
  full_seen : full_entry b k ≡ entry_left h K b k → (i : List ℕ) (x : Value) → Among (needs b k) i → content b i ≡ Some (input x) → (add h b K k ran).seen i ≡ Some (digest_of x)
  full_seen equal i x among is = elim (is_kept (K.entries k) (entry_left h K b k)) as (λ t. is_kept (K.entries k) (entry_left h K b k) ≡ t → (add h b K k ran).seen i ≡ Some (digest_of x)) [
    | true ↦ λ kept.
        let at : K.entries k ≡ Some (full_entry b k) = kept_is (K.entries k) (entry_left h K b k) kept ∙ ap Some (sym equal) in
        seen_grows h b K k ran i x is ((p.base.now k (full_entry b k) at refl).seen i x among is)
    | false ↦ λ written. seen_written h b K k ran written i x (subst (λ (e : Entry). Among e.needs i) equal among) is
  ] refl

  leaves_now : (e : Entry) → Leaves b K k e → e ≡ entry_left h K b k → is_fresh e ≡ true → IsNow (add h b K k ran) b k e
  leaves_now e (full r) equal fresh = record {
    formula = p.formula;
    is_rule = p.is_rule;
    value = p.value;
    clean = p.clean;
    key = refl;
    task = own_task b k p.formula p.is_rule;
    result = ap digest_or p.clean;
    needs = refl;
    rules = λ j among is. fresh_grows j (r j among is);
    seen = λ i x among is. full_seen equal i x among is;
  }
  leaves_now e (old x kept there) equal fresh = now_grows k e (p.base.now k e kept fresh)
  leaves_now e (shallow none) equal fresh = cc

  pub leaves_entry : (e : Entry) → Leaves b K k e → IsEntryOf b k e
  leaves_entry e (full r) = record { formula = p.formula; is_rule = p.is_rule; value = p.value; clean = p.clean; key = refl; task = own_task b k p.formula p.is_rule; result = ap digest_or p.clean; needs = refl }
  leaves_entry e (old x kept fresh) = now_entry K b k e fresh (p.base.now k e kept fresh)
  leaves_entry e (shallow none) = record { formula = p.formula; is_rule = p.is_rule; value = p.value; clean = p.clean; key = refl; task = own_task b k p.formula p.is_rule; result = ap digest_or p.clean; needs = refl }

  -- what is fresh is true now
  pub added_now : AllNow (add h b K k ran) b
  added_now q e kept fresh = elim (put_cases K.entries k (entry_left h K b k) q e kept) [
    | inl new ↦ subst (λ j. IsNow (add h b K k ran) b j e) (sym new.0) (leaves_now e (subst (Leaves b K k) new.1 (leaves h b K k p.order)) (sym new.1) fresh)
    | inr before ↦ now_grows q e (p.base.now q e before.1 fresh)
  ]

  -- and what has an entry is a rule
  pub added_rule : (q : List ℕ) (e : Entry) → (add h b K k ran).entries q ≡ Some e → IsRule b q
  added_rule q e kept = elim (put_cases K.entries k (entry_left h K b k) q e kept) [
    | inl new ↦ (p.formula, ap (content b) new.0 ∙ p.is_rule)
    | inr before ↦ p.base.keys q e before.1
  ]
