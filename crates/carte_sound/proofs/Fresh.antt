-- Fresh entries, each true of a book of its own that agrees with the present one, are true of the present one.
use Rattle.std.proofs.Common.{◌≡◌, ℕ, zero, suc, ◌+◌, true, List, length, Option, Some, None, Ok, refl, ap, sym, ◌∙◌, subst}
use Rattle.std.specs.Result.{result_ok}
use Rattle.carte_value.specs.declared.value.Value.{Value}
use Rattle.carte_value.specs.Asks.{firsts, asked}
use Rattle.carte_value.specs.Truths.{Among}
use Rattle.carte_value.specs.Spelling.{digest_of}
use Rattle.carte_value.proofs.Firsts.{firsts_among}
use Rattle.carte_tree.specs.Tree.{Tree}
use Rattle.carte_tree.specs.Meaning.{asks, eval, fetched}
use Rattle.carte_book.specs.Book.{Item, input, rule, Book, content, valued, val, rules_of, clean}
use Rattle.carte_book.specs.Needs.{IsRule, needs, needs_of}
use Rattle.carte_book.specs.Task.{task_digest_of}
use Rattle.carte_book.proofs.Clean.{ended, clean_rule, clean_input, clean_nothing, val_clean}
use Rattle.carte_record.specs.declared.entry.Entry.{Entry}
use Rattle.carte_record.specs.Kept.{SomeKept, is_fresh}
use Rattle.carte_sound.specs.Marks.{IsFresh, Leads, need, on}
use Rattle.carte_sound.specs.Base.{AllNow}
use Rattle.carte_value.proofs.Agreeing.{same_three, same_asked}

-- two books have the same at the key and at all that it leads to
pub record AgreeOn (K : SomeKept) (b c : Book) (k : List ℕ) : Type 0 where
  pub kind : c.kind ≡ b.kind
  pub here : content c k ≡ content b k
  pub beyond : (i : List ℕ) → Leads K k i → content c i ≡ content b i

-- the entry is true of a book that agrees with the present one, and what it needs is fresh and seen
pub record IsTrue (K : SomeKept) (b : Book) (k : List ℕ) (e : Entry) : Type 0 where
  pub book : Book
  pub agree : AgreeOn K b book k
  pub formula : Tree
  pub is_rule : content b k ≡ Some (rule formula)
  pub value : Value
  pub ends : clean book k ≡ Some value
  pub key : e.key ≡ k
  pub task : e.task ≡ task_digest_of b.kind formula
  pub result : e.result ≡ digest_of value
  pub needs : e.needs ≡ fetched b.kind (clean book) formula
  pub seen : (i : List ℕ) (v : Value) → Among e.needs i → content b i ≡ Some (input v) → K.seen i ≡ Some (digest_of v)
  pub rules : (j : List ℕ) → Among e.needs j → IsRule b j → IsFresh K j

agree_on : (K : SomeKept) (b c : Book) (k j : List ℕ) (e : Entry) → K.entries k ≡ Some e → Among e.needs j → AgreeOn K b c k → AgreeOn K b c j
agree_on K b c k j e kept among agree = record {
  kind = agree.kind;
  here = agree.beyond j (need e kept among);
  beyond = λ i leads. agree.beyond i (on e kept among leads);
}

agree_self : (K : SomeKept) (b : Book) (k : List ℕ) → AgreeOn K b b k
agree_self K b k = record { kind = refl; here = refl; beyond = λ i leads. refl }

-- a rule's value of a later round
pub val_rule : (b : Book) (n : ℕ) (k : List ℕ) (f : Tree) (v : Value) → content b k ≡ Some (rule f) → val b (suc n) k ≡ Some v → eval b.kind (val b n) f ≡ Ok v
val_rule b n k f v is h = ended (eval b.kind (val b n) f) v (rw is at h)

-- and a rule's clean value
pub clean_ends : (b : Book) (k : List ℕ) (f : Tree) (v : Value) → content b k ≡ Some (rule f) → clean b k ≡ Some v → eval b.kind (clean b) f ≡ Ok v
clean_ends b k f v is h = ended (eval b.kind (clean b) f) v (sym (clean_rule b k f is) ∙ h)

pub ends_clean : (b : Book) (k : List ℕ) (f : Tree) (v : Value) → content b k ≡ Some (rule f) → eval b.kind (clean b) f ≡ Ok v → clean b k ≡ Some v
ends_clean b k f v is h = clean_rule b k f is ∙ ap result_ok h

module _ (K : SomeKept) (b : Book) (holds : (k : List ℕ) (e : Entry) → K.entries k ≡ Some e → is_fresh e ≡ true → IsTrue K b k e) where
  -- entries of different books walk together: the rounds of one book, the look-ups of the entry's own, and the values of a third
  pub fresh_value : (n : ℕ) (k : List ℕ) (e : Entry) → K.entries k ≡ Some e → is_fresh e ≡ true → (c d : Book) → AgreeOn K b c k → AgreeOn K b d k → (v : Value) → val c n k ≡ Some v → clean d k ≡ Some v
  fresh_value zero k e kept fresh c d to_c to_d v h =
      let t = holds k e kept fresh in
      let at : content c k ≡ Some (rule t.formula) = to_c.here ∙ t.is_rule in
      let none : valued (content c k) (λ f. None) ≡ None = rw at refl in
      cc
  fresh_value (suc n) k e kept fresh c d to_c to_d v h =
      let t = holds k e kept fresh in
      let f = t.formula in
      let ran : eval b.kind (val c n) f ≡ Ok v = subst (λ q. eval q (val c n) f ≡ Ok v) to_c.kind (val_rule c n k f v (to_c.here ∙ t.is_rule) h) in
      let runs : eval b.kind (clean d) f ≡ Ok v = same_three (val c n) (clean t.book) (clean d) (asks b.kind f) v ran (λ j w among known.
      at_need (λ i e' kept' fresh' d' to_c' to_d' x is. fresh_value n i e' kept' fresh' c d' to_c' to_d' x is) t j w (rw (t.needs) (firsts_among (asked (clean t.book) (asks b.kind f)) j among)) known (content b j) refl) in
      ends_clean d k f v (to_d.here ∙ t.is_rule) (subst (λ q. eval q (clean d) f ≡ Ok v) (sym to_d.kind) runs)
    where
      at_need : ((j : List ℕ) (e : Entry) → K.entries j ≡ Some e → is_fresh e ≡ true → (d : Book) → AgreeOn K b c j → AgreeOn K b d j → (w : Value) → val c n j ≡ Some w → clean d j ≡ Some w) → (t : IsTrue K b k e) (j : List ℕ) (w : Value) → Among e.needs j → val c n j ≡ Some w → (o : Option Item) → content b j ≡ o → (clean t.book j ≡ Some w) × (clean d j ≡ Some w)
      at_need rec t j w among known None is =
          let none : clean c j ≡ None = clean_nothing c j (to_c.beyond j (need e kept among) ∙ is) in
          let some : clean c j ≡ Some w = val_clean c n j w known in
          cc
      at_need rec t j w among known (Some (input x)) is =
          let in_c : clean c j ≡ Some x = clean_input c j x (to_c.beyond j (need e kept among) ∙ is) in
          let some : clean c j ≡ Some w = val_clean c n j w known in
          let same : x ≡ w = cc in
          (clean_input t.book j x (t.agree.beyond j (need e kept among) ∙ is) ∙ ap Some same, clean_input d j x (to_d.beyond j (need e kept among) ∙ is) ∙ ap Some same)
      at_need rec t j w among known (Some (rule g)) is =
          let r = t.rules j among (g, is) in (
            rec j r.entry r.kept r.fresh t.book (agree_on K b c k j e kept among to_c) (agree_on K b t.book k j e kept among t.agree) w known,
            rec j r.entry r.kept r.fresh d (agree_on K b c k j e kept among to_c) (agree_on K b d k j e kept among to_d) w known,
          )

  -- the present book gives the entry's value
  pub fresh_ends : (k : List ℕ) (e : Entry) → K.entries k ≡ Some e → is_fresh e ≡ true → (t : IsTrue K b k e) → clean b k ≡ Some t.value
  fresh_ends k e kept fresh t = fresh_value (length (rules_of t.book) + 1) k e kept fresh t.book b t.agree (agree_self K b k) t.value t.ends

  need_clean : (k : List ℕ) (e : Entry) → K.entries k ≡ Some e → is_fresh e ≡ true → (t : IsTrue K b k e) → (j : List ℕ) (w : Value) → Among e.needs j → clean t.book j ≡ Some w → (o : Option Item) → content b j ≡ o → clean b j ≡ Some w
  need_clean k e kept fresh t j w among known None is =
      let none : clean t.book j ≡ None = clean_nothing t.book j (t.agree.beyond j (need e kept among) ∙ is) in
      cc
  need_clean k e kept fresh t j w among known (Some (input x)) is =
      let there : clean t.book j ≡ Some x = clean_input t.book j x (t.agree.beyond j (need e kept among) ∙ is) in
      clean_input b j x is ∙ sym there ∙ known
  need_clean k e kept fresh t j w among known (Some (rule g)) is =
      let r = t.rules j among (g, is) in
      fresh_value (length (rules_of t.book) + 1) j r.entry r.kept r.fresh t.book b (agree_on K b t.book k j e kept among t.agree) (agree_self K b j) w known

  -- and the entry's needs
  pub fresh_needs : (k : List ℕ) (e : Entry) → K.entries k ≡ Some e → is_fresh e ≡ true → (t : IsTrue K b k e) → e.needs ≡ needs b k
  fresh_needs k e kept fresh t =
      let f = t.formula in
      let ran : eval b.kind (clean t.book) f ≡ Ok t.value = subst (λ q. eval q (clean t.book) f ≡ Ok t.value) t.agree.kind (clean_ends t.book k f t.value (t.agree.here ∙ t.is_rule) t.ends) in
      let looks : asked (clean b) (asks b.kind f) ≡ asked (clean t.book) (asks b.kind f) = same_asked (clean t.book) (clean b) (asks b.kind f) t.value ran (λ j w among known.
      need_clean k e kept fresh t j w (rw (t.needs) (firsts_among (asked (clean t.book) (asks b.kind f)) j among)) known (content b j) refl) in
      t.needs ∙ ap firsts (sym looks) ∙ ap (λ o. needs_of o (λ g. fetched b.kind (clean b) g)) (sym t.is_rule)

  -- so each fresh entry is true now
  pub all_now : AllNow K b
  all_now k e kept fresh = let t = holds k e kept fresh in record {
    formula = t.formula;
    is_rule = t.is_rule;
    value = t.value;
    clean = fresh_ends k e kept fresh t;
    key = t.key;
    task = t.task;
    result = t.result;
    needs = fresh_needs k e kept fresh t;
    rules = t.rules;
    seen = t.seen;
  }
