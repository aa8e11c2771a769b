-- Jobs as they are begun.
use Rattle.std.proofs.Common.{◌≡◌, ℕ, Bool, true, false, ◌&&◌, cond, List, [], ◌∷◌, ◌++◌, ◌⊎◌, Option, Some, None, refl, ap, sym, ◌∙◌, subst, inl, inr}
use Rattle.carte_value.specs.declared.digest.Digest.{Digest}
use Rattle.carte_value.specs.declared.value.Value.{Value}
use Rattle.carte_name.specs.Names.{name_eq}
use Rattle.carte_tree.specs.Meaning.{asks}
use Rattle.carte_task.specs.Checking.{Checking}
use Rattle.carte_book.specs.Book.{Book}
use Rattle.carte_book.specs.Task.{task_now}
use Rattle.carte_record.specs.declared.trace.Trace.{Trace}
use Rattle.carte_record.specs.declared.way.Way.TheVariants.{Verifying, Constructive}
use Rattle.carte_table.specs.Lookups.{digest_eq, first_value}
use Rattle.carte_record.specs.Lookups.{is_trace_of}
use Rattle.carte_record.specs.Kept.{SomeKept, traces_in}
use Rattle.carte_value.specs.Lists.{Has}
use Rattle.carte_sound.specs.Held.{IsTrusted}
use Rattle.carte_sound.proofs.Tests.{same_digest, digest_self}
use Rattle.carte_rebuild.specs.Earlier.{check_of, check_at, is_wanted, may_hold, checks_for, checks_in, checks_now}
use Rattle.carte_rebuild.specs.Traced.{AreTried, IsStart}
use Rattle.carte_rebuild.specs.Trying.{task_left, tries}
use Rattle.carte_rebuild.specs.declared.recipe.Recipe.{Recipe}
use Rattle.carte_rebuild.specs.Recipes.{formula_in, asks_in, IsRecipeOf}
use Rattle.carte_rebuild.specs.declared.tries.Tries.{Tries}
use Rattle.carte_rebuild.specs.Left.{left_of}
use Rattle.carte_rebuild.proofs.TracesOf.{traces_there, traces_only}

-- a check that was collected
pub record IsCollected (task : Digest) (wanted : Option Digest) (vs : List Value) (k : List ℕ) (ts : List Trace) (c : Checking) : Type 0 where
  pub trace : Trace
  pub has : Has ts trace
  pub key : name_eq k trace.key ≡ true
  pub wants : may_hold task wanted trace ≡ true
  pub value : Value
  pub stored : first_value vs trace.result ≡ Some value
  pub is : c ≡ check_of k trace.links value

has_either : (xs ys : List Checking) (c : Checking) → Has (xs ++ ys) c → Has xs c ⊎ Has ys c
has_either [] ys c has = inr has
has_either (x ∷ xs) ys c (inl same) = inl (inl same)
has_either (x ∷ xs) ys c (inr later) = elim (has_either xs ys c later) [
  | inl here ↦ inl (inr here)
  | inr there ↦ inr there
]

has_first : (xs ys : List Checking) (c : Checking) → Has xs c → Has (xs ++ ys) c
has_first [] ys c none = absurd none
has_first (x ∷ xs) ys c (inl same) = inl same
has_first (x ∷ xs) ys c (inr later) = inr (has_first xs ys c later)

has_then : (xs ys : List Checking) (c : Checking) → Has ys c → Has (xs ++ ys) c
has_then [] ys c has = has
has_then (x ∷ xs) ys c has = inr (has_then xs ys c has)

module _ (task : Digest) (wanted : Option Digest) (vs : List Value) (k : List ℕ) where
  -- each is of a trace of the list
  pub collected_only : (ts : List Trace) (c : Checking) → Has (checks_in task wanted vs k ts) c → IsCollected task wanted vs k ts c
  collected_only [] c none = absurd none
  collected_only (t ∷ ts) c has = elim (has_either (cond (is_trace_of k t) (checks_for task wanted vs k t) []) (checks_in task wanted vs k ts) c has) [
    | inl here ↦ by_key (is_trace_of k t) refl here
    | inr there ↦ later (collected_only ts c there)
  ]
    where
      later : IsCollected task wanted vs k ts c → IsCollected task wanted vs k (t ∷ ts) c
      later i = record { trace = i.trace; has = inr i.has; key = i.key; wants = i.wants; value = i.value; stored = i.stored; is = i.is }

      by_value : name_eq k t.key ≡ true → may_hold task wanted t ≡ true → (o : Option Value) → first_value vs t.result ≡ o → Has (check_at o k t) c → IsCollected task wanted vs k (t ∷ ts) c
      by_value key wants None is none = absurd none
      by_value key wants (Some v) is (inl same) = record { trace = t; has = inl refl; key = key; wants = wants; value = v; stored = is; is = same }
      by_value key wants (Some v) is (inr never) = absurd never

      by_wants : name_eq k t.key ≡ true → (b : Bool) → may_hold task wanted t ≡ b → Has (cond b (check_at (first_value vs t.result) k t) []) c → IsCollected task wanted vs k (t ∷ ts) c
      by_wants key false is none = absurd none
      by_wants key true is here = by_value key is (first_value vs t.result) refl here

      by_key : (b : Bool) → is_trace_of k t ≡ b → Has (cond b (checks_for task wanted vs k t) []) c → IsCollected task wanted vs k (t ∷ ts) c
      by_key false is none = absurd none
      by_key true is here = by_wants is (may_hold task wanted t) refl here

  -- and each such trace has one
  pub collected_each : (ts : List Trace) (t : Trace) (v : Value) → Has ts t → name_eq k t.key ≡ true → may_hold task wanted t ≡ true → first_value vs t.result ≡ Some v → Has (checks_in task wanted vs k ts) (check_of k t.links v)
  collected_each [] t v none key wants stored = absurd none
  collected_each (s ∷ ts) t v (inl same) key wants stored = has_first (cond (is_trace_of k s) (checks_for task wanted vs k s) []) (checks_in task wanted vs k ts) (check_of k t.links v) (subst (λ (x : Trace). Has (cond (is_trace_of k x) (checks_for task wanted vs k x) []) (check_of k t.links v)) same here)
    where
      here : Has (cond (is_trace_of k t) (checks_for task wanted vs k t) []) (check_of k t.links v)
      here = rw key (rw wants (rw stored (inl refl)))
  collected_each (s ∷ ts) t v (inr later) key wants stored = has_then (cond (is_trace_of k s) (checks_for task wanted vs k s) []) (checks_in task wanted vs k ts) (check_of k t.links v) (collected_each ts t v later key wants stored)

both_true : (a c : Bool) → (a && c) ≡ true → (a ≡ true) × (c ≡ true)
both_true true c is = (refl, is)
both_true false c is = cc

-- a check of one of these traces of the key, of those that are trusted
record IsTriedOf (K : SomeKept) (b : Book) (k : List ℕ) (kept : List Trace) (trusted : Trace → Type 0) (c : Checking) : Type 0 where
  pub trace : Trace
  pub has : Has kept trace
  pub task : task_now b k ≡ Some trace.task
  pub trusts : trusted trace
  pub value : Value
  pub stored : K.stored trace.result ≡ Some value
  pub is : c ≡ check_of k trace.links value

-- the checks of a key's traces are those of all that may be reused, where the result wanted is what is trusted
module _ (K : SomeKept) (b : Book) (k : List ℕ) (wanted : Option Digest) (vs : List Value) (ts kept : List Trace) (trusted : Trace → Type 0) (traces : kept ≡ traces_in Verifying k ts []) (values : K.stored ≡ first_value vs)
    (trusts : (t : Trace) → is_wanted wanted t.result ≡ true → trusted t) (wants : (t : Trace) → trusted t → is_wanted wanted t.result ≡ true) where
  tried_only : (o : Option Digest) → task_now b k ≡ o → (c : Checking) → Has (checks_now o wanted vs k ts) c → IsTriedOf K b k kept trusted c
  tried_only None now c has = absurd has
  tried_only (Some task) now c has =
      let i = collected_only task wanted vs k ts c has in
      let may = both_true (digest_eq i.trace.task task) (is_wanted wanted i.trace.result) i.wants in
      record {
        trace = i.trace;
        has = subst (λ xs. Has xs i.trace) (sym traces) (traces_there Verifying k ts [] i.trace i.has i.key);
        task = now ∙ ap Some (sym (same_digest i.trace.task task may.0));
        trusts = trusts i.trace may.1;
        value = i.value;
        stored = ap (λ f. f i.trace.result) values ∙ i.stored;
        is = i.is;
      }

  may : (task : Digest) → task_now b k ≡ Some task → (t : Trace) → task_now b k ≡ Some t.task → trusted t → may_hold task wanted t ≡ true
  may task now t of trust =
      let both : Some t.task ≡ Some task = sym of ∙ now in
      let one : t.task ≡ task = cc in
      ap (λ d. digest_eq d task && is_wanted wanted t.result) one ∙ (ap (λ c. c && is_wanted wanted t.result) (digest_self task) ∙ wants t trust)

  tried_each : (o : Option Digest) → task_now b k ≡ o → (t : Trace) (v : Value) → Has kept t → task_now b k ≡ Some t.task → trusted t → K.stored t.result ≡ Some v → Has (checks_now o wanted vs k ts) (check_of k t.links v)
  tried_each None now t v has of trust stored = (let never : None ≡ Some t.task = sym now ∙ of in cc)
  tried_each (Some task) now t v has of trust stored = elim (traces_only Verifying k ts [] t (subst (λ xs. Has xs t) traces has)) [
    | inl (there, key) ↦ collected_each task wanted vs k ts t v there key (may task now t of trust) (ap (λ f. f t.result) (sym values) ∙ stored)
    | inr never ↦ absurd never
  ]

-- for both kinds of traces that link needs
pub tried_verifying : (K : SomeKept) (b : Book) (k : List ℕ) (wanted : Option Digest) (vs : List Value) (ts : List Trace) → K.traces Verifying k ≡ traces_in Verifying k ts [] → K.stored ≡ first_value vs
    → ((t : Trace) → is_wanted wanted t.result ≡ true → IsTrusted Verifying K k t) → ((t : Trace) → IsTrusted Verifying K k t → is_wanted wanted t.result ≡ true) → AreTried Verifying K b k (checks_now (task_now b k) wanted vs k ts)
tried_verifying K b k wanted vs ts traces values trusts wants = record {
  only = λ c has.
      let i = tried_only K b k wanted vs ts (K.traces Verifying k) (IsTrusted Verifying K k) traces values trusts wants (task_now b k) refl c has in
      record { trace = i.trace; kept = i.has; task = i.task; trusted = i.trusts; value = i.value; stored = i.stored; is = i.is };
  each = λ t v has of trust stored. tried_each K b k wanted vs ts (K.traces Verifying k) (IsTrusted Verifying K k) traces values trusts wants (task_now b k) refl t v has of trust stored;
}

pub tried_constructive : (K : SomeKept) (b : Book) (k : List ℕ) (vs : List Value) (ts : List Trace) → K.traces Constructive k ≡ traces_in Constructive k ts [] → K.stored ≡ first_value vs → AreTried Constructive K b k (checks_now (task_now b k) None vs k ts)
tried_constructive K b k vs ts traces values = record {
  only = λ c has.
      let i = tried_only K b k None vs ts (K.traces Constructive k) (λ t. Unit {0}) traces values (λ t wanted. tt) (λ t trust. refl) (task_now b k) refl c has in
      record { trace = i.trace; kept = i.has; task = i.task; trusted = tt; value = i.value; stored = i.stored; is = i.is };
  each = λ t v has of trust stored. tried_each K b k None vs ts (K.traces Constructive k) (λ t. Unit {0}) traces values (λ t wanted. tt) (λ t trust. refl) (task_now b k) refl t v has of tt stored;
}

-- a job that holds what the task of a rule is made of is at its start
pub recipe_start : (b : Book) (k : List ℕ) (cs : List Checking) (r : Recipe) (p : Tries) → left_of p ≡ tries cs (task_left r.key (asks_in r)) → IsRecipeOf b k r → IsStart b k cs p
recipe_start b k cs r p left of = record {
  formula = formula_in r;
  is_rule = of.is_rule;
  left = left ∙ ap (λ j. tries cs (task_left j (asks_in r))) of.key ∙ ap (λ q. tries cs (task_left k (asks q (formula_in r)))) of.kind;
}
