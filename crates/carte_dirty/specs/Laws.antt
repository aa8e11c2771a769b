-- What a job under dirty bits makes is right.
use Rattle.std.proofs.Common.{◌≡◌, ℕ, Bool, true, false, cond, List, [], Option, Some, None, Ok, Err, refl, ap, sym, ◌∙◌, subst, inl, inr}
use Rattle.carte_value.specs.declared.value.Value.{Value}
use Rattle.carte_value.specs.Lists.{Has}
use Rattle.carte_value.specs.Truths.{Truth, Extends}
use Rattle.carte_value.specs.Asks.{Asks}
use Rattle.carte_value.specs.Once.{Answers}
use Rattle.carte_tree.specs.Tree.{Tree}
use Rattle.carte_tree.specs.Meaning.{asks}
use Rattle.carte_book.specs.Book.{Book, rule, content, clean}
use Rattle.carte_book.specs.Needs.{needs}
use Rattle.carte_effect.specs.declared.outcome.Made.{Made}
use Rattle.carte_effect.specs.declared.outcome.Made.TheVariants.{Ran, Reused}
use Rattle.carte_effect.specs.Jobs.{Step}
use Rattle.carte_record.specs.declared.entry.Entry.{Entry}
use Rattle.carte_record.specs.Kept.{SomeKept, is_fresh}
use Rattle.carte_sound.specs.Base.{IsBase}
use Rattle.carte_sound.specs.Marks.{IsFresh}
use Rattle.carte_sound.specs.Held.{dirty}
use Rattle.carte_sound.specs.Results.{HasResult}
use Rattle.carte_sound.specs.True.{links_to}
use Rattle.carte_sound.proofs.Held.{fresh_result}
use Rattle.carte_note.specs.Right.{IsRightMade}
use Rattle.carte_rebuild.specs.declared.tries.Tries.{Tries}
use Rattle.carte_rebuild.specs.Keyed.{EndsAs, left_ends_as, task_ends_as, tries_end_as}
use Rattle.carte_rebuild.specs.Trying.{task_left, tries, Gives, FitsLeft}
use Rattle.carte_rebuild.specs.TryingFits.{known_more}
use Rattle.carte_rebuild.specs.Left.{left_of}
use Rattle.carte_rebuild.specs.Goes.{IsPart, may_ask, GoesOver}
use Rattle.carte_rebuild.proofs.TaskAlone.{alone_ran, alone_needs, alone_there, alone_before}
use Rattle.carte_rebuild.proofs.Wholes.{IsRightWhole, whole_fits, whole_goes}
use Rattle.carte_task.specs.Checking.{Checking}
use Rattle.carte_dirty.specs.Fresh.{value_of, fresh_value, check_for, fresh_checks}
use Rattle.carte_dirty.specs.Jobs.{IsDirtyJob}

module _ (K : SomeKept) (b : Book) (H : List Book) (base : IsBase K b H) (k : List ℕ) (f : Tree) (is_rule : content b k ≡ Some (rule f)) where
  abbrev task : Asks Made
  task = task_left k (asks b.kind f)

  -- a key that isn't held runs its task
  runs : ¬ (IsFresh K k) → IsRightWhole dirty K b k task
  runs stale = record {
    formula = f;
    is_rule = is_rule;
    right = λ m ends. (let r = alone_ran b k f is_rule m ends in let right : IsRightMade dirty K b k (Ran (record { key = k; value = r.0; links = links_to (clean b) (needs b k) })) = record { key = refl; value = r.1; came = (stale, refl) } in subst (IsRightMade dirty K b k) (sym r.2) right);
    needed = λ j among. alone_needs b k f is_rule j among;
    there = λ part more m ends followed. alone_there b k f is_rule part more m ends;
    before = λ part more n stops. ((λ held. absurd (stale held)), alone_before b k f is_rule part more n stops);
    may = λ j among. among;
  }

  -- a held key has its clean value, and asks for nothing
  again : (fresh : IsFresh K k) (r : HasResult K b k fresh.entry.result) → IsRightWhole dirty K b k (tries (check_for k (Some r.value)) task)
  again fresh r = record {
    formula = f;
    is_rule = is_rule;
    right = λ m ends. (
        let right : IsRightMade dirty K b k (Reused (record { key = k; value = r.value; links = [] })) = record { key = refl; value = r.clean; came = (fresh, refl) } in
        let says : Ok (Reused (record { key = k; value = r.value; links = [] })) ≡ Ok m = ends in
        let same : Reused (record { key = k; value = r.value; links = [] }) ≡ m = cc in
        subst (IsRightMade dirty K b k) same right);
    needed = λ j none. absurd none;
    there = λ part more m ends followed. (let never : false ≡ true = followed fresh in cc);
    before = λ part more n stops. (let never : Ok (Reused (record { key = k; value = r.value; links = [] })) ≡ Err n = stops in cc);
    may = λ j among. among;
  }

  by_fresh : (e : Entry) → K.entries k ≡ Some e → (x : Bool) → is_fresh e ≡ x → IsRightWhole dirty K b k (tries (check_for k (cond x (K.stored e.result) None)) task)
  by_fresh e kept false is = runs (λ fresh.
      let both : Some e ≡ Some fresh.entry = sym kept ∙ fresh.kept in
      let same : e ≡ fresh.entry = cc in
      let too : is_fresh e ≡ true = ap is_fresh same ∙ fresh.fresh in
      cc)
  by_fresh e kept true is =
      let fresh : IsFresh K k = record { entry = e; kept = kept; fresh = is } in
      let r = fresh_result K b H base k fresh in
      subst (λ o. IsRightWhole dirty K b k (tries (check_for k o) task)) (sym r.stored) (again fresh r)

  by_entry : (o : Option Entry) → K.entries k ≡ o → IsRightWhole dirty K b k (tries (check_for k (value_of K o)) task)
  by_entry None none = runs (λ fresh. (let both : None ≡ Some fresh.entry = sym none ∙ fresh.kept in cc))
  by_entry (Some e) kept = by_fresh e kept (is_fresh e) refl

  dirty_whole : IsRightWhole dirty K b k (tries (fresh_checks K k) task)
  dirty_whole = by_entry (K.entries k) refl

module _ (K : SomeKept) (b : Book) (H : List Book) (base : IsBase K b H) (t : Truth) (k : List ℕ) (p : Tries) (job : IsDirtyJob K b t k p) where
  abbrev whole_of : Asks Made
  whole_of = tries (fresh_checks K k) (task_left k (asks b.kind job.formula))

  pub dirty_fits : FitsLeft (left_of p) (clean b) k (clean b k) (needs b k) (may_ask dirty b k)
  dirty_fits = whole_fits dirty K b k whole_of (dirty_whole K b H base k job.formula job.is_rule) (left_of p) job.further (known_more t (clean b) job.further job.within job.known) job.went

  pub dirty_goes : (part : Truth) → Extends t part → IsPart b part → (a : Answers) (step : Step) (q : Tries) → Gives (left_of p) part a step (left_of q) → GoesOver dirty K b k part (λ u j. IsDirtyJob K b u k j) step q
  dirty_goes part grown is_part a step q gives =
      whole_goes dirty K b k whole_of (dirty_whole K b H base k job.formula job.is_rule) left_of (λ u j. IsDirtyJob K b u k j) t part grown is_part
      (λ c n known went. record { formula = job.formula; is_rule = job.is_rule; within = is_part.part; further = c; known = known; went = went })
      p job.further job.known job.went a step q gives

-- the check of a key has the key
check_keyed : (k : List ℕ) (o : Option Value) (c : Checking) → Has (check_for k o) c → c.earlier.key ≡ k
check_keyed k None c has = absurd has
check_keyed k (Some v) c (inl same) = ap (λ (x : Checking). x.earlier.key) same
check_keyed k (Some v) c (inr never) = absurd never

pub dirty_keyed : (K : SomeKept) (b : Book) (t : Truth) (k : List ℕ) (p : Tries) → IsDirtyJob K b t k p → EndsAs (left_of p) k
dirty_keyed K b t k p job =
    let task = task_left k (asks b.kind job.formula) in
    left_ends_as (tries (fresh_checks K k) task) (left_of p) job.further k
    (tries_end_as k (fresh_checks K k) task (check_keyed k (fresh_value K k)) (task_ends_as k (asks b.kind job.formula)))
    job.went
