-- Which keys deep traces hold, and from one book to the next.
use Rattle.std.proofs.Common.{◌≡◌, ℕ, List, length, ◌+◌, Some, sym, subst}
use Rattle.carte_value.specs.declared.value.Value.{Value}
use Rattle.carte_value.specs.Lists.{Has}
use Rattle.carte_value.specs.Truths.{Among}
use Rattle.carte_value.proofs.Firsts.{among_firsts}
use Rattle.carte_book.specs.Book.{input, Book, content, rules_of}
use Rattle.carte_book.specs.Needs.{IsRule}
use Rattle.carte_book.specs.Task.{task_now}
use Rattle.carte_record.specs.declared.deep_trace.DeepTrace.{DeepTrace}
use Rattle.carte_record.specs.declared.way.Way.TheVariants.{Deep}
use Rattle.carte_record.specs.Kept.{SomeKept}
use Rattle.carte_sound.specs.Base.{IsBase}
use Rattle.carte_sound.specs.Begun.{Beginning, IsBeginning, begin}
use Rattle.carte_sound.specs.Beneath.{beneath_in, rules_beneath_in, beneath, rules_beneath}
use Rattle.carte_sound.specs.Held.{tracing, AreLinks, IsHeld}
use Rattle.carte_sound.specs.Marks.{present}
use Rattle.carte_sound.specs.True.{IsTraceOf}
use Rattle.carte_sound.proofs.Beneath.{beneath_input, beneath_rule}
use Rattle.carte_sound.proofs.Deep.{deep_held}
use Rattle.carte_sound.proofs.DeepRules.{deep_unchanged}
use Rattle.carte_sound.proofs.Minimal.{inputs_hold, tasks_hold}
use Rattle.carte_sound.proofs.Next.{next_held}

-- what is beneath a key is an input, or a rule
is_input : (c : Book) (k i : List ℕ) → Among (beneath c k) i → (x : Value) × (content c i ≡ Some (input x))
is_input c k i among = let rounds = length (rules_of c) + 1 in beneath_input rounds c k i (among_firsts (beneath_in rounds c k) i among)

is_rule : (c : Book) (k i : List ℕ) → Among (rules_beneath c k) i → IsRule c i
is_rule c k i among = let rounds = length (rules_of c) + 1 in beneath_rule rounds c k i (among_firsts (rules_beneath_in rounds c k) i among)

-- the rules and the inputs beneath are what they were where the trace was made
pub minimal : (K : SomeKept) (b c : Book) (k : List ℕ) (t : DeepTrace) → Has (K.traces Deep k) t → IsTraceOf Deep c k t → ((i : List ℕ) → Among (rules_beneath c k) i → task_now b i ≡ task_now c i) → ((i : List ℕ) → Among (beneath c k) i → content b i ≡ content c i) → IsHeld (tracing Deep) K b k
minimal K b c k t kept of rules same =
    let so = deep_unchanged b c k t of rules same in
    (t, record { kept = kept; task = so.0; links = so.1; trusted = tt })

module _ (K : SomeKept) (b : Book) (H : List Book) (base : IsBase K b H) (k : List ℕ) where
  -- a key stays held where the rules and the inputs beneath it stay
  cutoff : (c : Book) → ((i : List ℕ) → Among (rules_beneath b k) i → task_now c i ≡ task_now b i) → ((i : List ℕ) → Among (beneath b k) i → content c i ≡ content b i) → IsHeld (tracing Deep) K b k → IsHeld (tracing Deep) K c k
  cutoff c rules same held =
      let r = deep_held K b H base k held.0 held.1 in (
        held.0,
        record {
          kept = held.1.kept;
          task = subst (λ (x : DeepTrace). AreLinks (task_now c) x.tasks) (sym r.1) (tasks_hold c b (rules_beneath b k) (is_rule b k) rules);
          links = subst (λ (x : DeepTrace). AreLinks (present c) x.links) (sym r.1) (inputs_hold c b (beneath b k) (is_input b k) same);
          trusted = tt;
        },
      )

  -- and in the build of that book
  pub cutoff_next : (c : Book) (x : Beginning) → IsHeld (tracing Deep) K b k → IsRule c k → ((i : List ℕ) → Among (rules_beneath b k) i → task_now c i ≡ task_now b i) → ((i : List ℕ) → Among (beneath b k) i → content c i ≡ content b i) → IsBeginning K c x → IsHeld (tracing Deep) (begin K x) c k
  cutoff_next c x held rule_c rules same begins = next_held Deep K H c x base.sound begins k rule_c (cutoff c rules same held)
