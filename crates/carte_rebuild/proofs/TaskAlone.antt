-- A rule's task with no checks before it.
use Rattle.std.proofs.Common.{◌≡◌, ℕ, List, Some, Ok, Err, ap, sym, ◌∙◌, subst}
use Rattle.carte_value.specs.declared.value.Value.{Value}
use Rattle.carte_value.specs.Truths.{Truth, Extends, Among}
use Rattle.carte_value.specs.Asks.{run, asked, firsts}
use Rattle.carte_value.proofs.Asks.{asked_kept, asked_known}
use Rattle.carte_value.proofs.Firsts.{among_firsts}
use Rattle.carte_value.proofs.Stops.{asked_before}
use Rattle.carte_tree.specs.Tree.{Tree}
use Rattle.carte_tree.specs.Meaning.{asks}
use Rattle.carte_book.specs.Book.{Book, rule, content, clean}
use Rattle.carte_book.specs.Needs.{needs}
use Rattle.carte_effect.specs.declared.outcome.Made.{Made}
use Rattle.carte_effect.specs.declared.outcome.Made.TheVariants.{Ran}
use Rattle.carte_sound.specs.True.{links_to}
use Rattle.carte_sound.proofs.Fresh.{ends_clean}
use Rattle.carte_sound.proofs.Held.{needs_rule}
use Rattle.carte_rebuild.specs.Trying.{task_left}
use Rattle.carte_rebuild.specs.Goes.{AreThere, AreThereBefore}
use Rattle.carte_rebuild.proofs.TaskRuns.{task_ran, task_stop, task_asked}

module _ (b : Book) (k : List ℕ) (f : Tree) (is_rule : content b k ≡ Some (rule f)) where
  needs_are : needs b k ≡ firsts (asked (clean b) (asks b.kind f))
  needs_are = needs_rule b k f is_rule

  need_asked : (j : List ℕ) → Among (needs b k) j → Among (asked (clean b) (asks b.kind f)) j
  need_asked j among = among_firsts (asked (clean b) (asks b.kind f)) j (subst (λ ks. Among ks j) needs_are among)

  -- it ends with the clean value, and its links are those of the needs
  pub alone_ran : (m : Made) → run (clean b) (task_left k (asks b.kind f)) ≡ Ok m → (v : Value) × (clean b k ≡ Some v) × (m ≡ Ran (record { key = k; value = v; links = links_to (clean b) (needs b k) }))
  alone_ran m ends =
      let r = task_ran (clean b) k (asks b.kind f) m ends in
      (r.value, ends_clean b k f r.value is_rule r.ended, r.is ∙ ap (λ ks. Ran (record { key = k; value = r.value; links = links_to (clean b) ks })) (sym needs_are))

  pub alone_needs : (j : List ℕ) → Among (asked (clean b) (task_left k (asks b.kind f))) j → Among (needs b k) j
  alone_needs j among = subst (λ ks. Among ks j) (task_asked (clean b) k (asks b.kind f) ∙ sym needs_are) among

  pub alone_there : (part : Truth) → Extends part (clean b) → (m : Made) → run part (task_left k (asks b.kind f)) ≡ Ok m → AreThere b part k
  alone_there part more m ends j among =
      let r = task_ran part k (asks b.kind f) m ends in
      asked_known part (asks b.kind f) r.value j r.ended (subst (λ ks. Among ks j) (asked_kept part (clean b) (asks b.kind f) r.value more r.ended) (need_asked j among))

  pub alone_before : (part : Truth) → Extends part (clean b) → (n : List ℕ) → run part (task_left k (asks b.kind f)) ≡ Err n → AreThereBefore b part k n
  alone_before part more n stops none j among = asked_before part (clean b) (asks b.kind f) n more (task_stop part k (asks b.kind f) n stops) none j (need_asked j among)
