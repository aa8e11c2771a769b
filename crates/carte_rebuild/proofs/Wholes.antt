-- Jobs by the computation that they are of: what holds of it over each part holds of the job, however far it is.
use Rattle.std.proofs.Common.{◌≡◌, ℕ, List, ◌++◌, Some, None, Ok, Err, refl, ap, sym, ◌∙◌, subst}
use Rattle.carte_value.specs.declared.value.Value.{Value}
use Rattle.carte_value.specs.Truths.{Truth, Extends, Among}
use Rattle.carte_value.specs.Asks.{Asks, done, ask, run, asked}
use Rattle.carte_value.specs.Once.{Answers, AnswersOf, Went, names_of}
use Rattle.carte_value.proofs.Asks.{run_kept}
use Rattle.carte_value.proofs.Once.{went_on, went_run, went_asked, answers_on}
use Rattle.carte_value.proofs.Members.{among_right}
use Rattle.carte_tree.specs.Tree.{Tree}
use Rattle.carte_book.specs.Book.{Book, rule, content, clean}
use Rattle.carte_book.specs.Needs.{needs}
use Rattle.carte_effect.specs.declared.outcome.Made.{Made}
use Rattle.carte_effect.specs.declared.outcome.Made.TheVariants.{Ran, Reused}
use Rattle.carte_effect.specs.Jobs.{Step, came, stopped, no_memory, HasLinks, AreLinks}
use Rattle.carte_record.specs.Kept.{SomeKept}
use Rattle.carte_sound.specs.Held.{How, IsFollowed}
use Rattle.carte_sound.proofs.Held.{need_has_value}
use Rattle.carte_note.specs.Right.{IsRightMade}
use Rattle.carte_rebuild.specs.Trying.{Gives, FitsLeft}
use Rattle.carte_rebuild.specs.Goes.{IsPart, may_ask, AreThere, AreThereBefore, GoesOver}
use Rattle.carte_rebuild.specs.TryingFits.{known_more}
use Rattle.carte_rebuild.proofs.TaskRuns.{known_links}

-- over the clean values it makes what is right and asks for needs alone; where it ends over a part the needs that are looked into are there, and where it stops they are looked into, and there but for the one
pub record IsRightWhole (h : How) (K : SomeKept) (b : Book) (k : List ℕ) (whole : Asks Made) : Type 0 where
  pub formula : Tree
  pub is_rule : content b k ≡ Some (rule formula)
  pub right : (m : Made) → run (clean b) whole ≡ Ok m → IsRightMade h K b k m
  pub needed : (j : List ℕ) → Among (asked (clean b) whole) j → Among (needs b k) j
  pub there : (part : Truth) → Extends part (clean b) → (m : Made) → run part whole ≡ Ok m → IsFollowed h K b k → AreThere b part k
  pub before : (part : Truth) → Extends part (clean b) → (n : List ℕ) → run part whole ≡ Err n → IsFollowed h K b k × AreThereBefore b part k n
  pub may : (j : List ℕ) → Among (needs b k) j → Among (may_ask h b k) j

module _ (h : How) (K : SomeKept) (b : Book) (k : List ℕ) (whole : Asks Made) (is_whole : IsRightWhole h K b k whole) where
  right_links : (m : Made) → IsRightMade h K b k m → HasLinks (clean b) (needs b k) m
  right_links (Ran o) right = subst (AreLinks (clean b) (needs b k)) (sym right.came.1) (known_links (clean b) (needs b k) (need_has_value b k is_whole.formula o.value is_whole.is_rule right.value))
  right_links (Reused o) right = tt

  -- what is left fits
  pub whole_fits : (rest : Asks Made) (a : Answers) → AnswersOf (clean b) a → Went whole a rest → FitsLeft rest (clean b) k (clean b k) (needs b k) (may_ask h b k)
  whole_fits rest a known went = record {
    ends = λ m is. (let right = is_whole.right m (went_run (clean b) whole rest a went known ∙ is) in (right.key, right.value, right_links m right));
    needed = λ j among. is_whole.needed j (subst (λ ks. Among ks j) (sym (went_asked (clean b) whole rest a went known)) (among_right (names_of a) (asked (clean b) rest) j among));
    asks_needs = is_whole.may;
  }

  all_known : (t part : Truth) (a c : Answers) → Extends t part → AnswersOf t a → AnswersOf part c → AnswersOf part (a ++ c)
  all_known t part a c grown known of = answers_on part a c (known_more t part a grown known) of

  runs_as : (part : Truth) (m r : Asks Made) (a c : Answers) → Went whole a m → Went m c r → AnswersOf part (a ++ c) → run part whole ≡ run part r
  runs_as part m r a c went further all = went_run part whole r (a ++ c) (went_on whole m r a c went further) all

  stops_here : (part : Truth) (n : List ℕ) (go : Value → Asks Made) → part n ≡ None → run part (ask n go) ≡ Err n
  stops_here part n go none = rw none refl

  -- a drive makes what is right, or goes on
  pub whole_goes : {J : Type 0} (left : J → Asks Made) (begun : Truth → J → Type 0) (t part : Truth) → Extends t part → IsPart b part → ((a : Answers) (q : J) → AnswersOf part a → Went whole a (left q) → begun part q)
      → (p : J) (a : Answers) → AnswersOf t a → Went whole a (left p) → (c : Answers) (step : Step) (q : J) → Gives (left p) part c step (left q) → GoesOver h K b k part begun step q
  whole_goes left begun t part grown is_part again p a known went c (came m) q (of, further) =
      let ends : run part whole ≡ Ok m = runs_as part (left p) (done m) a c went further (all_known t part a c grown known of) in
      (is_whole.right m (run_kept part (clean b) whole m is_part.part ends), is_whole.there part is_part.part m ends)
  whole_goes left begun t part grown is_part again p a known went c (stopped n) q (of, further, (go, is), none) =
      let all = all_known t part a c grown known of in
      let stops : run part whole ≡ Err n = runs_as part (left p) (left q) a c went further all ∙ ap (run part) is ∙ stops_here part n go none in
      let there = is_whole.before part is_part.part n stops in
      (again (a ++ c) q all (went_on whole (left p) (left q) a c went further), there.0, there.1)
  whole_goes left begun t part grown is_part again p a known went c no_memory q (of, further) =
      again (a ++ c) q (all_known t part a c grown known of) (went_on whole (left p) (left q) a c went further)
