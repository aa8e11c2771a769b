-- Behind the batches of a build whose targets all have clean values, each rule that they reach is kept.
use Rattle.std.proofs.Common.{◌≡◌, ℕ, List, [], ◌∷◌, ◌++◌}
use Rattle.carte_value.specs.Truths.{Among}
use Rattle.carte_book.specs.Book.{Book}
use Rattle.carte_book.specs.Needs.{IsRule, Reaches, target}
use Rattle.carte_book.specs.Reason.{IsClean, AllClean}
use Rattle.carte_record.specs.declared.batch.Batch.{Batch}
use Rattle.carte_record.specs.declared.way.Way.TheVariants.{Deep}
use Rattle.carte_record.specs.Folds.{apply}
use Rattle.carte_record.specs.Kept.{SomeKept}
use Rattle.carte_sound.specs.Sound.{IsSound}
use Rattle.carte_sound.specs.Base.{HasDistinctDigests}
use Rattle.carte_sound.specs.Held.{How, tracing}
use Rattle.carte_sound.specs.Results.{IsKeptNow}
use Rattle.carte_sound.specs.Treated as treated
use Rattle.carte_sound.specs.Treated.{IsTreated, IsTreatedRestarting, IsDoneInOrder, IsDoneRestarting, IsDoneSuspending}
use Rattle.carte_sound.specs.LeadsTo.{chain_stays, chain_behind, LeadsInOrder, LeadsRestarting, LeadsSuspending}
use Rattle.carte_sound.proofs.Reached.{reached_clean, reached_kept}
use Rattle.carte_sound.proofs.Leading.{HasLeft, behind_once, brings_left, left_fresh, left_kept, left_relied}

target_clean : (b : Book) (targets : List (List ℕ)) → AllClean b targets → (k : List ℕ) → Among targets k → IsClean b k
target_clean b targets all k among = reached_clean b targets all k (target among)

abbrev pub KeepsReached : SomeKept → Book → List (List ℕ) → Type 0
KeepsReached L b targets = (k : List ℕ) → Reaches b targets k → IsRule b k → IsKeptNow L b k

-- by whatever batches
module _ (h : How) (K : SomeKept) (H : List Book) (b : Book) (targets : List (List ℕ)) (L : SomeKept) (sound : IsSound K H) (distinct : HasDistinctDigests (H ++ b ∷ [])) (all : AllClean b targets) where
  pub ordered_reached : HasLeft h (λ M j. IsDoneInOrder b targets j) chain_stays K b L → KeepsReached L b targets
  ordered_reached r k reached is_rule = left_kept h (λ M j. IsDoneInOrder b targets j) chain_stays K H b L sound distinct r k ((is_rule, reached), reached_clean b targets all k reached)

  pub suspended_reached : ¬ (h ≡ tracing Deep) → HasLeft h (λ M j. IsDoneSuspending h M b targets j) chain_stays K b L → KeepsReached L b targets
  suspended_reached shallow r k reached is_rule =
      reached_kept L b (H ++ b ∷ []) targets
      (left_relied h (λ M j. IsDoneSuspending h M b targets j) chain_stays K H b L sound distinct (λ ks old once before. before) r)
      (λ j among is. left_fresh h (λ M i. IsDoneSuspending h M b targets i) chain_stays K H b L sound distinct r shallow j (treated.IsTreated.target among is, target_clean b targets all j among))
      k reached is_rule

  pub restarted_reached : ¬ (h ≡ tracing Deep) → HasLeft h (λ M j. IsDoneRestarting h M b targets j) chain_behind K b L → KeepsReached L b targets
  restarted_reached shallow r k reached is_rule =
      reached_kept L b (H ++ b ∷ []) targets
      (left_relied h (λ M j. IsDoneRestarting h M b targets j) chain_behind K H b L sound distinct behind_once r)
      (λ j among is. left_fresh h (λ M i. IsDoneRestarting h M b targets i) chain_behind K H b L sound distinct r shallow j (treated.IsTreatedRestarting.target among is, target_clean b targets all j among))
      k reached is_rule

-- by one
pub ordered_keeps : (h : How) (K : SomeKept) (H : List Book) (b : Book) (targets : List (List ℕ)) (B : Batch) → IsSound K H → HasDistinctDigests (H ++ b ∷ []) → LeadsInOrder h K b targets B → AllClean b targets → KeepsReached (apply B K) b targets
ordered_keeps h K H b targets B sound distinct leads all = ordered_reached h K H b targets (apply B K) sound distinct all (brings_left h (λ M j. IsDoneInOrder b targets j) chain_stays K b B leads)

pub suspended_keeps : (h : How) (K : SomeKept) (H : List Book) (b : Book) (targets : List (List ℕ)) (B : Batch) → ¬ (h ≡ tracing Deep) → IsSound K H → HasDistinctDigests (H ++ b ∷ []) → LeadsSuspending h K b targets B → AllClean b targets → KeepsReached (apply B K) b targets
suspended_keeps h K H b targets B shallow sound distinct leads all = suspended_reached h K H b targets (apply B K) sound distinct all shallow (brings_left h (λ M j. IsDoneSuspending h M b targets j) chain_stays K b B leads)

pub restarted_keeps : (h : How) (K : SomeKept) (H : List Book) (b : Book) (targets : List (List ℕ)) (B : Batch) → ¬ (h ≡ tracing Deep) → IsSound K H → HasDistinctDigests (H ++ b ∷ []) → LeadsRestarting h K b targets B → AllClean b targets → KeepsReached (apply B K) b targets
restarted_keeps h K H b targets B shallow sound distinct leads all = restarted_reached h K H b targets (apply B K) sound distinct all shallow (brings_left h (λ M j. IsDoneRestarting h M b targets j) chain_behind K b B leads)
