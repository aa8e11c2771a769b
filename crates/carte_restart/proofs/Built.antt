-- What a build has come to once its list and its targets were treated.
use Rattle.std.proofs.Common.{◌≡◌, ℕ, Bool, List, [], ◌++◌, Some, None, ap, sym, ◌∙◌, subst, inl, inr}
use Rattle.std.specs.Map.{lookup}
use Rattle.carte_name.specs.Names.{name_eq}
use Rattle.carte_value.specs.Truths.{Truth, Among}
use Rattle.carte_value.proofs.Members.{among_append, among_right}
use Rattle.carte_effect.specs.Ledger.{Ledger}
use Rattle.carte_book.specs.Book.{Book}
use Rattle.carte_book.specs.Needs.{IsRule}
use Rattle.carte_book.specs.declared.reason.Reason.{Reason}
use Rattle.carte_record.specs.Kept.{SomeKept}
use Rattle.carte_sound.specs.Base.{IsBase}
use Rattle.carte_sound.specs.Held.{How}
use Rattle.carte_sound.specs.Treated.{IsTreated, IsDoneSuspending}
use Rattle.carte_note.specs.Right.{ran_in}
use Rattle.carte_rebuild.specs.declared.work.Work.{Work}
use Rattle.carte_rebuild.specs.declared.work.WorkEnd.TheVariants.{All, Refused}
use Rattle.carte_rebuild.specs.Ends.{AllEnded, GivesUp, IsNewChain, IsWork, StartsAnew}
use Rattle.carte_bench.specs.declared.slot.Slot.{Slot}
use Rattle.carte_bench.specs.Spots.{Spots}
use Rattle.carte_bench.specs.Steps.{FitsOf}
use Rattle.carte_bench.specs.Waits.{onward}
use Rattle.carte_progress.specs.Reasons.{FirstReason}
use Rattle.carte_progress.specs.Standing.{IsStanding, IsDemanded, StaysKnown}
use Rattle.carte_progress.proofs.Ending.{is_work, targets_clean, targets_reason}
use Rattle.carte_restart.specs.Ending.{EndsFrom}
use Rattle.carte_restart.specs.Going.{IsRestarting}
use Rattle.carte_restart.specs.Straight.{IsPrepared}
use Rattle.carte_restart.proofs.Ending.{gives_up, starts_anew}

-- the rules of both were demanded
pub both_demanded : {J : Type 0} (b : Book) (mid s : Spots J) (list targets : List (List ℕ)) → ((t : List ℕ) → Among list t → IsRule b t → IsDemanded mid t) → StaysKnown mid s → ((t : List ℕ) → Among targets t → IsRule b t → IsDemanded s t) → (t : List ℕ) → Among (list ++ targets) t → IsRule b t → IsDemanded s t
both_demanded b mid s list targets first stays second t here held = elim (among_append list targets t here) [
  | inl there ↦ (let one = first t there held in stays t one.0 one.1)
  | inr target ↦ second t target held
]

module _ {J : Type 0} (name : J → List ℕ) (started : J → Bool) (fits : FitsOf J) (begun : Truth → List ℕ → J → Type 0) (h : How) (K : SomeKept) (b : Book) (list targets : List (List ℕ)) (s : Spots J) (standing : IsStanding name b s []) (w w' : Work) (chain : IsNewChain K w') (finished : w'.finished ≡ w.finished) (runs : w'.runs ≡ w.runs) (demanded : (t : List ℕ) → Among (list ++ targets) t → IsRule b t → IsDemanded s t) (es : List (List ℕ × Slot J)) (are : (q : List ℕ) → s q ≡ lookup (name_eq q) es) (going : (H : List Book) → IsBase K b H → IsRestarting started fits begun h K b (list ++ targets) s w.finished w.runs) where
  work : (H : List Book) → IsBase K b H → IsWork h K b (IsDoneSuspending h K b (list ++ targets)) w'
  work H base =
      let now = going H base in
      is_work name b s standing fits begun h K (list ++ targets) w.finished now.along demanded w' finished (ap (λ (l : Ledger). l.ends) runs ∙ now.tallied.ends)

  pub built_all : FirstReason (onward b s) targets None → ((H : List Book) → IsBase K b H → IsPrepared b [] list → IsPrepared b list targets → AllEnded w.runs) → EndsFrom h K b list targets (All w')
  built_all first straight = (
    chain,
    λ (H, base).
        let now = going H base in
        let clean = targets_clean name b s standing fits begun h K (list ++ targets) w.finished now.along demanded targets (λ t here. among_right list targets t here) es are first in (
          clean,
          work H base,
          subst (λ (l : Ledger). GivesUp b targets (IsTreated h K b (list ++ targets)) l) (sym runs) (gives_up started b s (ran_in w.finished) w.runs now.tallied targets (IsTreated h K b (list ++ targets)) clean (λ k there. now.along.known.treated k there.0 there.1)),
          λ one two. subst (λ (l : Ledger). AllEnded l) (sym runs) (straight H base one two),
        ),
  )

  pub built_refused : (reason : Reason) → FirstReason (onward b s) targets (Some reason) → EndsFrom h K b list targets (Refused w' reason)
  built_refused reason first = (
    chain,
    λ (H, base).
        let now = going H base in (
          targets_reason name b s standing fits begun h K (list ++ targets) w.finished now.along demanded targets (λ t here. among_right list targets t here) es are reason first,
          work H base,
          subst (λ (l : Ledger). StartsAnew b (IsTreated h K b (list ++ targets)) l) (sym runs) (starts_anew started b s (ran_in w.finished) w.runs now.tallied (IsTreated h K b (list ++ targets)) (λ k there. now.along.known.treated k there.0 there.1)),
        ),
  )
