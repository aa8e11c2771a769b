-- What a build would do, under a history that what is kept is sound for.
use Rattle.std.proofs.Common.{◌≡◌, ℕ, List, [], ◌∷◌, ◌++◌, Result, Ok, Err, sym, subst}
use Rattle.std.specs.Prelude.{IfOk}
use Rattle.carte_book.specs.Book.{Book}
use Rattle.carte_record.specs.Kept.{SomeKept}
use Rattle.carte_mark.specs.declared.base.Begun.{Begun}
use Rattle.carte_mark.specs.Bases.{BeginsWith, beginning_of}
use Rattle.carte_sound.specs.Base.{HasDistinctDigests}
use Rattle.carte_sound.specs.Begun.{begin}
use Rattle.carte_sound.specs.Held.{How}
use Rattle.carte_sound.specs.Sound.{IsSound}
use Rattle.carte_rebuild.specs.declared.work.WorkEnd.{WorkEnd}
use Rattle.carte_rebuild.specs.declared.work.WorkEnd.TheVariants.{All, Refused}
use Rattle.carte_rebuild.specs.Ends.{EndsSuspending}
use Rattle.carte_state.specs.States.{Stand, any_in}
use Rattle.carte_engine.specs.Previews.{IsForeseen}
use Rattle.carte_engine.specs.Versions.{IsSoundAny, kept_for}
use Rattle.carte_engine.specs.Working.{StandsOn, base_of}
use Rattle.carte_engine.specs.declared.basis.Basis.{Basis}
use Rattle.carte_engine.proofs.Planning.{given}
use Rattle.carte_engine.proofs.Raising.{distinct_more, sound_for}

module _ (h : How) (K : SomeKept) (b : Book) (targets : List (List ℕ)) (x : Begun) (M : SomeKept) (begins : BeginsWith K b x M) (H : List Book) (sound : IsSound K H) (distinct : HasDistinctDigests (H ++ b ∷ [])) where
  foreseen : (end : WorkEnd) → EndsSuspending h (begin K (beginning_of x)) b targets end → IsForeseen h K b targets end
  foreseen (All w) ends =
      let worked = ends.1 (given h K b targets x M begins H sound distinct) in
      record { begun = beginning_of x; begins = begins.begun; work = worked.1; none_given_up = worked.2; clean = worked.0 }
  foreseen (Refused w reason) ends = (ends.1 (given h K b targets x M begins H sound distinct)).0

  foresees : {E : Type 0} (r : Result WorkEnd E) → IfOk r (EndsSuspending h M b targets) → IfOk r (IsForeseen h K b targets)
  foresees (Ok end) ends = foreseen end (subst (λ L. EndsSuspending h L b targets end) begins.base ends)
  foresees (Err e) ends = tt

-- over what a build works over
pub foresees_on : {E : Type 0} (h : How) (b : Book) (targets : List (List ℕ)) (s t : Stand) (g : Basis) (M : SomeKept) → StandsOn b s t g → M ≡ base_of g t → (H : List Book) → IsSoundAny (any_in s) H → HasDistinctDigests (H ++ b ∷ [])
    → (r : Result WorkEnd E) → IfOk r (EndsSuspending h M b targets) → IfOk r (IsForeseen h (kept_for (any_in s) b) b targets)
foresees_on h b targets s t g M on is H sound distinct r ends =
    foresees h (kept_for (any_in s) b) b targets g.begun M (subst (BeginsWith (kept_for (any_in s) b) b g.begun) (sym is) on.begins)
    (H ++ b ∷ []) (sound_for (any_in s) H b sound distinct) (distinct_more H b distinct) r ends
