-- What stands once a job was given up for a new one, and what is known then.
use Rattle.std.proofs.Common.{◌≡◌, ℕ, Bool, false, List, ◌∷◌, Some, None, Err, refl, sym, ◌∙◌, subst, inl, inr}
use Rattle.carte_value.specs.Truths.{Truth, Extends}
use Rattle.carte_value.proofs.Members.{same_or_not}
use Rattle.carte_effect.specs.declared.look.Stuck.{Stuck}
use Rattle.carte_effect.specs.Ledger.{Ledger}
use Rattle.carte_book.specs.Book.{Book}
use Rattle.carte_book.specs.Edits.{IsInput}
use Rattle.carte_book.specs.Needs.{IsRule}
use Rattle.carte_record.specs.Kept.{SomeKept}
use Rattle.carte_sound.specs.Held.{How}
use Rattle.carte_note.specs.declared.finished.Finished.{Finished}
use Rattle.carte_rebuild.specs.Goes.{AreThereBefore, may_ask}
use Rattle.carte_bench.specs.declared.slot.Slot.{Slot}
use Rattle.carte_bench.specs.declared.slot.Slot.TheVariants.{Stopped}
use Rattle.carte_bench.specs.Spots.{Spots, PutAt, HasStopped, Renews, is_done, name_of, seen_in}
use Rattle.carte_bench.specs.Steps.{FitsOf, GivesOf}
use Rattle.carte_bench.proofs.Puts.{put_here, put_apart}
use Rattle.carte_progress.specs.Progress.{IsAlong}
use Rattle.carte_progress.specs.Standing.{IsStanding, IsHalted}
use Rattle.carte_progress.proofs.Alongs.{FitAll, known_at, listed_same}
use Rattle.carte_progress.proofs.Puts.{put_twice, undone_none}
use Rattle.carte_progress.proofs.Seeing.{before_more, seen_put}
use Rattle.carte_progress.proofs.Turned.{stands_stopped, stop_waits, turn_put}
use Rattle.carte_restart.specs.Anew.{IsRenewed}

-- a key whose job was put back where it stopped
module _ {J : Type 0} (old mid new : Spots J) (k i : List ℕ) (p j : J) (x : Stuck) (put : PutAt old mid k (Stopped p (name_of x))) (same : i ≡ k) where
  stood_there : mid i ≡ Some (Stopped p (name_of x))
  stood_there = rw same (put_here old mid k (Stopped p (name_of x)) put)

  -- the new job waits for the same name
  pub renews_put : Renews mid new i j → PutAt mid new k (Stopped j (name_of x))
  renews_put (q, n, is, renewed) =
      let both : Some (Stopped p (name_of x)) ≡ Some (Stopped q n) = sym stood_there ∙ is in
      let one : n ≡ name_of x = cc in
      subst (λ m. PutAt mid new k (Stopped j m)) one (subst (λ l. PutAt mid new l (Stopped j n)) same renewed)

pub has_stopped : {J : Type 0} (old mid : Spots J) (k i : List ℕ) (p : J) (x : Stuck) → PutAt old mid k (Stopped p (name_of x)) → i ≡ k → HasStopped mid i
has_stopped old mid k i p x put same = (p, name_of x, rw same (put_here old mid k (Stopped p (name_of x)) put))

module _ {J : Type 0} (name : J → List ℕ) (started : J → Bool) (gives : GivesOf J) (begins : List ℕ → J → Type 0) (b : Book) (old new : Spots J) (r r' : Ledger) (k : List ℕ) (x : Stuck) (anew : IsRenewed name started gives begins b old new r r' k x) where
  -- the two puts are as one
  pub anew_put : PutAt old new k (Stopped anew.job (name_of x))
  anew_put = put_twice old anew.mid new k (Stopped anew.turned.after (name_of x)) (Stopped anew.job (name_of x)) (turn_put name started gives b old anew.mid r r' k (Err x) anew.turned) anew.put

  pub anew_stands : new k ≡ Some (Stopped anew.job (name_of x))
  anew_stands = put_here anew.mid new k (Stopped anew.job (name_of x)) anew.put

  pub stood_mid : anew.mid k ≡ Some (Stopped anew.turned.after (name_of x))
  stood_mid = put_here old anew.mid k (Stopped anew.turned.after (name_of x)) (turn_put name started gives b old anew.mid r r' k (Err x) anew.turned)

  module _ (rules : (q : List ℕ) (y : Slot J) → old q ≡ Some y → IsRule b q) where
    -- the name of the stop isn't done
    pub anew_undone : is_done (new (name_of x)) ≡ false
    anew_undone = elim (same_or_not k (name_of x)) [
      | inl same ↦ subst (λ i. is_done (new i) ≡ false) same (rw anew_stands refl)
      | inr other ↦ rw (put_apart anew.mid new k (Stopped anew.job (name_of x)) (name_of x) other anew.put) ((stop_waits name started gives b old anew.mid r r' k rules x anew.turned).0.1)
    ]

    -- nor is it an input
    pub anew_rule : ¬ (IsInput b (name_of x))
    anew_rule = (stop_waits name started gives b old anew.mid r r' k rules x anew.turned).1

  -- so the path is halted there
  pub anew_halts : (ks : List (List ℕ)) → IsStanding name b old (k ∷ ks) → IsHalted name b new (k ∷ ks) (name_of x)
  anew_halts ks standing = stands_stopped name b old new k ks standing anew.job (name_of x) anew_put anew.named (anew_undone standing.stands.rules) (anew_rule standing.stands.rules)

-- the same is known as where the job that stopped stands
pub along_anew : {J : Type 0} (fits : FitsOf J) (begun : Truth → List ℕ → J → Type 0) (h : How) (K : SomeKept) (b : Book) (targets : List (List ℕ)) → FitAll fits begun h b → (mid new : Spots J) (k n : List ℕ) (p j : J) (fs : List Finished) → IsAlong fits begun h K b targets mid fs → mid k ≡ Some (Stopped p n) → begun (λ q. None) k j → PutAt mid new k (Stopped j n) → IsAlong fits begun h K b targets new fs
along_anew {J = J} fits begun h K b targets fit mid new k n p j fs along stood begun_so put = record {
  known = known_at fits begun h K b targets mid new k (Stopped j n) put undone along.known (record {
    is_rule = along.known.core.rules k (Stopped p n) stood;
    fit = (let before = along.known.core.slots k (Stopped p n) stood in ((may_ask h b k, fit (λ q. None) k j begun_so), before.1, before.2));
    jobs = λ i is. (let same : j ≡ i = cc in ((λ q. None), (λ q v has. cc), subst (begun (λ q. None) k) same begun_so));
    treated = along.known.treated k (Stopped p n) stood;
    stops = λ m i is. (let same : n ≡ m = cc in let before = along.known.stops k n p stood in (before.0, subst (AreThereBefore b (seen_in b new) k) same (before_more b (seen_in b mid) (seen_in b new) k n grows before.1)));
    done = λ is. cc;
  });
  finished = listed_same fits begun h K b targets mid new k (Stopped j n) put undone fs along.finished refl;
}
  where
    undone : is_done (mid k) ≡ false
    undone = rw stood refl

    grows : Extends (seen_in b mid) (seen_in b new)
    grows = seen_put b mid new k (Stopped j n) put (undone_none (mid k) undone)
