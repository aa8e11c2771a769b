-- What a build that began with its first list has come to.
use Rattle.std.proofs.Common.{ℕ, List, ◌++◌, inl, inr}
use Rattle.carte_value.proofs.Members.{among_append, among_left, among_right}
use Rattle.carte_effect.specs.Ledger.{Ledger}
use Rattle.carte_book.specs.Book.{Book}
use Rattle.carte_record.specs.Kept.{SomeKept}
use Rattle.carte_sound.specs.Chains.{IsFirstList}
use Rattle.carte_sound.specs.Held.{How}
use Rattle.carte_sound.specs.Treated.{IsDoneRestarting, IsDoneSuspending, IsTreated, IsTreatedRestarting}
use Rattle.carte_rebuild.specs.declared.work.Work.{Work}
use Rattle.carte_rebuild.specs.declared.work.WorkEnd.{WorkEnd}
use Rattle.carte_rebuild.specs.declared.work.WorkEnd.TheVariants.{All, Refused}
use Rattle.carte_rebuild.specs.Ends.{EndsRestarting, IsWork, StartsAnew}
use Rattle.carte_restart.specs.Ending.{EndsFrom}
use Rattle.carte_restart.proofs.Picking.{first_only, first_each}
use Rattle.carte_restart.proofs.Right.{first_prepared, targets_prepared}

module _ (h : How) (K : SomeKept) (b : Book) (targets list : List (List ℕ)) (first : IsFirstList K b targets list) where
  -- the same is treated
  treated_to : (k : List ℕ) → IsTreated h K b (list ++ targets) k → IsTreatedRestarting h K b targets k
  treated_to k (IsTreated.target here held) = elim (among_append list targets k here) [
    | inl led ↦ IsTreatedRestarting.led (first_only K b targets list k first led).1 held
    | inr target ↦ IsTreatedRestarting.target target held
  ]
  treated_to k (IsTreated.need {j = j} treated followed need held) = IsTreatedRestarting.need (treated_to j treated) followed need held

  treated_from : (k : List ℕ) → IsTreatedRestarting h K b targets k → IsTreated h K b (list ++ targets) k
  treated_from k (IsTreatedRestarting.target among held) = IsTreated.target (among_right list targets k among) held
  treated_from k (IsTreatedRestarting.led led held) = IsTreated.target (among_left list targets k (first_each K b targets list k first (held, led))) held
  treated_from k (IsTreatedRestarting.need {j = j} treated followed need held) = IsTreated.need (treated_from j treated) followed need held

  work_to : (w : Work) → IsWork h K b (IsDoneSuspending h K b (list ++ targets)) w → IsWork h K b (IsDoneRestarting h K b targets) w
  work_to w work = record {
    right = work.right;
    order = record {
      finished = work.order.finished;
      once = work.order.once;
      only = λ k here. (let done = work.order.only k here in (treated_to k done.0, done.1));
      each = λ k (treated, is). work.order.each k (treated_from k treated, is);
    };
    ends = work.ends;
  }

  starts_to : (r : Ledger) → StartsAnew b (IsTreated h K b (list ++ targets)) r → StartsAnew b (IsTreatedRestarting h K b targets) r
  starts_to r starts = record {
    only = λ k here. treated_to k (starts.only k here);
    each = starts.each;
    others = starts.others;
  }

  pub restarted : (end : WorkEnd) → EndsFrom h K b list targets end → EndsRestarting h K b targets end
  restarted (All w) (chain, known) = (
    chain,
    λ given.
        let r = known given in (
          r.0,
          work_to w r.1,
          record {
            starts = starts_to w.runs r.2.starts;
            reached = r.2.reached;
          },
          λ right. r.3 (first_prepared K b given.0 given.1 targets r.0 right list first) (targets_prepared K b given.0 given.1 targets r.0 right list first),
        ),
  )
  restarted (Refused w reason) (chain, known) = (
    chain,
    λ given.
        let r = known given in
        (r.0, work_to w r.1, starts_to w.runs r.2),
  )
