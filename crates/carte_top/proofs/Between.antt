-- What a request's commits make of the run's disk, from the two scenes between which it was carried out.
use Rattle.std.proofs.Common.{◌≡◌, ℕ, ◌<◌, List, ◌++◌, Result, Ok, Err, refl, sym, ◌∙◌, subst, inl, inr}
use Rattle.carte_io.specs.Disk.{LeavesOnly, Story}
use Rattle.carte_io.proofs.Images.{leaves_more}
use Rattle.carte_book.specs.Book.{Book}
use Rattle.carte_record.specs.declared.batch.Batch.{Batch}
use Rattle.carte_state.specs.Folding.{Keeps}
use Rattle.carte_state.specs.States.{any_in}
use Rattle.carte_state.specs.declared.fault.ApplyFault.{ApplyFault}
use Rattle.carte_state.specs.declared.fault.ApplyFault.TheVariants.{Full}
use Rattle.carte_state.proofs.Folds.{keeps_one}
use Rattle.carte_engine.specs.Committing.{CommitsAll, behind as onwards}
use Rattle.carte_engine.proofs.Several.{all_leaves, full_over}
use Rattle.carte_shell.specs.Commits.{Commits as CommitsTo, Puts}
use Rattle.carte_shell.specs.Scenes.{Scene}
use Rattle.carte_shell.specs.declared.choices.Choices.{Choices}
use Rattle.carte_top.specs.Around.{OverDisk}
use Rattle.carte_top.specs.Found.{ArePut, IsFoundAs, IsStopped}
use Rattle.carte_top.specs.Running.{Opens}
use Rattle.carte_top.specs.Sound.{IsStation, StaysAt}
use Rattle.carte_top.proofs.Putting.{found_on, keeps_loaded, put_all, stays_kept, stopped_at}
use Rattle.carte_state.specs.Versions.{AnyKept}
use Rattle.carte_state.specs.Runs.{applied_to}

-- the shell was opened over the disk as it was before any other call, too
pub opened_on : (limit : ℕ) (x : Choices) (b : Book) (d : OverDisk) (m : Scene) (u : Story) (failed : ℕ) (same : Type 0) → Opens limit x b d m
    → Opens limit x b (record d { new = u; failed = failed; same = same }) m
opened_on limit x b d m u failed same opens = record {
  choices = opens.choices;
  book = opens.book;
  limit_is = opens.limit_is;
  whole = opens.whole;
  loaded = opens.loaded;
  story = opens.story;
  faults = opens.faults;
}

module _ (limit : ℕ) (x : Choices) (b : Book) (d : OverDisk) (m m' : Scene) (opens : Opens limit x b d m) (last : m'.story ≡ d.new) where
  pub found : d.tells → Keeps limit (any_in m.stand) d.old.now.reads
  found told = subst (λ (n : ℕ). Keeps n (any_in m.stand) d.old.now.reads) opens.limit_is (keeps_loaded m.stand d.old.now.reads (opens.loaded told))

  pub spared : m'.story ≡ m.story → d.tells → d.new ≡ d.old
  spared same told = sym last ∙ same ∙ opens.story told

  abbrev found_as : IsFoundAs limit d (any_in m.stand)
  found_as = record { stand = m.stand; story = m.story; unwritten = opens.story; loaded = opens.loaded; limit_is = opens.limit_is; keeps = refl }

  module _ (faults : m'.faults ≡ d.failed) (Bs : List Batch) where
    -- the disk between the two scenes is the run's, from where the state was read on
    commits_on : (result : Result (Unit {0}) ApplyFault) → CommitsTo d.tells m m' Bs result → CommitsAll (onwards d m.story) m.stand m'.stand Bs result
    commits_on result c =
        subst (λ (n : ℕ). CommitsAll (record { tells = d.tells; old = m.story; new = d.new; failed_before = d.failed_before; failed = n; same = Unit {0} }) m.stand m'.stand Bs result) faults
        (subst (λ (n : ℕ). CommitsAll (record { tells = d.tells; old = m.story; new = d.new; failed_before = n; failed = m'.faults; same = Unit {0} }) m.stand m'.stand Bs result) opens.faults
        (subst (λ (u : Story). CommitsAll (record { tells = d.tells; old = m.story; new = u; failed_before = m.faults; failed = m'.faults; same = Unit {0} }) m.stand m'.stand Bs result) last c.commits))

    pub put : Puts d.tells m m' Bs → ArePut limit d (any_in m.stand) Bs
    put puts = put_all limit d (any_in m.stand) found_as Bs m'.stand (commits_on (Ok tt) puts)

    pub stopped : (fault : ApplyFault) → CommitsTo d.tells m m' Bs (Err fault) → IsStopped limit d (any_in m.stand) Bs fault
    stopped fault c = stopped_at limit d (any_in m.stand) found_as Bs m'.stand fault (commits_on (Err fault) c)

    pub too_much : (needed most : ℕ) → CommitsTo d.tells m m' Bs (Err (Full needed most)) → (most ≡ limit) × (limit < needed)
    too_much needed most c =
        let over = full_over (onwards d m.story) m.stand m'.stand Bs needed most (commits_on (Err (Full needed most)) c) in
        let most_is : most ≡ limit = over.0 ∙ opens.limit_is in
        (most_is, subst (λ (n : ℕ). n < needed) most_is over.1)

    pub stays : (May : AnyKept → List Batch → Type 0) (result : Result (Unit {0}) ApplyFault) → CommitsTo d.tells m m' Bs result → May (any_in m.stand) Bs → StaysAt limit May d
    stays May result c may told settled L keeps =
        let K = any_in m.stand in
        let same : L ≡ K = keeps_one limit d.old.now.reads L K keeps (found told) in
        let here : LeavesOnly m.story d.new (IsStation limit May K) =
        leaves_more m.story d.new (λ file. (some rest : List Batch) × (Bs ≡ some ++ rest) × Keeps m.stand.journal.limit (applied_to K some) file) (IsStation limit May K) at
        (all_leaves (onwards d m.story) m.stand m'.stand Bs result (commits_on result c) told (found_on limit d K found_as told settled)) in
        let there : LeavesOnly d.old d.new (IsStation limit May K) = subst (λ (u : Story). LeavesOnly u d.new (IsStation limit May K)) (opens.story told) here in
        subst (λ (M : AnyKept). LeavesOnly d.old d.new (IsStation limit May M)) (sym same) there
      where
        at : (file : List ℕ) → (some rest : List Batch) × (Bs ≡ some ++ rest) × Keeps m.stand.journal.limit (applied_to (any_in m.stand) some) file → IsStation limit May (any_in m.stand) file
        at file (some, rest, all, keeps) = inr (some, rest, subst (May (any_in m.stand)) all may, subst (λ (n : ℕ). Keeps n (applied_to (any_in m.stand) some) file) opens.limit_is keeps)

pub still_at : (limit : ℕ) (d : OverDisk) (May : AnyKept → List Batch → Type 0) → (d.tells → d.new ≡ d.old) → StaysAt limit May d
still_at limit d May story told settled K keeps = stays_kept limit K d.old d.new (IsStation limit May K) keeps settled (story told) (λ file at. inl at)
