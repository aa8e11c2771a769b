-- Laws of writes over a settled disk and then a sync, for callers that write.
use Rattle.std.proofs.Common.{◌≡◌, ℕ, ◌+◌, ◌<◌, ◌≤◌, List, [], ◌∷◌, length, Result, Ok, Err, OnOk, OnErr, arith, refl, sym, ◌∙◌, ap, subst, inl, inr}
use Rattle.carte_io.specs.Disk.{FailsToSync, FailsToWrite, IsImage, IsSettled, IsTorn, Leaves, Moment, Story, Throughout, did_sync, moments, put_at, range_of, wrote, written_at}
use Rattle.carte_io.specs.Stations.{IsMidway}
use Rattle.carte_io.proofs.Images.{settled_image, throughout_more, throughout_none, throughout_one, throughout_then, torn_more}

module _ (s : Story) where
  -- these ranges are torn, and at most so many calls passed since s
  pub record IsOnTheWay (ranges : List (ℕ × ℕ)) (count : ℕ) (m : Moment) : Type 0 where
    pub torn : Leaves (IsTorn ranges s.now.reads) m
    pub few : m.passed ≤ s.now.passed + count

  -- these ranges were written by so many calls since s, at which all was synced
  pub record Writing (ranges : List (ℕ × ℕ)) (count : ℕ) (t : Story) : Type 0 where
    pub so_far : Throughout s t (IsOnTheWay ranges count)
    pub synced : t.now.synced ≡ s.now.reads
    pub written : t.now.written ≡ ranges
    pub passed : t.now.passed ≡ s.now.passed + count

  -- an image now is the old file, torn in these ranges
  torn_now : (ranges : List (ℕ × ℕ)) (m : Moment) → m.synced ≡ s.now.reads → m.written ≡ ranges → Leaves (IsTorn ranges s.now.reads) m
  torn_now ranges m synced written c image =
      subst (λ old. IsTorn ranges old c) synced (subst (λ rs. IsTorn rs m.synced c) written image)

  pub started : IsSettled s.now → Writing [] 0 s
  started settled = record {
    so_far = throughout_none s s _ refl (record { torn = torn_now [] s.now settled.synced settled.written; few = omega arith });
    synced = settled.synced;
    written = settled.written;
    passed = omega arith;
  }

  wider : (range : ℕ × ℕ) (ranges : List (ℕ × ℕ)) (count more : ℕ) (m : Moment) → count ≤ more → IsOnTheWay ranges count m → IsOnTheWay (range ∷ ranges) more m
  wider range ranges count more m le on = record {
    torn = λ c image. torn_more range ranges s.now.reads c (on.torn c image);
    few = omega (arith, on.few);
  }

  -- one moment more, which has this range too
  wrote_some : (at n : ℕ) (ranges : List (ℕ × ℕ)) (count calls : ℕ) (t u : Story) (reads : List ℕ) → Writing ranges count t
      → moments u ≡ written_at t.now calls at n reads ∷ moments t → u.most ≡ t.most → Throughout s u (IsOnTheWay ((at, at + n) ∷ ranges) (count + calls))
  wrote_some at n ranges count calls t u reads so is most =
      let on : Throughout s t (IsOnTheWay ((at, at + n) ∷ ranges) (count + calls)) =
      throughout_more s t _ _ (λ m. wider (at, at + n) ranges count (count + calls) m (omega arith)) so.so_far in
      throughout_then s t u _ on
      (throughout_one t u _ (written_at t.now calls at n reads) is most
      (record {
        torn = λ c image. torn_more (at, at + n) ranges s.now.reads c (torn_now ranges t.now so.synced so.written c image);
        few = omega (arith, so.passed);
      })
      (record {
        torn = torn_now ((at, at + n) ∷ ranges) (written_at t.now calls at n reads) so.synced (ap (λ rs. (at, at + n) ∷ rs) so.written);
        few = omega (arith, so.passed);
      }))

  pub goes_on : (at : ℕ) (piece : List ℕ) (ranges : List (ℕ × ℕ)) (count : ℕ) (t u : Story) → Writing ranges count t → u ≡ wrote at piece t
      → Writing ((at, at + length piece) ∷ ranges) (count + 1) u
  goes_on at piece ranges count t u so is = record {
    so_far = wrote_some at (length piece) ranges count 1 t u (put_at t.now.reads at piece) so (ap moments is) (ap (λ (v : Story). v.most) is);
    synced = ap (λ (v : Story). v.now.synced) is ∙ so.synced;
    written = ap (λ (v : Story). v.now.written) is ∙ ap (λ rs. (at, at + length piece) ∷ rs) so.written;
    passed = omega (arith, ap (λ (v : Story). v.now.passed) is, so.passed);
  }

  -- before the sync has passed
  unsynced : (ranges : List (ℕ × ℕ)) (count end : ℕ) (new : List ℕ) (m : Moment) → s.now.passed + count < end → IsOnTheWay ranges count m
      → IsMidway ranges s.now.reads new end m
  unsynced ranges count end new m below on = record {
    few = omega (arith, on.few);
    torn = on.torn;
    whole = λ enough. absurd (omega (arith, enough, on.few));
  }

  pub write_fails : (at n : ℕ) (ranges : List (ℕ × ℕ)) (count end : ℕ) (new : List ℕ) (t u : Story) → s.now.passed + count < end → Writing ranges count t
      → FailsToWrite at n t u → Throughout s u (IsMidway ((at, at + n) ∷ ranges) s.now.reads new end)
  write_fails at n ranges count end new t u below so (inl same) =
      subst (λ v. Throughout s v (IsMidway ((at, at + n) ∷ ranges) s.now.reads new end)) (sym same)
      (throughout_more s t _ _ (λ m on. unsynced ((at, at + n) ∷ ranges) count end new m below (wider (at, at + n) ranges count count m (omega arith) on)) so.so_far)
  write_fails at n ranges count end new t u below so (inr (reads, torn, is)) =
      throughout_more s u _ _ (λ m. unsynced ((at, at + n) ∷ ranges) (count + 0) end new m (omega arith))
      (wrote_some at n ranges count 0 t u reads so (ap moments is) (ap (λ (v : Story). v.most) is))

  pub sync_fails : (ranges : List (ℕ × ℕ)) (count end : ℕ) (new : List ℕ) (t u : Story) → s.now.passed + count < end → Writing ranges count t
      → FailsToSync t u → Throughout s u (IsMidway ranges s.now.reads new end)
  sync_fails ranges count end new t u below so (inl same) =
      subst (λ v. Throughout s v (IsMidway ranges s.now.reads new end)) (sym same)
      (throughout_more s t _ _ (λ m. unsynced ranges count end new m below) so.so_far)
  sync_fails ranges count end new t u below so (inr (reads, image, is)) =
      let torn : IsOnTheWay ranges count t.now = record { torn = torn_now ranges t.now so.synced so.written; few = omega (arith, so.passed) } in
      throughout_more s u _ _ (λ m. unsynced ranges count end new m below)
      (throughout_then s t u _ so.so_far (throughout_one t u _ (record t.now { reads = reads }) (ap moments is) (ap (λ (v : Story). v.most) is) torn
      (record { torn = torn_now ranges (record t.now { reads = reads }) so.synced so.written; few = omega (arith, so.passed) })))

  pub sync_passes : (ranges : List (ℕ × ℕ)) (count end : ℕ) (t u : Story) → end ≡ s.now.passed + count + 1 → Writing ranges count t
      → IsImage t.now t.now.reads → u ≡ did_sync t → Throughout s u (IsMidway ranges s.now.reads t.now.reads end)
  sync_passes ranges count end t u end_is so reads is =
      let below : s.now.passed + count < end = omega arith in
      let there : Leaves (λ image. image ≡ t.now.reads) (did_sync t).now =
      λ c image. settled_image (did_sync t).now c (record { synced = refl; written = refl }) image in
      let torn : IsOnTheWay ranges count t.now = record { torn = torn_now ranges t.now so.synced so.written; few = omega (arith, so.passed) } in
      throughout_then s t u _ (throughout_more s t _ _ (λ m. unsynced ranges count end t.now.reads m below) so.so_far)
      (throughout_one t u _ (did_sync t).now (ap moments is) (ap (λ (v : Story). v.most) is) (unsynced ranges count end t.now.reads t.now below torn)
      (record {
        few = omega (arith, so.passed, end_is);
        torn = λ c image. subst (IsTorn ranges s.now.reads) (sym (there c image)) (torn_now ranges t.now so.synced so.written t.now.reads reads);
        whole = λ enough. there;
      }))

-- one write over a settled disk, and then a sync, whether that passes or not
pub write_synced : {T E : Type 0} (s t u : Story) (at : ℕ) (piece : List ℕ) (result : Result T E) → IsSettled s.now → t ≡ wrote at piece s
    → IsImage t.now t.now.reads → OnOk result (u ≡ did_sync t) → OnErr result (FailsToSync t u)
    → Throughout s u (IsMidway (range_of at (length piece)) s.now.reads (put_at s.now.reads at piece) (s.now.passed + 2))
write_synced s t u at piece (Ok x) settled is image ok err =
    subst (λ new. Throughout s u (IsMidway (range_of at (length piece)) s.now.reads new (s.now.passed + 2))) (ap (λ (v : Story). v.now.reads) is)
    (sync_passes s (range_of at (length piece)) 1 (s.now.passed + 2) t u (omega arith) (goes_on s at piece [] 0 s t (started s settled) is) image ok)
write_synced s t u at piece (Err e) settled is image ok err =
    sync_fails s (range_of at (length piece)) 1 (s.now.passed + 2) _ t u (omega arith) (goes_on s at piece [] 0 s t (started s settled) is) err
