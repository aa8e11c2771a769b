use Rattle.std.proofs.Common.{◌≡◌, ◌+◌, ◌∙◌, ℕ, List, [], ◌∷◌, length, Result, Ok, Err, OnOk, OnErr, arith, ap, subst}
use Rattle.carte_io.specs.Disk.{FailsToSync, IsImage, IsSettled, Story, Throughout, did_sync, put_at, range_of, wrote}
use Rattle.carte_io.specs.Stations.{IsMidway}
use Rattle.carte_io.proofs.Images.{throughout_more, torn_more}
use Rattle.carte_io.proofs.Writes.{goes_on, started, sync_fails, sync_passes, write_fails}
use Rattle.carte_journal.specs.Ready.{IsPairWritten}
use Rattle.carte_journal.proofs.rewrite.write_pair.Goals as goal

-- one range more may be torn
wider : (range : ℕ × ℕ) (ranges : List (ℕ × ℕ)) (old new : List ℕ) (count : ℕ) (s u : Story) → Throughout s u (IsMidway ranges old new count)
    → Throughout s u (IsMidway (range ∷ ranges) old new count)
wider range ranges old new count s u = throughout_more s u _ _ (λ m mid. record {
  few = mid.few;
  torn = λ c image. torn_more range ranges old c (mid.torn c image);
  whole = mid.whole;
})

-- both were written, whether the sync passes or not
pair_synced : {T E : Type 0} (s t u v : Story) (at there : ℕ) (piece other : List ℕ) (result : Result T E) → IsSettled s.now → t ≡ wrote at piece s
    → u ≡ wrote there other t → IsImage u.now u.now.reads → OnOk result (v ≡ did_sync u) → OnErr result (FailsToSync u v) → IsPairWritten at piece there other s v
pair_synced s t u v at there piece other (Ok x) settled one two image ok err =
    let reads : u.now.reads ≡ put_at (put_at s.now.reads at piece) there other =
    ap (λ (w : Story). w.now.reads) two ∙ ap (λ (w : Story). put_at w.now.reads there other) one in
    subst (λ new. Throughout s v (IsMidway ((there, there + length other) ∷ range_of at (length piece)) s.now.reads new (s.now.passed + 3))) reads
    (sync_passes s ((there, there + length other) ∷ range_of at (length piece)) 2 (s.now.passed + 3) u v (omega arith)
    (goes_on s there other (range_of at (length piece)) 1 t u (goes_on s at piece [] 0 s t (started s settled) one) two) image ok)
pair_synced s t u v at there piece other (Err e) settled one two image ok err =
    sync_fails s ((there, there + length other) ∷ range_of at (length piece)) 2 (s.now.passed + 3) _ u v (omega arith)
    (goes_on s there other (range_of at (length piece)) 1 t u (goes_on s at piece [] 0 s t (started s settled) one) two) err

pub returns-in_err-write_at-clause-any_moment : goal.returns-in_err-write_at-clause-any_moment
returns-in_err-write_at-clause-any_moment g c told settled =
    let s = g.D.Disk.story c.args.disk.now in
    wider (c.args.there, c.args.there + length c.args.other.now) (range_of c.args.at (length c.args.piece.now)) s.now.reads _ _ s _
    (write_fails s c.args.at (length c.args.piece.now) [] 0 _ _ s _ (omega arith) (started s settled) (c.in_err-write_at.ensures.err told))

pub returns-in_err-write_at-2-clause-any_moment : goal.returns-in_err-write_at-2-clause-any_moment
returns-in_err-write_at-2-clause-any_moment g c told settled =
    let s = g.D.Disk.story c.args.disk.now in
    let t = g.D.Disk.story c.write_at.new.self in
    write_fails s c.args.there (length c.args.other.now) (range_of c.args.at (length c.args.piece.now)) 1 _ _ t _ (omega arith)
    (goes_on s c.args.at c.args.piece.now [] 0 s t (started s settled) (c.in_ok-write_at.ensures.ok told)) (c.in_err-write_at-2.ensures.err told)

pub returns-clause-any_moment : goal.returns-clause-any_moment
returns-clause-any_moment g c told settled =
    pair_synced (g.D.Disk.story c.args.disk.now) (g.D.Disk.story c.write_at.new.self) (g.D.Disk.story c.write_at-2.new.self) (g.D.Disk.story c.sync.new.self)
    c.args.at c.args.there c.args.piece.now c.args.other.now c.sync.result settled (c.in_ok-write_at.ensures.ok told) (c.in_ok-write_at-2.ensures.ok told)
    (g.met.D.Disk.is_image c.write_at-2.new.self told) (c.sync.ensures.ok told) (c.sync.ensures.err told)
