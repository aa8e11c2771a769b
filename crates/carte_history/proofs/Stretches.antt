-- Commits one after another as steps: the images stand, and the calls are counted.
use Rattle.std.proofs.Common.{◌≡◌, ℕ, ◌+◌, ◌<◌, ◌≤◌, Bool, true, false, List, [], ◌∷◌, ◌++◌, Ok, Err, refl, sym, ◌∙◌, ap, subst, inl, arith}
use Rattle.carte_io.specs.Disk.{Story}
use Rattle.carte_io.specs.Stations.{StepsThrough, calls_in, last_of}
use Rattle.carte_io.proofs.Acknowledged.{AreMade, calls_in-append, last_of-append}
use Rattle.carte_record.specs.declared.batch.Batch.{Batch}
use Rattle.carte_state.specs.Around.{OverDisk}
use Rattle.carte_state.specs.Folding.{Keeps}
use Rattle.carte_state.specs.States.{IsKeptOn, Stand, any_in}
use Rattle.carte_state.specs.declared.fault.ApplyFault.{ApplyFault}
use Rattle.carte_state.specs.declared.fault.ApplyFault.TheVariants.{DiskFault, Full, NoMemory}
use Rattle.carte_engine.specs.Committing.{Commits, HasPassed, PutsAll, StopsAt, behind, is_first, steps_once, steps_put, steps_stopped, until}
use Rattle.carte_engine.proofs.Committing.{commit_limit, has_put, once_calls, once_last, once_made, once_passed, once_through, once_well}
use Rattle.carte_engine.proofs.Several.{puts_limit, puts_rest}
use Rattle.carte_engine.proofs.Steps.{EndsWell, both_calls, both_made, both_through, both_well, none_through}
use Rattle.carte_history.specs.Steps.{Steps}
use Rattle.carte_state.specs.Versions.{AnyKept}

-- from what is kept to what is kept then, by steps all of which were made
pub record IsStretch (limit : ℕ) (K L : AnyKept) (steps : Steps) (old new : Story) : Type 0 where
  pub through : StepsThrough (Keeps limit) K steps old new
  pub calls : new.now.passed ≡ old.now.passed + calls_in steps
  pub made : AreMade steps
  pub well : EndsWell steps old new
  pub last : last_of K steps ≡ L

-- so many calls passed, or fewer, where the disk failed
abbrev pub Passes : ApplyFault → ℕ → ℕ → ℕ → Type 0
Passes DiskFault calls before after = after < before + calls
Passes (Full needed limit) calls before after = after ≡ before + calls
Passes NoMemory calls before after = after ≡ before + calls

-- from what is kept on, by steps the last of which was not made, for this reason
pub record IsCut (limit : ℕ) (K : AnyKept) (steps : Steps) (fault : ApplyFault) (old new : Story) : Type 0 where
  pub through : StepsThrough (Keeps limit) K steps old new
  pub later : old.now.passed ≤ new.now.passed
  pub passes : Passes fault (calls_in steps) old.now.passed new.now.passed
  pub made : AreMade steps
  pub well : EndsWell steps old new

pub stretch_none : (s : Stand) (old new : Story) → new ≡ old → IsKeptOn s old → IsStretch s.journal.limit (any_in s) (any_in s) [] old new
stretch_none s old new same on = record {
  through = none_through s old new same on;
  calls = omega (arith, ap (λ (u : Story). u.now.passed) same);
  made = tt;
  well = inl (refl, same);
  last = refl;
}

pub stretch_then : (limit : ℕ) (K L M : AnyKept) (bs cs : Steps) (s mid t : Story) → IsStretch limit K L bs s mid → IsStretch limit L M cs mid t → IsStretch limit K M (bs ++ cs) s t
stretch_then limit K L M bs cs s mid t one two = record {
  through = both_through (Keeps limit) K bs cs s mid t one.through one.calls two.well two.made (subst (λ X. StepsThrough (Keeps limit) X cs mid t) (sym one.last) two.through);
  calls = both_calls bs cs s.now.passed mid.now.passed t.now.passed one.calls two.calls;
  made = both_made bs cs one.made two.made;
  well = both_well bs cs s mid t one.well two.well;
  last = last_of-append K bs cs ∙ (ap (λ X. last_of X cs) one.last ∙ two.last);
}

passes_behind : (fault : ApplyFault) (bs cs : Steps) (before between after : ℕ) → between ≡ before + calls_in bs → Passes fault (calls_in cs) between after → Passes fault (calls_in (bs ++ cs)) before after
passes_behind DiskFault bs cs before between after made passes = omega (arith, made, passes, calls_in-append bs cs)
passes_behind (Full needed limit) bs cs before between after made passes = omega (arith, made, passes, calls_in-append bs cs)
passes_behind NoMemory bs cs before between after made passes = omega (arith, made, passes, calls_in-append bs cs)

pub cut_then : (limit : ℕ) (K L : AnyKept) (bs cs : Steps) (fault : ApplyFault) (s mid t : Story) → IsStretch limit K L bs s mid → IsCut limit L cs fault mid t → IsCut limit K (bs ++ cs) fault s t
cut_then limit K L bs cs fault s mid t one two = record {
  through = both_through (Keeps limit) K bs cs s mid t one.through one.calls two.well two.made (subst (λ X. StepsThrough (Keeps limit) X cs mid t) (sym one.last) two.through);
  later = omega (arith, one.calls, two.later);
  passes = passes_behind fault bs cs s.now.passed mid.now.passed t.now.passed one.calls two.passes;
  made = both_made bs cs one.made two.made;
  well = both_well bs cs s mid t one.well two.well;
}

pub passes_of : (d : OverDisk) (between : Story) (steps : Steps) (fault : ApplyFault) → HasPassed d between steps fault → Passes fault (calls_in steps) d.old.now.passed d.new.now.passed
passes_of d between steps DiskFault passed = passed.1
passes_of d between steps (Full needed limit) passed = passed
passes_of d between steps NoMemory passed = passed

later_of : (d : OverDisk) (between : Story) (steps : Steps) (fault : ApplyFault) → d.old.now.passed ≤ between.now.passed → HasPassed d between steps fault → d.old.now.passed ≤ d.new.now.passed
later_of d between steps DiskFault begun passed = omega (arith, begun, passed.0)
later_of d between steps (Full needed limit) begun passed = omega (arith, passed)
later_of d between steps NoMemory begun passed = omega (arith, passed)

-- ---- one batch

module _ (first : Bool) (d : OverDisk) (old new : Stand) (B : Batch) (told : d.tells) (on : IsKeptOn old d.old) where
  once_stretch : (commits : Commits first d old new B (Ok tt)) → IsStretch old.journal.limit (any_in old) (any_in new) (steps_once first d old new B (Ok tt) commits) d.old d.new
  once_stretch commits = record {
    through = once_through first d old new B (Ok tt) commits told on;
    calls = once_calls first d old new B commits told;
    made = once_made first d old new B (Ok tt) commits;
    well = once_well first d old new B (Ok tt) commits told;
    last = once_last first d old new B commits;
  }

  once_cut : (fault : ApplyFault) (commits : Commits first d old new B (Err fault)) → IsCut old.journal.limit (any_in old) (steps_once first d old new B (Err fault) commits) fault d.old d.new
  once_cut fault commits =
      let steps = steps_once first d old new B (Err fault) commits in
      let passed = once_passed first d old new B fault commits told in
      record {
        through = once_through first d old new B (Err fault) commits told on;
        later = later_of d d.old steps fault (omega arith) passed;
        passes = passes_of d d.old steps fault passed;
        made = once_made first d old new B (Err fault) commits;
        well = once_well first d old new B (Err fault) commits told;
      }

-- ---- several of them

pub puts_stretch : (first : Bool) (d : OverDisk) (old : Stand) (Bs : List Batch) (new : Stand) (puts : PutsAll first d old Bs new) → d.tells → IsKeptOn old d.old
    → IsStretch old.journal.limit (any_in old) (any_in new) (steps_put first d old Bs new puts) d.old d.new
puts_stretch first d old [] new puts told on =
    subst (λ (s : Stand). IsStretch old.journal.limit (any_in old) (any_in s) [] d.old d.new) (sym puts.0) (stretch_none old d.old d.new puts.1 on)
puts_stretch first d old (B ∷ Bs) new (mid, between, commits, puts) told on =
    let e = until d between in
    let front = steps_once first e old mid B (Ok tt) commits in
    let back = steps_put false (behind d between) mid Bs new puts in
    let here = puts_stretch false (behind d between) mid Bs new puts told ((has_put first e old mid B commits).rest told on) in
    let there = subst (λ limit. IsStretch limit (any_in mid) (any_in new) back between d.new) (commit_limit first e old mid B (Ok tt) commits) here in
    stretch_then old.journal.limit (any_in old) (any_in mid) (any_in new) front back d.old between d.new (once_stretch first e old mid B told on commits) there

pub stops_cut : (d : OverDisk) (old : Stand) (Bs : List Batch) (new : Stand) (fault : ApplyFault) (stops : StopsAt d old Bs new fault) → d.tells → IsKeptOn old d.old
    → IsCut old.journal.limit (any_in old) (steps_stopped d old Bs new fault stops) fault d.old d.new
stops_cut d old Bs new fault stops told on =
    let e = until d stops.between in
    let f = behind d stops.between in
    let front = steps_put true e old stops.front stops.mid stops.puts in
    let back = steps_once (is_first stops.front) f stops.mid new stops.batch (Err fault) stops.stops in
    let here = once_cut (is_first stops.front) f stops.mid new stops.batch told (puts_rest true e old stops.front stops.mid stops.puts told on) fault stops.stops in
    let there = subst (λ limit. IsCut limit (any_in stops.mid) back fault stops.between d.new) (puts_limit true e old stops.front stops.mid stops.puts) here in
    cut_then old.journal.limit (any_in old) (any_in stops.mid) front back fault d.old stops.between d.new (puts_stretch true e old stops.front stops.mid stops.puts told on) there
