-- What commits make of a disk on which was found what is kept.
use Rattle.std.proofs.Common.{◌≡◌, ℕ, ◌+◌, ◌<◌, Bool, true, false, if◌then◌else◌, List, [], ◌∷◌, sym, ◌∙◌, ap, subst, inl, inr}
use Rattle.carte_io.specs.Disk.{IsSettled, LeavesOnly, Story}
use Rattle.carte_io.specs.Stations.{Step, StepsThrough, calls_in}
use Rattle.carte_io.proofs.Images.{leaves_none, settled_image}
use Rattle.carte_journal.specs.Frames.{BodyAt, Ends, Reading, end_of, reading}
use Rattle.carte_journal.specs.Journals.{Standing, committed}
use Rattle.carte_record.specs.Bodies.{spelled_batch}
use Rattle.carte_record.specs.Empty.{is_empty}
use Rattle.carte_record.specs.declared.batch.Batch.{Batch}
use Rattle.carte_state.specs.Folding.{Keeps, Makes}
use Rattle.carte_state.specs.States.{IsAfter, IsKeptOn, IsLoaded, Stand, any_in}
use Rattle.carte_state.specs.declared.fault.ApplyFault.{ApplyFault}
use Rattle.carte_state.specs.declared.fault.ApplyFault.TheVariants.{DiskFault, Full, NoMemory}
use Rattle.carte_engine.specs.Committing.{HasPassed, PutsAll, StopsAt, behind as onwards, steps_put, steps_stopped, until}
use Rattle.carte_engine.proofs.Committing.{ready_limit, ready_rest}
use Rattle.carte_engine.proofs.Several.{puts_calls, puts_kept, puts_limit, puts_rest, puts_through, stops_calls, stops_through}
use Rattle.carte_top.specs.Around.{OverDisk}
use Rattle.carte_top.specs.Found.{ArePut, EndsWith, GrowsAlong, GrowsBy, IsFoundAs, IsStopped}
use Rattle.carte_state.specs.Versions.{AnyKept}
use Rattle.carte_state.specs.Runs.{applied_to}

pub kept_on : (e : Stand) (s : Story) → IsLoaded e s.now.reads → IsSettled s.now → IsKeptOn e s
kept_on e s loaded settled = record { bodies = loaded.bodies; rest = record { read = loaded.read; settled = settled }; makes = loaded.makes }

pub keeps_loaded : (e : Stand) (file : List ℕ) → IsLoaded e file → Keeps e.journal.limit (any_in e) file
keeps_loaded e file loaded = record { gate = e.journal.gate; bodies = loaded.bodies; reads = loaded.read.reads; makes = loaded.makes }

-- ---- what the frames grow by

grown : (e f : Stand) (B : Batch) (empty : Bool) → f.journal ≡ (if empty then e.journal else committed e.journal (spelled_batch B)) → f.journal.gate ≡ (if empty then e.journal.gate else end_of e.journal.gate (spelled_batch B))
grown e f B true is = ap (λ (j : Standing). j.gate) is
grown e f B false is = ap (λ (j : Standing). j.gate) is

one_end : (r : Reading) (gate end : ℕ) (bodies more : List BodyAt) → r ≡ Ends gate bodies → r ≡ Ends end more → gate ≡ end
one_end r gate end bodies more one two = let both : Ends gate bodies ≡ Ends end more = sym one ∙ two in cc

grows_by : (limit : ℕ) (B : Batch) (e f : Stand) (s u : Story) → e.journal.limit ≡ limit → f.journal.limit ≡ e.journal.limit → IsAfter B e f → IsKeptOn e s → IsKeptOn f u → GrowsBy limit B s.now.reads u.now.reads
grows_by limit B e f s u limit_is same after was on gate bodies reads =
    let there : reading limit s.now.reads ≡ Ends e.journal.gate was.bodies = ap (λ (l : ℕ). reading l s.now.reads) (sym limit_is) ∙ was.rest.read.reads in
    let same_gate : gate ≡ e.journal.gate = one_end (reading limit s.now.reads) gate e.journal.gate bodies was.bodies reads there in
    let end : f.journal.gate ≡ (if is_empty B then gate else end_of gate (spelled_batch B)) = subst (λ (g : ℕ). f.journal.gate ≡ (if is_empty B then g else end_of g (spelled_batch B))) (sym same_gate) (grown e f B (is_empty B) after.journal) in
    (on.bodies, ap (λ (l : ℕ). reading l u.now.reads) (sym (same ∙ limit_is)) ∙ on.rest.read.reads ∙ ap (λ (g : ℕ). Ends g on.bodies) end)

grows_along : (limit : ℕ) (first : Bool) (d : OverDisk) (old : Stand) (Bs : List Batch) (new : Stand) (puts : PutsAll first d old Bs new) → d.tells → old.journal.limit ≡ limit → IsKeptOn old d.old → GrowsAlong limit first d old Bs new puts
grows_along limit first d old [] new puts told limit_is on = tt
grows_along limit first d old (B ∷ Bs) new (mid, between, inl f, puts) told limit_is on =
    let base_on = ready_rest first (until (until d between) f.between) old f.base B f.ready told on in
    let base_limit = ready_limit first (until (until d between) f.between) old f.base B f.ready ∙ limit_is in
    let mid_on = f.applies.comes.rest told base_on in (
      grows_by limit B f.base mid f.between between base_limit f.applies.limit f.applies.comes.after base_on mid_on,
      grows_along limit false (onwards d between) mid Bs new puts told (f.applies.limit ∙ base_limit) mid_on,
    )
grows_along limit first d old (B ∷ Bs) new (mid, between, inr (fault, is, unready), puts) told limit_is on = cc

-- ---- what the file keeps behind them

ends_with : (limit : ℕ) (L : AnyKept) (f : Stand) (u : Story) → f.journal.limit ≡ limit → any_in f ≡ L → IsKeptOn f u → EndsWith limit L u.now
ends_with limit L f u limit_is kept on = record {
  settled = on.rest.settled;
  keeps = record {
    gate = f.journal.gate;
    bodies = on.bodies;
    reads = ap (λ l. reading l u.now.reads) (sym limit_is) ∙ on.rest.read.reads;
    makes = subst (Makes on.bodies) kept on.makes;
  };
}

ends_behind : (limit : ℕ) (K : AnyKept) (d : OverDisk) (old : Stand) (Bs : List Batch) (new : Stand) → PutsAll true d old Bs new → old.journal.limit ≡ limit → any_in old ≡ K → d.tells → IsKeptOn old d.old → EndsWith limit (applied_to K Bs) d.new.now
ends_behind limit K d old Bs new puts limit_is keeps told on =
    ends_with limit (applied_to K Bs) new d.new (puts_limit true d old Bs new puts ∙ limit_is)
    (puts_kept true d old Bs new puts ∙ ap (λ (L : AnyKept). applied_to L Bs) keeps) (puts_rest true d old Bs new puts told on)

-- ---- from the state that was found on

module _ (limit : ℕ) (d : OverDisk) (K : AnyKept) (found : IsFoundAs limit d K) where
  pub found_on : d.tells → IsSettled d.old.now → IsKeptOn found.stand found.story
  found_on told settled = subst (λ (u : Story). IsKeptOn found.stand u) (sym (found.unwritten told)) (kept_on found.stand d.old (found.loaded told) settled)

  stands_from : (steps : List (Step AnyKept)) → d.tells → StepsThrough (Keeps found.stand.journal.limit) (any_in found.stand) steps found.story d.new
      → StepsThrough (Keeps limit) (any_in found.stand) steps d.old d.new
  stands_from steps told stands =
      subst (λ (n : ℕ). StepsThrough (Keeps n) (any_in found.stand) steps d.old d.new) found.limit_is
      (subst (λ (u : Story). StepsThrough (Keeps found.stand.journal.limit) (any_in found.stand) steps u d.new) (found.unwritten told) stands)

  calls_from : (steps : List (Step AnyKept)) → d.tells → d.new.now.passed ≡ found.story.now.passed + calls_in steps → d.new.now.passed ≡ d.old.now.passed + calls_in steps
  calls_from steps told calls = subst (λ (u : Story). d.new.now.passed ≡ u.now.passed + calls_in steps) (found.unwritten told) calls

  passed_from : (between : Story) (steps : List (Step AnyKept)) (fault : ApplyFault) → d.tells → HasPassed (onwards d found.story) between steps fault → HasPassed d between steps fault
  passed_from between steps DiskFault told passed = (passed.0, subst (λ (u : Story). d.new.now.passed < u.now.passed + calls_in steps) (found.unwritten told) passed.1)
  passed_from between steps (Full needed most) told passed = calls_from steps told passed
  passed_from between steps NoMemory told passed = calls_from steps told passed

  module _ (Bs : List Batch) (last : Stand) where
    -- all batches were put
    pub put_all : PutsAll true (onwards d found.story) found.stand Bs last → ArePut limit d K Bs
    put_all puts =
        let e = onwards d found.story in
        let steps = steps_put true e found.stand Bs last puts in
        record {
          found = found;
          last = last;
          puts = puts;
          ends = λ told settled. ends_behind limit K e found.stand Bs last puts found.limit_is found.keeps told (found_on told settled);
          grows = λ told settled. grows_along limit true e found.stand Bs last puts told found.limit_is (found_on told settled);
          calls = λ told. calls_from steps told (puts_calls true e found.stand Bs last puts told);
          stands = λ told settled. stands_from steps told (puts_through true e found.stand Bs last puts told (found_on told settled));
        }

    -- or those in front
    pub stopped_at : (fault : ApplyFault) → StopsAt (onwards d found.story) found.stand Bs last fault → IsStopped limit d K Bs fault
    stopped_at fault stops =
        let e = onwards d found.story in
        let front = until e stops.between in
        let steps = steps_stopped e found.stand Bs last fault stops in
        record {
          found = found;
          last = last;
          stops = stops;
          ends = λ told settled. ends_behind limit K front found.stand stops.front stops.mid stops.puts found.limit_is found.keeps told (found_on told settled);
          grows = λ told settled. grows_along limit true front found.stand stops.front stops.mid stops.puts told found.limit_is (found_on told settled);
          calls = λ told. passed_from stops.between steps fault told (stops_calls e found.stand Bs last fault stops told);
          stands = λ told settled. stands_from steps told (stops_through e found.stand Bs last fault stops told (found_on told settled));
        }

-- and where no call is made
pub stays_kept : (limit : ℕ) (K : AnyKept) (s u : Story) (P : List ℕ → Type 0) → Keeps limit K s.now.reads → IsSettled s.now → u ≡ s → ((file : List ℕ) → Keeps limit K file → P file) → LeavesOnly s u P
stays_kept limit K s u P keeps settled same f = leaves_none s u P same (λ file image. f file (subst (Keeps limit K) (sym (settled_image s.now file settled image)) keeps))
