-- What a new file keeps, before and while it is written.
use Rattle.std.proofs.Common.{◌≡◌, ℕ, ◌+◌, ◌-◌, ◌≤◌, true, false, List, [], ◌∷◌, ◌++◌, length, take, refl, ap, sym, ◌∙◌, subst, inl, inr, arith}
use Rattle.std.specs.Prelude.{if◌then◌else◌, None, Some, Option, is_some, ◌&&◌, ◌==◌, is_none}
use Rattle.std.specs.Str.{bytes_eq}
use Rattle.std.proofs.lemmas.Bool.{le-leb}
use Rattle.carte_io.specs.Disk.{CountsUp, LeavesOnly, Story, moments}
use Rattle.carte_io.specs.Stations.{IsAtOneOf, StepsThrough}
use Rattle.carte_io.proofs.Acknowledged.{steps_leave}
use Rattle.carte_io.proofs.Images.{leaves_more, leaves_none, settled_image}
use Rattle.carte_bank.specs.Roots.{Known}
use Rattle.carte_journal.specs.Frames.{Bad, BodyAt, Ends, end_of, header, reading, reading_in}
use Rattle.carte_bank.specs.Roots.{bank_at}
use Rattle.carte_journal.specs.Journals.{IsAtRest, IsRead, IsReadAs, Standing, committed, needed_for, step_of}
use Rattle.carte_journal.specs.Regions.{IsPlannedOn, IsRewritable, bytes_of, gate_of, placed_at, region_end, rewritten, step_to, written_from}
use Rattle.carte_record.specs.Empty.{brings_no_key, brings_no_trace, goes_on, is_empty}
use Rattle.carte_record.specs.declared.batch.Batch.{Batch}
use Rattle.carte_compact.proofs.Bare.{both, no_items}
use Rattle.carte_record.specs.Kept.{SomeKept, nothing_kept}
use Rattle.carte_record.proofs.Empties.{empty_same}
use Rattle.carte_record_one.specs.Kept.{SomeKeptOne, kept_one_view}
use Rattle.carte_record_one.specs.declared.kept.KeptOne.{KeptOne}
use Rattle.carte_state.specs.Folding.{IsFolded, Keeps, Makes}
use Rattle.carte_state.specs.States.{IsLoaded, Stand, any_in, any_of, kept_in}
use Rattle.carte_state.specs.Versions.{AnyKept, Fresh, InOne, InTwo, Phase, taken}
use Rattle.carte_state.specs.declared.any.AnyBatch.TheVariants.{Four}
use Rattle.carte_trim.specs.New.{IsNew, IsPlan, KeepsEither, fresh_journal}
use Rattle.carte_trim.specs.declared.plan.Plan.{Plan}

-- ---- a new file

-- a file without bodies keeps nothing
pub keeps_none : (limit : ℕ) (file : List ℕ) → reading limit file ≡ Ends 8 [] → Keeps limit (InTwo nothing_kept) file
keeps_none limit file reads = record { gate = 8; bodies = []; reads = reads; makes = record { phase = Fresh; folded = refl; kept = refl } }

module _ (limit : ℕ) (file : List ℕ) (short : length file ≤ 9) where
  new_read : IsRead (fresh_journal limit) [] file
  new_read = record {
    reads = ap (λ b. if b then Ends 8 [] else (if bytes_eq (take 8 file) header then reading_in limit file (bank_at limit file) else Bad 0)) (le-leb (length file) 9 short);
    fresh_is = sym (le-leb (length file) 9 short);
    bank_is = ap (λ b. if b then Known None else bank_at limit file) (le-leb (length file) 9 short);
    frames_is = refl;
  }

  pub new_keeps : Keeps limit (InTwo nothing_kept) file
  new_keeps = keeps_none limit file new_read.reads

pub new_rest : (limit : ℕ) (s : Story) → IsNew s → IsAtRest (fresh_journal limit) [] s
new_rest limit s is = record { read = new_read limit s.now.reads is.short; settled = is.settled }

pub new_leaves : (limit : ℕ) (L : SomeKept) (s t : Story) → IsNew s → t ≡ s → LeavesOnly s t (KeepsEither limit L)
new_leaves limit L s t is same =
    leaves_none s t (KeepsEither limit L) same
    (λ image there. inl (subst (λ file. Keeps limit (InTwo nothing_kept) file) (sym (settled_image s.now image is.settled there)) (new_keeps limit s.now.reads is.short)))

-- the journal of a file that is known to be new
pub read_fresh : (limit : ℕ) (j : Standing) (bodies : List BodyAt) → IsRead j bodies [] → j.limit ≡ limit → j.broken ≡ false → j ≡ fresh_journal limit
read_fresh limit j bodies read limit_is whole =
    let ends : Ends 8 [] ≡ Ends j.gate bodies = read.reads in
    let gate : 8 ≡ j.gate = cc in
    let none : [] ≡ bodies = cc in
    let known : Known None ≡ Known j.bank = read.bank_is in
    let bank : None ≡ j.bank = cc in
    parts (sym gate) limit_is read.fresh_is whole (sym bank) (read.frames_is ∙ ap length (sym none))
  where
    parts : j.gate ≡ 8 → j.limit ≡ limit → j.fresh ≡ true → j.broken ≡ false → j.bank ≡ None → j.frames ≡ 0 → j ≡ fresh_journal limit
    parts gate limited fresh broken bank frames i = record { gate = gate i; limit = limited i; fresh = fresh i; broken = broken i; bank = bank i; frames = frames i }

-- what was loaded is what the file keeps
loaded_keeps : (limit : ℕ) (e : Stand) (file : List ℕ) → IsLoaded e file → e.journal.limit ≡ limit → Keeps limit (any_in e) file
loaded_keeps limit e file loaded same =
    subst (λ (l : ℕ). Keeps l (any_in e) file) same (record { gate = e.journal.gate; bodies = loaded.bodies; reads = loaded.read.reads; makes = loaded.makes })

-- in the version that it is of
of_two : (o : Option KeptOne) (K : SomeKept) → is_some o ≡ false → any_of o K ≡ InTwo K
of_two None K is = refl
of_two (Some J) K is = absurd (cc)

pub two_keeps : (limit : ℕ) (e : Stand) (file : List ℕ) → is_some e.one ≡ false → IsLoaded e file → e.journal.limit ≡ limit → Keeps limit (InTwo (kept_in e)) file
two_keeps limit e file two loaded same = subst (λ A. Keeps limit A file) (of_two e.one (kept_in e) two) (loaded_keeps limit e file loaded same)

of_one : (o : Option KeptOne) (K : SomeKept) → is_some o ≡ true → (J : SomeKeptOne) × (any_of o K ≡ InOne J)
of_one None K is = absurd (cc)
of_one (Some J) K is = (kept_one_view J, refl)

pub one_keeps : (limit : ℕ) (e : Stand) (T : Type 0) (file : List ℕ) → is_some e.one ≡ true → (T → IsLoaded e file) → e.journal.limit ≡ limit → (K : SomeKeptOne) × (T → Keeps limit (InOne K) file)
one_keeps limit e T file one loaded same =
    let (K, is) = of_one e.one (kept_in e) one in
    (K, λ told. subst (λ A. Keeps limit A file) is (loaded_keeps limit e file (loaded told) same))

-- a batch that brings nothing has no entry
pub no_entries : (B : Batch) → is_empty B ≡ true → B.entries ≡ []
no_entries B is =
    let whole = both ((goes_on B.start && is_none B.chain) && brings_no_key B) (brings_no_trace B) is in
    let front = both (goes_on B.start && is_none B.chain) (brings_no_key B) whole.0 in
    let keys = both ((length B.values == 0 && length B.gone == 0) && length B.seen == 0) (length B.entries == 0 && length B.stale == 0) front.1 in
    no_items B.entries ((both (length B.entries == 0) (length B.stale == 0) keys.1).0)

-- ---- what is planned

-- where bodies stand doesn't count
folded_placed : (p q : Phase) (at : ℕ) (bodies : List BodyAt) → IsFolded p bodies q → IsFolded p (placed_at at (bytes_of bodies)) q
folded_placed p q at [] folded = folded
folded_placed p q at (body ∷ bodies) folded = (folded.0, folded.1, folded.2, folded_placed (taken folded.0 p) q (end_of at body.1) bodies folded.3)

makes_placed : (K : AnyKept) (at : ℕ) (bodies : List BodyAt) → Makes bodies K → Makes (placed_at at (bytes_of bodies)) K
makes_placed K at bodies makes = record { phase = makes.phase; folded = folded_placed Fresh makes.phase at bodies makes.folded; kept = makes.kept }

module _ (limit : ℕ) (L : SomeKept) (p : Plan) (is : IsPlan limit L p) where
  abbrev first : List BodyAt
  first = (8, p.frame) ∷ []

  first_keeps : (gate : ℕ) (file : List ℕ) → reading limit file ≡ Ends gate first → Keeps limit (InTwo nothing_kept) file
  first_keeps gate file reads = record {
    gate = gate;
    bodies = first;
    reads = reads;
    makes = record {
      phase = taken (Four is.empty) Fresh;
      folded = (Four is.empty, is.body, tt, refl);
      kept = ap InTwo (sym (empty_same is.empty nothing_kept is.brings_nothing));
    };
  }

  region_keeps : (gate : ℕ) (file : List ℕ) → reading limit file ≡ Ends gate (placed_at p.region.at (bytes_of is.region.bodies)) → Keeps limit (InTwo L) file
  region_keeps gate file reads = record {
    gate = gate;
    bodies = placed_at p.region.at (bytes_of is.region.bodies);
    reads = reads;
    makes = makes_placed (InTwo L) p.region.at is.region.bodies is.region.makes;
  }

  -- while the first frame is written
  pub begun_leaves : (old mid : Story) → CountsUp (moments mid)
      → StepsThrough (IsReadAs p.journal.limit) (Ends p.journal.gate []) (step_of p.journal [] p.frame ∷ []) old mid → LeavesOnly old mid (KeepsEither limit L)
  begun_leaves old mid up steps =
      let fresh = fresh_journal limit in
      let as_new = subst (λ (j : Standing). StepsThrough (IsReadAs j.limit) (Ends j.gate []) (step_of j [] p.frame ∷ []) old mid) is.journal steps in
      leaves_more old mid (IsAtOneOf (IsReadAs limit) (Ends 8 []) (step_of fresh [] p.frame ∷ [])) (KeepsEither limit L)
      (λ image at. inl (elim at [ inl before ↦ keeps_none limit image before | inr after ↦ first_keeps (end_of 8 p.frame) image after ]))
      (steps_leave (IsReadAs limit) (Ends 8 []) (step_of fresh [] p.frame ∷ []) old mid up as_new)

  -- while the region is
  pub turned_leaves : (k : Standing) (old new : Story) → k ≡ committed (fresh_journal limit) p.frame → CountsUp (moments new)
      → StepsThrough (IsReadAs k.limit) (Ends k.gate first) (step_to p.region (bytes_of is.region.bodies) ∷ []) old new → LeavesOnly old new (KeepsEither limit L)
  turned_leaves k old new same up steps =
      let behind = committed (fresh_journal limit) p.frame in
      let as_planned = subst (λ (j : Standing). StepsThrough (IsReadAs j.limit) (Ends j.gate first) (step_to p.region (bytes_of is.region.bodies) ∷ []) old new) same steps in
      leaves_more old new (IsAtOneOf (IsReadAs limit) (Ends (end_of 8 p.frame) first) (step_to p.region (bytes_of is.region.bodies) ∷ [])) (KeepsEither limit L)
      (λ image at. elim at [ inl before ↦ inl (first_keeps (end_of 8 p.frame) image before) | inr after ↦ inr (region_keeps (gate_of p.region.at (bytes_of is.region.bodies)) image after) ])
      (steps_leave (IsReadAs limit) (Ends (end_of 8 p.frame) first) (step_to p.region (bytes_of is.region.bodies) ∷ []) old new up as_planned)

  -- and behind it
  pub turned_keeps : (k : Standing) (new : Story) → k ≡ committed (fresh_journal limit) p.frame → IsAtRest (rewritten k p.region) (placed_at p.region.at (bytes_of is.region.bodies)) new
      → Keeps limit (InTwo L) new.now.reads
  turned_keeps k new same rest =
      let as_planned = subst (λ (j : Standing). IsAtRest (rewritten j p.region) (placed_at p.region.at (bytes_of is.region.bodies)) new) same rest in
      region_keeps (region_end p.region - 1) new.now.reads as_planned.read.reads

  pub first_rest : (k : Standing) (s : Story) → IsAtRest k ([] ++ (p.journal.gate, p.frame) ∷ []) s → IsAtRest k first s
  first_rest k s rest = subst (λ (j : Standing). IsAtRest k ((j.gate, p.frame) ∷ []) s) is.journal rest

  pub start_rest : (s : Story) → IsNew s → IsAtRest p.journal [] s
  start_rest s new = subst (λ j. IsAtRest j [] s) (sym is.journal) (new_rest limit s new)

  -- there is room for the first frame where there is for the region
  pub first_fits : region_end p.region ≤ limit → needed_for p.journal p.frame ≤ p.journal.limit
  first_fits room =
      subst (λ (j : Standing). needed_for j p.frame ≤ j.limit) (sym is.journal)
      (omega (arith, room, is.planned.gate, gate_before))
    where
      gate_before : p.region.gate + 1 ≤ region_end p.region
      gate_before = subst (λ b. p.region.gate + 1 ≤ written_from b p.region.gate p.region.at + length p.region.piece) (sym is.planned.bank) (omega arith)

  pub behind_first : (k : Standing) → k ≡ committed p.journal p.frame → k ≡ committed (fresh_journal limit) p.frame
  behind_first k same = same ∙ ap (λ j. committed j p.frame) is.journal

  pub is_planned : (k : Standing) → k ≡ committed (fresh_journal limit) p.frame → IsPlannedOn k p.region
  is_planned k same = subst (λ j. IsPlannedOn j p.region) (sym same) is.planned

  pub is_rewritable : (k : Standing) → k ≡ committed (fresh_journal limit) p.frame → IsRewritable k
  is_rewritable k same = subst IsRewritable (sym same) (record { some = omega arith; next = omega arith })
