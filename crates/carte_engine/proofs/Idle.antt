-- Batches that bring nothing change nothing, and make no call of the disk.
use Rattle.std.proofs.Common.{◌≡◌, ℕ, Bool, true, false, not, List, [], ◌∷◌, Ok, ap, ◌∙◌, sym, inl, inr}
use Rattle.std.specs.List.{list_all}
use Rattle.std.proofs.lemmas.Bool.{and_left, and_right, and_parts, true≢false}
use Rattle.carte_record.specs.Empty.{is_empty}
use Rattle.carte_record.specs.declared.batch.Batch.{Batch}
use Rattle.carte_state.specs.Around.{OverDisk}
use Rattle.carte_state.specs.Applying.{IsStill}
use Rattle.carte_state.specs.States.{Stand}
use Rattle.carte_compact.specs.Due.{is_due, is_asked}
use Rattle.carte_compact.specs.Lengths.{region_length}
use Rattle.carte_engine.specs.Committing.{Commits, PutsAll, Readies, behind, until}

-- no rewriting is due before a batch that is empty
undue : (first : Bool) (s : Stand) (B : Batch) (live : ℕ) → is_empty B ≡ true → is_due s live B first ≡ false
undue first s B live empty = and_right _ (is_asked s live B first) (and_left (not (is_empty B)) _ (ap not empty))

module _ (first : Bool) (d : OverDisk) (old new : Stand) (B : Batch) (empty : is_empty B ≡ true) where
  abbrev Same : Type 0
  Same = (new ≡ old) × (d.new ≡ d.old) × (d.failed ≡ d.failed_before)

  ready_idle : (base : Stand) (e : OverDisk) → Readies first e old B base → (base ≡ old) × (e.new ≡ e.old)
  ready_idle base e (inl (undue, same, story, faults)) = (same, story)
  ready_idle base e (inr (due, rewrites)) =
      let live = rewrites.comes.live in
      absurd (true≢false (sym (due live.batches live.live) ∙ undue first old B (region_length live.batches) empty))

  once_idle : Commits first d old new B (Ok tt) → Same
  once_idle (inl f) =
      let ready = ready_idle f.base (until d f.between) f.ready in
      let still : IsStill (behind d f.between) f.base new = f.applies.comes.still empty in
      (still.stand ∙ ready.0, still.disk.story ∙ ready.1, still.disk.faults)
  once_idle (inr (fault, is, unready)) = absurd (let z : ⊥ = cc in z)

pub puts_idle : (first : Bool) (d : OverDisk) (old : Stand) (Bs : List Batch) (new : Stand) → list_all is_empty Bs ≡ true → PutsAll first d old Bs new
    → (new ≡ old) × (d.new ≡ d.old) × (d.failed ≡ d.failed_before)
puts_idle first d old [] new all puts = puts
puts_idle first d old (B ∷ Bs) new all (mid, between, commits, puts) =
    let both = and_parts (is_empty B) (list_all is_empty Bs) all in
    let one = once_idle first (until d between) old mid B both.0 commits in
    let more = puts_idle false (behind d between) mid Bs new both.1 puts in
    (more.0 ∙ one.0, more.1 ∙ one.1, more.2)
