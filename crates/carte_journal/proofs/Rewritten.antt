-- A rewriting as a whole.
use Rattle.std.proofs.Common.{◌≡◌, ℕ, ◌+◌, ◌-◌, ◌<◌, false, Option, Some, None, List, [], ◌∷◌, length, arith, refl, sym, ◌∙◌, ap, subst, inl, inr}
use Rattle.std.proofs.lemmas.Bool.{cases_Bool, lt-leb}
use Rattle.carte_io.specs.Disk.{Story, Throughout}
use Rattle.carte_io.specs.Stations.{StepsThrough}
use Rattle.carte_io.proofs.Acknowledged.{steps_one}
use Rattle.carte_io.proofs.Images.{throughout_none}
use Rattle.carte_bank.specs.Roots.{Known}
use Rattle.carte_bank.specs.declared.roots.Roots.{Roots}
use Rattle.carte_bank.proofs.RootLaws.{rooted}
use Rattle.carte_journal.specs.Frames.{BodyAt, Ends, bank_in, reading}
use Rattle.carte_journal.specs.Journals.{IsAtRest, IsReadAs, Standing}
use Rattle.carte_journal.specs.Ready.{IsReadyAt, TurnsTo}
use Rattle.carte_journal.specs.Regions.{IsPlannedOn, IsRegionOf, Planned, calls_to_turn, gate_of, placed_at, region_end, step_to, turned_from}
use Rattle.carte_journal.proofs.Commits.{is_new, rest_leaves, rest_ready}
use Rattle.carte_journal.proofs.Readings.{long_bank, ready_reads}
use Rattle.carte_journal.proofs.Regions.{length-placed_at}
use Rattle.carte_journal.proofs.Rewritings.{region_end_is}

turn_made : (bank : Option Roots) → 0 < calls_to_turn bank
turn_made None = omega arith
turn_made (Some roots) = elim (cases_Bool roots.both) [ inl on ↦ rw on (omega arith) | inr off ↦ rw off (omega arith) ]

module _ (j : Standing) (p : Planned) (bodies : List BodyAt) (new : List (List ℕ)) (s : Story) (rest : IsAtRest j bodies s) (planned : IsPlannedOn j p) where
  -- where nothing was done
  pub unwritten : StepsThrough (IsReadAs j.limit) (Ends j.gate bodies) (step_to p new ∷ []) s s
  unwritten = steps_one (IsReadAs j.limit) (Ends j.gate bodies) (step_to p new) s s
      (throughout_none s s _ refl (record {
        either = λ c image. inl (rest_leaves j bodies s rest c image);
        after = λ enough. absurd (omega (arith, enough, turn_made p.bank));
      }))

  -- where the region was written, or some of it
  pub rewrite_steps : (limit : ℕ) (u : Story) → limit ≡ j.limit
      → Throughout s u (TurnsTo limit p.gate bodies (gate_of p.at new) (placed_at p.at new) (s.now.passed + calls_to_turn p.bank))
      → StepsThrough (IsReadAs j.limit) (Ends j.gate bodies) (step_to p new ∷ []) s u
  rewrite_steps limit u limit_is turns =
      steps_one (IsReadAs j.limit) (Ends j.gate bodies) (step_to p new) s u
      (subst (λ l. Throughout s u (TurnsTo l j.gate bodies (gate_of p.at new) (placed_at p.at new) (s.now.passed + calls_to_turn p.bank))) limit_is
      (subst (λ g. Throughout s u (TurnsTo limit g bodies (gate_of p.at new) (placed_at p.at new) (s.now.passed + calls_to_turn p.bank))) planned.gate turns))

  module _ (some : 0 < j.frames) where
    -- a new file has no frame
    stale : j.fresh ≡ false
    stale = elim (cases_Bool j.fresh) [
      | inr off ↦ off
      | inl fresh ↦
          let e : Ends 8 [] ≡ Ends j.gate bodies = is_new j bodies s rest fresh in
          let none : [] ≡ bodies = cc in
          absurd (omega (arith, some, rest.read.frames_is, ap length none))
    ]

    pub ready_for : IsReadyAt j.limit p.bank p.gate bodies s
    ready_for =
        subst (λ b. IsReadyAt j.limit b p.gate bodies s) (sym planned.bank)
        (subst (λ n. IsReadyAt j.limit j.bank n bodies s) (sym planned.gate) (rest_ready j bodies s rest stale))

    pub rewritten_rest : (k : Standing) (u : Story) → k.gate ≡ region_end p - 1 → k.limit ≡ j.limit → k.fresh ≡ j.fresh
        → k.bank ≡ Some (turned_from p.bank p.gate p.at) → k.frames ≡ p.frames → IsRegionOf p new
        → IsReadyAt j.limit (Some (turned_from p.bank p.gate p.at)) (gate_of p.at new) (placed_at p.at new) u → IsAtRest k (placed_at p.at new) u
    rewritten_rest k u gate_is limit_is fresh_is bank_is frames_is is ready =
        let roots : Roots = turned_from p.bank p.gate p.at in
        let long : 9 < length u.now.reads = let r = rooted j.limit roots u.now.reads ready.file.bank_is in omega (arith, r.long) in
        let end : k.gate ≡ gate_of p.at new = omega (arith, gate_is, region_end_is p new is) in
        record {
          read = record {
            reads =
                ap (λ l. reading l u.now.reads) limit_is
                ∙ ready_reads j.limit (Some roots) (gate_of p.at new) (placed_at p.at new) u.now.reads ready.file
                ∙ ap (λ g. Ends g (placed_at p.at new)) (sym end);
            fresh_is = fresh_is ∙ stale ∙ sym (lt-leb (length u.now.reads) 9 long);
            bank_is = ap (λ l. bank_in l u.now.reads) limit_is ∙ long_bank j.limit u.now.reads long ∙ ready.file.bank_is ∙ ap Known (sym bank_is);
            frames_is = frames_is ∙ is.frames ∙ sym (length-placed_at p.at new);
          };
          settled = ready.settled;
        }
