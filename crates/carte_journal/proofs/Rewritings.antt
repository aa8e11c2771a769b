-- The steps of a rewriting, from a disk at rest to a disk at rest.
use Rattle.std.proofs.Common.{◌≡◌, ℕ, ◌+◌, ◌-◌, ◌<◌, ◌≤◌, ◌^◌, true, false, Bool, cond, Option, Some, None, List, [], ◌∷◌, ◌++◌, length, get_or, arith, refl, sym, ◌∙◌, ap, subst, inl, inr, length-append}
use Rattle.std.specs.Prelude.{◌==◌, nat_le}
use Rattle.std.proofs.lemmas.Bool.{cases_Bool}
use Rattle.std.proofs.lemmas.Bool.Decides.{nat_tests}
use Rattle.carte_io.specs.Disk.{IsSettled, IsTorn, Story, Throughout, did_sync, put_at, range_of, wrote}
use Rattle.carte_io.proofs.Images.{settled_image, throughout_more, throughout_none, throughout_then}
use Rattle.carte_bank.specs.Roots.{start_of}
use Rattle.carte_bank.specs.Turns.{AreInFront, first_roots, other_at, region_place, root_bytes, shut, turned}
use Rattle.carte_bank.specs.declared.roots.Roots.{Roots}
use Rattle.carte_bank.proofs.TurnLaws.{with_other}
use Rattle.carte_journal.specs.Frames.{BodyAt, reading, walk}
use Rattle.carte_journal.specs.Ready.{IsPairWritten, IsReady, IsReadyAt, IsStagedAt, IsWrittenThrough, StaysReady, TurnsTo}
use Rattle.carte_journal.specs.Regions.{IsPlaced, IsRegionOf, Planned, first_front, front_of, gate_of, placed_at, region_at, region_end, region_of, written_from}
use Rattle.carte_journal.proofs.FirstFlip.{first_either, first_ready}
use Rattle.carte_journal.proofs.Flips.{IsBeside, closed_ready, closing, either_ready, staged_is, staging, turned_ready}
use Rattle.carte_journal.proofs.Readings.{behind_torn, ready_reads}
use Rattle.carte_journal.proofs.Regions.{length-first_front, length-region_of, walk_region}

-- where a region goes in a bank
module _ (p : Planned) (roots : Roots) (bank : p.bank ≡ Some roots) (placed : IsPlaced p) where
  start_low : roots.start ≤ p.gate
  start_low = let e : start_of p.bank ≡ roots.start = ap start_of bank in omega (arith, placed.start, e)

  in_front : roots.place + 34 ≤ roots.start
  in_front = subst AreInFront bank placed.roots

  at_is : p.at ≡ region_place roots p.gate (length p.piece)
  at_is = placed.at ∙ ap (λ b. region_at b p.gate (length p.piece)) bank

  pub beside : IsBeside roots p.gate p.at (length p.piece)
  beside = elim (cases_Bool (nat_le (length p.piece) (roots.start - (roots.place + 34)))) [
    | inl on ↦
        let e : p.at ≡ roots.place + 34 = at_is ∙ rw on refl in
        let le : length p.piece ≤ roots.start - (roots.place + 34) = grind (arith, nat_tests) in
        record { behind = omega (arith, e); apart = inl (omega (arith, e, le, in_front)) }
    | inr off ↦
        let e : p.at ≡ p.gate + 1 = at_is ∙ rw off refl in
        record { behind = omega (arith, e, in_front, start_low); apart = inr e }
  ]

  pub low_place : roots.place < 2 ^ 33
  low_place = omega (arith, in_front, start_low, placed.gate)

  pub low_at : p.at < 2 ^ 64
  low_at = elim beside.apart [
    | inl front ↦ omega (arith, front, start_low, placed.gate)
    | inr back ↦ omega (arith, back, placed.gate)
  ]

-- where a region ends
end_is : (bank : Option Roots) (gate at n : ℕ) (new : List (List ℕ)) → at ≡ region_at bank gate n
    → written_from bank gate at + length (front_of bank gate ++ region_of new) ≡ gate_of at new + 1
end_is None gate at n new is =
    omega (arith, is, length-append (first_front (gate + 15)) (region_of new), length-first_front (gate + 15), length-region_of at new)
end_is (Some roots) gate at n new is = length-region_of at new

pub region_end_is : (p : Planned) (new : List (List ℕ)) → IsRegionOf p new → region_end p ≡ gate_of p.at new + 1
region_end_is p new is =
    ap (λ piece. written_from p.bank p.gate p.at + length piece) is.piece ∙ end_is p.bank p.gate p.at (length p.piece) new is.placed.at

-- nothing was done
pub ready_stays : (limit gate : ℕ) (bank : Option Roots) (bodies : List BodyAt) (s : Story) → IsReadyAt limit bank gate bodies s
    → Throughout s s (StaysReady limit gate bodies (s.now.passed + 0))
ready_stays limit gate bank bodies s ready =
    throughout_none s s _ refl (record {
      few = omega arith;
      reads = λ c image. ap (reading limit) (settled_image s.now c ready.settled image) ∙ ready_reads limit bank gate bodies s.now.reads ready.file;
    })

-- more calls are to come
pub stays_turns : (limit gate end few count : ℕ) (bodies new : List BodyAt) (s u : Story) → few < count → Throughout s u (StaysReady limit gate bodies few)
    → Throughout s u (TurnsTo limit gate bodies end new count)
stays_turns limit gate end few count bodies new s u below = throughout_more s u _ _ (λ m stays. record {
  either = λ c image. inl (stays.reads c image);
  after = λ enough. absurd (omega (arith, enough, stays.few, below));
})

-- a rewriting of a bank: the other root is closed
module _ (limit gate : ℕ) (roots : Roots) (bodies : List BodyAt) (s : Story) (ready : IsReadyAt limit (Some roots) gate bodies s) where
  closes : (u : Story) → roots.both ≡ true → IsWrittenThrough (other_at roots) (0 ∷ []) s u → Throughout s u (StaysReady limit gate bodies (s.now.passed + 2))
  closes u both = throughout_more s u _ _ (λ m mid. record {
    few = mid.few;
    reads = λ c image. ready_reads limit (Some (with_other roots (get_or c (other_at roots) 0 == 1))) gate bodies c
        (closing limit gate roots bodies s.now.reads ready.file c (mid.torn c image) both);
  })

  pub close_stays : (at : ℕ) (u : Story) → at ≡ other_at roots → roots.both ≡ true → IsWrittenThrough at (0 ∷ []) s u
      → Throughout s u (StaysReady limit gate bodies (s.now.passed + 2))
  close_stays at u at_is both written = closes u both (subst (λ n. IsWrittenThrough n (0 ∷ []) s u) at_is written)

  pub close_ready : (at : ℕ) (u : Story) → at ≡ other_at roots → roots.both ≡ true → u ≡ did_sync (wrote at (0 ∷ []) s)
      → IsReadyAt limit (Some (shut roots)) gate bodies u
  close_ready at u at_is both is =
      subst (IsReadyAt limit (Some (shut roots)) gate bodies) (sym (is ∙ ap (λ n. did_sync (wrote n (0 ∷ []) s)) at_is)) (record {
        file = closed_ready limit gate roots bodies s.now.reads ready.file both;
        settled = record { synced = refl; written = refl };
      })

  pub shut_already : roots.both ≡ false → IsReadyAt limit (Some (shut roots)) gate bodies s
  shut_already both = subst (λ b. IsReadyAt limit (Some (with_other roots b)) gate bodies s) both ready

-- its numbers and the region are written
module _ (limit : ℕ) (p : Planned) (roots : Roots) (bodies : List BodyAt) (new : List (List ℕ)) (s : Story)
    (ready : IsReadyAt limit (Some (shut roots)) p.gate bodies s) (bank : p.bank ≡ Some roots) (is : IsRegionOf p new) where
  by : IsBeside roots p.gate p.at (length p.piece)
  by = beside p roots bank is.placed

  abbrev numbers : List ℕ
  numbers = root_bytes (roots.generation + 1) p.at

  stages : (u : Story) → IsPairWritten (other_at roots + 1) numbers p.at p.piece s u → Throughout s u (StaysReady limit p.gate bodies (s.now.passed + 3))
  stages u = throughout_more s u _ _ (λ m mid. record {
    few = mid.few;
    reads = λ c image. ready_reads limit (Some (shut roots)) p.gate bodies c
        (staging limit p.gate (shut roots) bodies s.now.reads ready.file p.at (length p.piece) (record { behind = by.behind; apart = by.apart }) refl c
        (mid.torn c image));
  })

  piece_is : p.piece ≡ region_of new
  piece_is = is.piece ∙ ap (λ b. front_of b p.gate ++ region_of new) bank

  staged_then : region_end p ≤ limit → roots.generation + 1 < 2 ^ 64
      → IsStagedAt limit roots p.gate p.at (gate_of p.at new) bodies (placed_at p.at new) (did_sync (wrote p.at p.piece (wrote (other_at roots + 1) numbers s)))
  staged_then fits next =
      let end : region_end p ≡ gate_of p.at new + 1 = region_end_is p new is in
      (record {
        file = staged_is limit p.gate p.at (gate_of p.at new) roots bodies (placed_at p.at new) s.now.reads p.piece ready.file by (low_at p roots bank is.placed) next
            (omega (arith, is.placed.frames)) (omega (arith, is.placed.inside, fits))
            (λ behind. ap (λ piece. walk limit p.at 0 (piece ++ behind)) piece_is ∙ walk_region limit p.at new behind is.short (omega (arith, end, fits)));
        settled = record { synced = refl; written = refl };
      })

  -- by the values that the code writes
  module _ (at there : ℕ) (root piece : List ℕ) (u : Story) (at_is : at ≡ other_at roots + 1) (root_is : root ≡ root_bytes (roots.generation + 1) p.at)
      (there_is : there ≡ p.at) (same : piece ≡ p.piece) where
    pub stage_stays : IsPairWritten at root there piece s u → Throughout s u (StaysReady limit p.gate bodies (s.now.passed + 3))
    stage_stays written =
        stages u
        (subst (λ x. IsPairWritten x numbers p.at p.piece s u) at_is
        (subst (λ x. IsPairWritten at x p.at p.piece s u) root_is
        (subst (λ x. IsPairWritten at root x p.piece s u) there_is (subst (λ x. IsPairWritten at root there x s u) same written))))

    pub stage_ready : region_end p ≤ limit → roots.generation + 1 < 2 ^ 64 → u ≡ did_sync (wrote there piece (wrote at root s))
        → IsStagedAt limit roots p.gate p.at (gate_of p.at new) bodies (placed_at p.at new) u
    stage_ready fits next staged =
        subst (IsStagedAt limit roots p.gate p.at (gate_of p.at new) bodies (placed_at p.at new))
        (sym (staged
        ∙ ap (λ n. did_sync (wrote n piece (wrote at root s))) there_is
        ∙ ap (λ x. did_sync (wrote p.at x (wrote at root s))) same
        ∙ ap (λ n. did_sync (wrote p.at p.piece (wrote n root s))) at_is
        ∙ ap (λ x. did_sync (wrote p.at p.piece (wrote (other_at roots + 1) x s))) root_is))
        (staged_then fits next)

-- and its gate byte is opened
module _ (limit gate at end : ℕ) (roots : Roots) (bodies new : List BodyAt) (s : Story) (staged : IsStagedAt limit roots gate at end bodies new s) where
  opens : (count : ℕ) (u : Story) → count ≡ s.now.passed + 2 → IsWrittenThrough (other_at roots) (1 ∷ []) s u → Throughout s u (TurnsTo limit gate bodies end new count)
  opens count u count_is = throughout_more s u _ _ (λ m mid. record {
    either = λ c image. elim (either_ready limit gate at end roots bodies new s.now.reads staged.file c (mid.torn c image)) [
      | inl old ↦ inl (ready_reads limit (Some (shut roots)) gate bodies c old)
      | inr later ↦ inr (ready_reads limit (Some (turned roots at)) end new c later)
    ];
    after = λ enough c image.
        ap (reading limit) (mid.whole (omega (arith, enough, count_is)) c image)
        ∙ ready_reads limit (Some (turned roots at)) end new (put_at s.now.reads (other_at roots) (1 ∷ [])) (turned_ready limit gate at end roots bodies new s.now.reads staged.file);
  })

  pub open_turns : (there count : ℕ) (u : Story) → there ≡ other_at roots → count ≡ s.now.passed + 2 → IsWrittenThrough there (1 ∷ []) s u
      → Throughout s u (TurnsTo limit gate bodies end new count)
  open_turns there count u there_is count_is written = opens count u count_is (subst (λ n. IsWrittenThrough n (1 ∷ []) s u) there_is written)

  pub open_done : (there : ℕ) (u : Story) → there ≡ other_at roots → u ≡ did_sync (wrote there (1 ∷ []) s) → IsReadyAt limit (Some (turned roots at)) end new u
  open_done there u there_is is =
      subst (IsReadyAt limit (Some (turned roots at)) end new) (sym (is ∙ ap (λ n. did_sync (wrote n (1 ∷ []) s)) there_is)) (record {
        file = turned_ready limit gate at end roots bodies new s.now.reads staged.file;
        settled = record { synced = refl; written = refl };
      })

turn_calls : (both : Bool) → cond both 2 0 + 5 ≡ cond both 7 5
turn_calls true = refl
turn_calls false = refl

-- the steps of a rewriting of a bank one after another, as far as they went
module _ (limit : ℕ) (p : Planned) (roots : Roots) (bodies new : List BodyAt) (end : ℕ) (s t : Story)
    (closed : Throughout s t (StaysReady limit p.gate bodies (s.now.passed + cond roots.both 2 0))) where
  pub closed_turns : Throughout s t (TurnsTo limit p.gate bodies end new (s.now.passed + cond roots.both 7 5))
  closed_turns = stays_turns limit p.gate end _ _ bodies new s t (omega (arith, turn_calls roots.both)) closed

  module _ (made : t.now.passed ≡ s.now.passed + cond roots.both 2 0) (u : Story) (staged : Throughout t u (StaysReady limit p.gate bodies (t.now.passed + 3))) where
    pub staged_turns : Throughout s u (TurnsTo limit p.gate bodies end new (s.now.passed + cond roots.both 7 5))
    staged_turns =
        throughout_then s t u _ closed_turns (stays_turns limit p.gate end _ _ bodies new t u (omega (arith, turn_calls roots.both, made)) staged)

    pub bank_turns : (there : ℕ) (v : Story) → u.now.passed ≡ t.now.passed + 3 → IsStagedAt limit roots p.gate p.at end bodies new u → there ≡ other_at roots
        → IsWrittenThrough there (1 ∷ []) u v → Throughout s v (TurnsTo limit p.gate bodies end new (s.now.passed + cond roots.both 7 5))
    bank_turns there v more stands there_is written =
        throughout_then s u v _ staged_turns
        (open_turns limit p.gate p.at end roots bodies new u stands there _ v there_is (omega (arith, turn_calls roots.both, made, more)) written)

-- the first rewriting: all of it is written behind the closed gate byte
module _ (limit : ℕ) (p : Planned) (bodies : List BodyAt) (new : List (List ℕ)) (s : Story) (ready : IsReadyAt limit None p.gate bodies s) where
  list_stays : (piece : List ℕ) (u : Story) → IsWrittenThrough (p.gate + 1) piece s u → Throughout s u (StaysReady limit p.gate bodies (s.now.passed + 2))
  list_stays piece u = throughout_more s u _ _ (λ m mid. record {
    few = mid.few;
    reads = λ c image. behind_torn limit None p.gate bodies s.now.reads ready.file (length piece) c (mid.torn c image);
  })

  pub list_begins : (at : ℕ) (piece : List ℕ) (u : Story) → at ≡ p.gate + 1 → IsWrittenThrough at piece s u
      → Throughout s u (TurnsTo limit p.gate bodies (gate_of p.at new) (placed_at p.at new) (s.now.passed + 4))
  list_begins at piece u at_is written =
      stays_turns limit p.gate (gate_of p.at new) (s.now.passed + 2) (s.now.passed + 4) bodies (placed_at p.at new) s u (omega arith)
      (list_stays piece u (subst (λ n. IsWrittenThrough n piece s u) at_is written))

  -- and then that is opened
  module _ (bank : p.bank ≡ None) (is : IsRegionOf p new) (fits : region_end p ≤ limit) (at : ℕ) (piece : List ℕ) (u : Story) (at_is : at ≡ p.gate + 1) (same : piece ≡ p.piece)
      (staged : u ≡ did_sync (wrote at piece s)) where
    pub list_settled : IsSettled u.now
    list_settled = subst (λ (t : Story). IsSettled t.now) (sym staged) (record { synced = refl; written = refl })

    piece_first : p.piece ≡ first_front (p.gate + 15) ++ region_of new
    piece_first = is.piece ∙ ap (λ b. front_of b p.gate ++ region_of new) bank

    first_at : p.at ≡ p.gate + 49
    first_at = is.placed.at ∙ ap (λ b. region_at b p.gate (length p.piece)) bank

    reads_are : u.now.reads ≡ put_at s.now.reads (p.gate + 1) (first_front (p.gate + 15) ++ region_of new)
    reads_are =
        ap (λ (t : Story). t.now.reads) staged ∙ ap (λ n. put_at s.now.reads n piece) at_is ∙ ap (put_at s.now.reads (p.gate + 1)) (same ∙ piece_first)

    below : gate_of p.at new + 1 ≤ limit
    below = omega (arith, region_end_is p new is, fits)

    done : IsReady limit (Some (first_roots (p.gate + 15))) (gate_of p.at new) (placed_at p.at new) (put_at u.now.reads p.gate (1 ∷ []))
    done =
        subst (λ file. IsReady limit (Some (first_roots (p.gate + 15))) (gate_of p.at new) (placed_at p.at new) (put_at file p.gate (1 ∷ []))) (sym reads_are)
        (first_ready limit p.gate p.at bodies s.now.reads ready.file new is.short is.placed.gate first_at below)

    opens_list : (count : ℕ) (v : Story) → count ≡ u.now.passed + 2 → IsWrittenThrough p.gate (1 ∷ []) u v
        → Throughout u v (TurnsTo limit p.gate bodies (gate_of p.at new) (placed_at p.at new) count)
    opens_list count v count_is = throughout_more u v _ _ (λ m mid. record {
      either = λ c image.
          elim (first_either limit p.gate p.at bodies s.now.reads ready.file new is.short is.placed.gate first_at below c
          (subst (λ file. IsTorn (range_of p.gate 1) file c) reads_are (mid.torn c image))) [
            | inl old ↦ inl (ready_reads limit None p.gate bodies c old)
            | inr later ↦ inr (ready_reads limit (Some (first_roots (p.gate + 15))) (gate_of p.at new) (placed_at p.at new) c later)
          ];
      after = λ enough c image.
          ap (reading limit) (mid.whole (omega (arith, enough, count_is)) c image)
          ∙ ready_reads limit (Some (first_roots (p.gate + 15))) (gate_of p.at new) (placed_at p.at new) (put_at u.now.reads p.gate (1 ∷ [])) done;
    })

    pub list_turns : (there : ℕ) (v : Story) → there ≡ p.gate → IsWrittenThrough at piece s u → IsWrittenThrough there (1 ∷ []) u v
        → Throughout s v (TurnsTo limit p.gate bodies (gate_of p.at new) (placed_at p.at new) (s.now.passed + 4))
    list_turns there v there_is begun written =
        throughout_then s u v _ (list_begins at piece u at_is begun)
        (opens_list (s.now.passed + 4) v (omega (arith, ap (λ (t : Story). t.now.passed) staged)) (subst (λ n. IsWrittenThrough n (1 ∷ []) u v) there_is written))

    pub list_done : (there : ℕ) (v : Story) → there ≡ p.gate → v ≡ did_sync (wrote there (1 ∷ []) u)
        → IsReadyAt limit (Some (first_roots (p.gate + 15))) (gate_of p.at new) (placed_at p.at new) v
    list_done there v there_is opened =
        subst (IsReadyAt limit (Some (first_roots (p.gate + 15))) (gate_of p.at new) (placed_at p.at new))
        (sym (opened ∙ ap (λ n. did_sync (wrote n (1 ∷ []) u)) there_is)) (record {
          file = done;
          settled = record { synced = refl; written = refl };
        })
