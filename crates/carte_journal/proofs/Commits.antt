-- The steps of a commit, from a disk at rest to a disk at rest.
use Rattle.std.proofs.Common.{◌≡◌, ℕ, ◌+◌, ◌<◌, ◌≤◌, ◌^◌, true, false, Bool, cond, Option, None, List, [], ◌∷◌, ◌++◌, length, arith, refl, sym, ◌∙◌, ap, subst, inl, inr, append-nil, length-append}
use Rattle.std.proofs.lemmas.Bool.{cases_Bool, leb-true, leb-false, lt-leb}
use Rattle.carte_io.specs.Disk.{IsSettled, IsTorn, Leaves, Story, Throughout, did_sync, put_at, range_of, wrote}
use Rattle.carte_io.specs.Stations.{StepsThrough}
use Rattle.carte_io.proofs.Acknowledged.{steps_one}
use Rattle.carte_io.proofs.Images.{settled_image, throughout_more, throughout_none, throughout_then}
use Rattle.carte_bank.specs.Moves.{is_move}
use Rattle.carte_bank.specs.Roots.{Known, start_of}
use Rattle.carte_bank.specs.declared.roots.Roots.{Roots}
use Rattle.carte_journal.specs.Frames.{BodyAt, Ends, bank_in, end_of, piece_of, reading}
use Rattle.carte_journal.specs.Journals.{IsAtRest, IsReadAs, Standing, calls_of, step_of}
use Rattle.carte_journal.specs.Ready.{AddsBody, IsReady, IsReadyAt, IsWrittenThrough, StaysReady, start_bytes}
use Rattle.carte_journal.proofs.Files.{gate_from, gate_inside}
use Rattle.carte_journal.proofs.Readings.{behind_torn, gate_torn, long_bank, new_bank, new_reads, opened_ready, read_ready, ready_reads, start_from, started_ready, started_torn}

-- a journal at rest
module _ (j : Standing) (bodies : List BodyAt) (s : Story) (rest : IsAtRest j bodies s) where
  -- on a disk where nothing happened
  pub rest_leaves : Leaves (λ file. reading j.limit file ≡ Ends j.gate bodies) s.now
  rest_leaves c image = ap (reading j.limit) (settled_image s.now c rest.settled image) ∙ rest.read.reads

  pub rest_stays : Throughout s s (StaysReady j.limit j.gate bodies (s.now.passed + 0))
  rest_stays = throughout_none s s _ refl (record { few = omega arith; reads = rest_leaves })

  is_short : j.fresh ≡ true → length s.now.reads ≤ 9
  is_short fresh = leb-true (length s.now.reads) 9 (sym rest.read.fresh_is ∙ fresh)

  pub is_new : j.fresh ≡ true → Ends 8 [] ≡ Ends j.gate bodies
  is_new fresh = sym (new_reads j.limit s.now.reads (is_short fresh)) ∙ rest.read.reads

  -- while the header is written
  pub begin_stays : (u : Story) → j.fresh ≡ true → IsWrittenThrough 0 start_bytes s u → Throughout s u (StaysReady j.limit j.gate bodies (s.now.passed + 2))
  begin_stays u fresh = throughout_more s u _ _ (λ m mid. record {
    few = mid.few;
    reads = λ c image. started_torn j.limit s.now.reads c (is_short fresh) (mid.torn c image) ∙ is_new fresh;
  })

  no_bank : j.fresh ≡ true → None ≡ j.bank
  no_bank fresh = let e : Known None ≡ Known j.bank = sym (new_bank j.limit s.now.reads (is_short fresh)) ∙ rest.read.bank_is in let b : None ≡ j.bank = cc in b

  pub begin_ready : (u : Story) → j.fresh ≡ true → u ≡ did_sync (wrote 0 start_bytes s) → IsReadyAt j.limit j.bank j.gate bodies u
  begin_ready u fresh is =
      subst (IsReadyAt j.limit j.bank j.gate bodies) (sym is) (record {
        file = let e : Ends 8 [] ≡ Ends j.gate bodies = is_new fresh in
            let g : 8 ≡ j.gate = cc in
            let b : [] ≡ bodies = cc in
            subst (λ bank. IsReady j.limit bank j.gate bodies (put_at s.now.reads 0 start_bytes)) (no_bank fresh)
            (subst (λ gate. IsReady j.limit None gate bodies (put_at s.now.reads 0 start_bytes)) g
            (subst (λ bs. IsReady j.limit None 8 bs (put_at s.now.reads 0 start_bytes)) b (started_ready j.limit s.now.reads (is_short fresh))));
        settled = record { synced = refl; written = refl };
      })

  pub rest_ready : j.fresh ≡ false → IsReadyAt j.limit j.bank j.gate bodies s
  rest_ready stale = record {
    file = read_ready j.limit j.bank j.gate bodies s.now.reads (leb-false (length s.now.reads) 9 (sym rest.read.fresh_is ∙ stale)) rest.read.reads rest.read.bank_is;
    settled = rest.settled;
  }

-- a file that is ready for a frame
module _ (limit : ℕ) (bank : Option Roots) (gate : ℕ) (bodies : List BodyAt) (body : List ℕ) (s : Story) (ready : IsReadyAt limit bank gate bodies s) where
  -- while the frame is written behind the closed gate byte, and more calls are to come
  pub frame_adds : (piece : List ℕ) (count : ℕ) (u : Story) → s.now.passed + 2 < count → IsWrittenThrough (gate + 1) piece s u
      → Throughout s u (AddsBody limit gate bodies body count)
  frame_adds piece count u below = throughout_more s u _ _ (λ m mid. record {
    either = λ c image. inl (behind_torn limit bank gate bodies s.now.reads ready.file (length piece) c (mid.torn c image));
    after = λ enough. absurd (omega (arith, enough, mid.few));
  })

  module _ (piece : List ℕ) (is : piece ≡ piece_of body) (u : Story) (staged : u ≡ did_sync (wrote (gate + 1) piece s)) (short : length body < 2 ^ 32)
      (other : is_move body ≡ false) (fits : end_of gate body + 1 ≤ limit) where
    pub staged_settled : IsSettled u.now
    staged_settled = subst (λ (t : Story). IsSettled t.now) (sym staged) (record { synced = refl; written = refl })

    staged_reads : u.now.reads ≡ put_at s.now.reads (gate + 1) piece
    staged_reads = ap (λ (t : Story). t.now.reads) staged

    no_tail : piece ≡ piece_of body ++ []
    no_tail = is ∙ sym (append-nil (piece_of body))

    opened_file : IsReady limit bank (end_of gate body) (bodies ++ (gate, body) ∷ []) (put_at u.now.reads gate (1 ∷ []))
    opened_file = subst (λ file. IsReady limit bank (end_of gate body) (bodies ++ (gate, body) ∷ []) (put_at file gate (1 ∷ []))) (sym staged_reads)
        (opened_ready limit bank gate bodies s.now.reads ready.file body other piece [] no_tail short fits)

    -- while the gate byte is opened
    pub gate_adds : (count : ℕ) (v : Story) → count ≡ u.now.passed + 2 → IsWrittenThrough gate (1 ∷ []) u v
        → Throughout u v (AddsBody limit gate bodies body count)
    gate_adds count v count_is = throughout_more u v _ _ (λ m mid. record {
      either = λ c image. gate_torn limit bank gate bodies s.now.reads ready.file body other c piece [] no_tail short fits
          (subst (λ file. IsTorn (range_of gate 1) file c) staged_reads (mid.torn c image));
      after = λ enough c image.
          ap (reading limit) (mid.whole (omega (arith, enough, count_is)) c image)
          ∙ ready_reads limit bank (end_of gate body) (bodies ++ (gate, body) ∷ []) (put_at u.now.reads gate (1 ∷ [])) opened_file;
    })

    pub gate_ready : (v : Story) → v ≡ did_sync (wrote gate (1 ∷ []) u) → IsReadyAt limit bank (end_of gate body) (bodies ++ (gate, body) ∷ []) v
    gate_ready v opened =
        subst (IsReadyAt limit bank (end_of gate body) (bodies ++ (gate, body) ∷ [])) (sym opened) (record {
          file = opened_file;
          settled = record { synced = refl; written = refl };
        })

pub calls_sum : (fresh : Bool) (n : ℕ) → n + cond fresh 2 0 + 4 ≡ n + cond fresh 6 4
calls_sum true n = omega arith
calls_sum false n = omega arith

pub some_calls : (fresh : Bool) → cond fresh 2 0 + 3 < cond fresh 6 4
some_calls true = omega arith
some_calls false = omega arith

-- the header first, and then the frame
module _ (j : Standing) (bodies : List BodyAt) (body : List ℕ) (gate count : ℕ) where
  pub begin_adds : (few : ℕ) (s u : Story) → j.gate ≡ gate → few < count → Throughout s u (StaysReady j.limit j.gate bodies few)
      → Throughout s u (AddsBody j.limit gate bodies body count)
  begin_adds few s u is below = throughout_more s u _ _ (λ m stays. record {
    either = λ c image. inl (stays.reads c image ∙ ap (λ g. Ends g bodies) is);
    after = λ enough. absurd (omega (arith, enough, stays.few));
  })

  pub begin_then : (few : ℕ) (s u v : Story) → j.gate ≡ gate → few < count → Throughout s u (StaysReady j.limit j.gate bodies few)
      → Throughout u v (AddsBody j.limit gate bodies body count) → Throughout s v (AddsBody j.limit gate bodies body count)
  begin_then few s u v is below stays = throughout_then s u v _ (begin_adds few s u is below stays)

-- a commit as a whole
module _ (j : Standing) (bodies : List BodyAt) (body : List ℕ) (s : Story) (rest : IsAtRest j bodies s) where
  -- where nothing was done
  pub full_steps : StepsThrough (IsReadAs j.limit) (Ends j.gate bodies) (step_of j bodies body ∷ []) s s
  full_steps = steps_one (IsReadAs j.limit) (Ends j.gate bodies) (step_of j bodies body) s s
      (throughout_none s s _ refl (record {
        either = λ c image. inl (rest_leaves j bodies s rest c image);
        after = λ enough. absurd (omega (arith, enough, some_calls j.fresh));
      }))

  -- where the header and the frame were written, or some of it
  pub commit_steps : (limit gate count : ℕ) (u : Story) → gate ≡ j.gate → limit ≡ j.limit → count ≡ s.now.passed + calls_of j
      → Throughout s u (AddsBody limit gate bodies body count)
      → StepsThrough (IsReadAs j.limit) (Ends j.gate bodies) (step_of j bodies body ∷ []) s u
  commit_steps limit gate count u gate_is limit_is count_is adds =
      steps_one (IsReadAs j.limit) (Ends j.gate bodies) (step_of j bodies body) s u
      (subst (λ l. Throughout s u (AddsBody l j.gate bodies body (s.now.passed + calls_of j))) limit_is
      (subst (λ g. Throughout s u (AddsBody limit g bodies body (s.now.passed + calls_of j))) gate_is
      (subst (λ n. Throughout s u (AddsBody limit gate bodies body n)) count_is adds)))

  -- no gate byte stands in front of that at 8
  rest_gate : 8 ≤ j.gate
  rest_gate =
      elim (cases_Bool j.fresh) [
        | inl fresh ↦ let e : Ends 8 [] ≡ Ends j.gate bodies = is_new j bodies s rest fresh in let g : 8 ≡ j.gate = cc in omega (arith, g)
        | inr stale ↦
            let ready : IsReady j.limit j.bank j.gate bodies s.now.reads = (rest_ready j bodies s rest stale).file in
            omega (arith, start_from j.limit j.bank s.now.reads ready.bank_is, gate_from j.limit (start_of j.bank) j.gate bodies s.now.reads ready.frames)
      ]

  pub committed_rest : (new : Standing) (gate : ℕ) (u : Story) → gate ≡ j.gate → new.limit ≡ j.limit → new.gate ≡ end_of gate body → new.fresh ≡ false
      → new.bank ≡ j.bank → new.frames ≡ j.frames + 1 → IsReadyAt j.limit j.bank (end_of gate body) (bodies ++ (gate, body) ∷ []) u → IsAtRest new (bodies ++ (j.gate, body) ∷ []) u
  committed_rest new gate u gate_is limit_is end_is stale bank_is frames_is ready =
      let inside : end_of gate body < length u.now.reads =
      gate_inside j.limit (start_of j.bank) (end_of gate body) (bodies ++ (gate, body) ∷ []) u.now.reads ready.file.frames in
      let long : 9 < length u.now.reads = omega (arith, rest_gate, inside, gate_is) in
      record {
        read = record {
          reads =
              ap (λ l. reading l u.now.reads) limit_is
              ∙ ready_reads j.limit j.bank (end_of gate body) (bodies ++ (gate, body) ∷ []) u.now.reads ready.file
              ∙ ap (λ e. Ends e (bodies ++ (gate, body) ∷ [])) (sym end_is)
              ∙ ap (λ g. Ends new.gate (bodies ++ (g, body) ∷ [])) gate_is;
          fresh_is = stale ∙ sym (lt-leb (length u.now.reads) 9 long);
          bank_is = ap (λ l. bank_in l u.now.reads) limit_is ∙ long_bank j.limit u.now.reads long ∙ ready.file.bank_is ∙ ap Known (sym bank_is);
          frames_is = omega (arith, frames_is, rest.read.frames_is, length-append bodies ((j.gate, body) ∷ []));
        };
        settled = ready.settled;
      }
