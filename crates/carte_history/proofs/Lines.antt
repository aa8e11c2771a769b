-- The lines of a session as steps, one line after another.
use Rattle.std.proofs.Common.{◌≡◌, ℕ, ◌+◌, true, List, [], ◌∷◌, ◌++◌, sym, ◌∙◌, ap, subst, inl, inr, arith}
use Rattle.carte_record.specs.declared.batch.Batch.{Batch}
use Rattle.carte_session.specs.Session.{Goes}
use Rattle.carte_session.specs.declared.end.StepEnd.{StepEnd}
use Rattle.carte_session.specs.declared.end.StepEnd.TheVariants as ending
use Rattle.carte_state.specs.States.{IsKeptOn, Stand, any_in}
use Rattle.carte_words.specs.declared.line.Line.{Line}
use Rattle.carte_words.specs.declared.line.Line.TheVariants as line
use Rattle.carte_engine.specs.Clearing.{clearing}
use Rattle.carte_engine.specs.Committing.{PutsAll, steps_put, steps_stopped}
use Rattle.carte_engine.proofs.Several.{puts_limit, puts_rest}
use Rattle.carte_shell.specs.Answers.{Answers, Breaks, Ends, Obeys}
use Rattle.carte_shell.specs.Commits.{disk_between}
use Rattle.carte_shell.specs.Replies.{Said}
use Rattle.carte_shell.specs.Scenes.{Scene}
use Rattle.carte_shell.specs.Stopping.{fault_of}
use Rattle.carte_history.specs.Steps.{Steps, steps_answered, steps_broken, steps_ended, steps_lines, steps_obeyed}
use Rattle.carte_history.proofs.Stretches.{IsCut, IsStretch, puts_stretch, stops_cut, stretch_none, stretch_then}

-- the state stands on the disk, under this limit
pub record StandsOn (limit : ℕ) (m : Scene) : Type 0 where
  pub on : IsKeptOn m.stand m.story
  pub limit_is : m.stand.journal.limit ≡ limit

-- lines that took the one scene to the other by these steps
pub record IsTaken (limit : ℕ) (m m' : Scene) (steps : Steps) : Type 0 where
  pub stretch : IsStretch limit (any_in m.stand) (any_in m'.stand) steps m.story m'.story
  pub stands : StandsOn limit m'

taken_none : (limit : ℕ) (m m' : Scene) → m'.stand ≡ m.stand → m'.story ≡ m.story → StandsOn limit m → IsTaken limit m m' []
taken_none limit m m' stand story stands =
    let none = stretch_none m.stand m.story m'.story story stands.on in
    let under = subst (λ n. IsStretch n (any_in m.stand) (any_in m.stand) [] m.story m'.story) stands.limit_is none in
    record {
      stretch = subst (λ (s : Stand). IsStretch limit (any_in m.stand) (any_in s) [] m.story m'.story) (sym stand) under;
      stands = record {
        on = subst (λ (s : Stand). IsKeptOn s m'.story) (sym stand) (subst (IsKeptOn m.stand) (sym story) stands.on);
        limit_is = ap (λ (s : Stand). s.journal.limit) stand ∙ stands.limit_is;
      };
    }

taken_still : (limit : ℕ) (m m' : Scene) → m' ≡ m → StandsOn limit m → IsTaken limit m m' []
taken_still limit m m' same = taken_none limit m m' (ap (λ (x : Scene). x.stand) same) (ap (λ (x : Scene). x.story) same)

taken_then : (limit : ℕ) (m mid m' : Scene) (bs cs : Steps) → IsTaken limit m mid bs → IsTaken limit mid m' cs → IsTaken limit m m' (bs ++ cs)
taken_then limit m mid m' bs cs one two = record {
  stretch = stretch_then limit (any_in m.stand) (any_in mid.stand) (any_in m'.stand) bs cs m.story mid.story m'.story one.stretch two.stretch;
  stands = two.stands;
}

module _ (tells : Type 0) (told : tells) (limit : ℕ) where
  taken_put : (m m' : Scene) (Bs : List Batch) (puts : PutsAll true (disk_between tells m m') m.stand Bs m'.stand) → StandsOn limit m
      → IsTaken limit m m' (steps_put true (disk_between tells m m') m.stand Bs m'.stand puts)
  taken_put m m' Bs puts stands =
      let d = disk_between tells m m' in
      let steps = steps_put true d m.stand Bs m'.stand puts in
      record {
        stretch = subst (λ n. IsStretch n (any_in m.stand) (any_in m'.stand) steps m.story m'.story) stands.limit_is (puts_stretch true d m.stand Bs m'.stand puts told stands.on);
        stands = record { on = puts_rest true d m.stand Bs m'.stand puts told stands.on; limit_is = puts_limit true d m.stand Bs m'.stand puts ∙ stands.limit_is };
      }

  taken_obeyed : (m : Scene) (l : Line) (reply : Said) (m' : Scene) (is : Obeys tells m l reply m') → StandsOn limit m → IsTaken limit m m' (steps_obeyed tells m l reply m' is)
  taken_obeyed m line.Nothing reply m' is stands = taken_still limit m m' is.1 stands
  taken_obeyed m (line.Set k v) reply m' is stands = taken_none limit m m' (ap (λ (x : Scene). x.stand) is.1) (ap (λ (x : Scene). x.story) is.1) stands
  taken_obeyed m (line.Build targets) reply m' (a, Bs, plans, is, puts) stands = taken_put m m' Bs puts.commits stands
  taken_obeyed m (line.Explain targets) reply m' is stands = taken_still limit m m' is.1 stands
  taken_obeyed m line.Clean reply m' (is, puts, none) stands = taken_put m m' (clearing m.stand ∷ []) puts.commits stands

  pub taken_answered : (m : Scene) (n : ℕ) (bytes text : List ℕ) (m' : Scene) (is : Answers tells m n bytes text m') → StandsOn limit m → IsTaken limit m m' (steps_answered tells m n bytes text m' is)
  taken_answered m n bytes text m' (inl stray) stands = taken_still limit m m' stray.2 stands
  taken_answered m n bytes text m' (inr (l, means, reply, is, obeys)) stands = taken_obeyed m l reply m' obeys stands

  pub taken_lines : (n : ℕ) (m : Scene) (lines : List (List ℕ)) (said : List ℕ) (m' : Scene) (goes : Goes (Answers tells) n m lines said m') → StandsOn limit m → IsTaken limit m m' (steps_lines tells n m lines said m' goes)
  taken_lines n m [] said m' none stands = taken_still limit m m' none.0 stands
  taken_lines n m (bytes ∷ lines) said m' (mid, reply, later, answers, goes, is) stands =
      let one = taken_answered m n bytes reply mid answers stands in
      taken_then limit m mid m' (steps_answered tells m n bytes reply mid answers) (steps_lines tells (n + 1) mid lines later m' goes) one (taken_lines (n + 1) mid lines later m' goes one.stands)

  -- ---- a line that isn't answered

  abbrev CutAt : Scene → Scene → Steps → StepEnd → Type 0
  CutAt m m' steps end = IsCut limit (any_in m.stand) steps (fault_of end) m.story m'.story

  cut_short : (m m' : Scene) (end : StepEnd) → end ≡ ending.NoMemory → m' ≡ m → StandsOn limit m → CutAt m m' [] end
  cut_short m m' end short same stands =
      let s = (taken_still limit m m' same stands).stretch in
      subst (CutAt m m' []) (sym short) (record { through = s.through; later = omega (arith, s.calls); passes = s.calls; made = s.made; well = s.well })

  cut_broken : (m : Scene) (l : Line) (end : StepEnd) (m' : Scene) (breaks : Breaks tells m l end m') → StandsOn limit m → CutAt m m' (steps_broken tells m l end m' breaks) end
  cut_broken m l end m' (inl short) stands = cut_short m m' end short.0 short.1 stands
  cut_broken m l end m' (inr (Bs, brings, stops)) stands =
      let d = disk_between tells m m' in
      let steps = steps_stopped d m.stand Bs m'.stand (fault_of end) stops.commits in
      subst (λ n. IsCut n (any_in m.stand) steps (fault_of end) m.story m'.story) stands.limit_is (stops_cut d m.stand Bs m'.stand (fault_of end) stops.commits told stands.on)

  pub cut_ended : (m : Scene) (n : ℕ) (bytes : List ℕ) (end : StepEnd) (m' : Scene) (ends : Ends tells m n bytes end m') → StandsOn limit m → CutAt m m' (steps_ended tells m n bytes end m' ends) end
  cut_ended m n bytes end m' (inl short) stands = cut_short m m' end short.0 short.1 stands
  cut_ended m n bytes end m' (inr (l, means, breaks)) stands = cut_broken m l end m' breaks stands
