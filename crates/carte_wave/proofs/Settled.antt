-- The jobs that are still to be put back.
use Rattle.std.proofs.Common.{◌≡◌, ℕ, Bool, List, [], ◌∷◌, Some, None, Result, Ok, Err, refl, sym, ◌∙◌, subst, inl, inr}
use Rattle.carte_value.specs.Truths.{Among}
use Rattle.carte_value.proofs.Members.{same_or_not}
use Rattle.carte_book.specs.Book.{Book}
use Rattle.carte_effect.specs.declared.look.Stuck.{Stuck}
use Rattle.carte_effect.specs.declared.outcome.Made.{Made}
use Rattle.carte_sound.specs.Held.{How}
use Rattle.carte_note.specs.declared.finished.Finished.{Finished}
use Rattle.carte_bench.specs.declared.slot.Slot.TheVariants.{Ready, Out}
use Rattle.carte_bench.specs.Spots.{Spots, slot_after, name_of}
use Rattle.carte_bench.proofs.Puts.{put_apart}
use Rattle.carte_progress.specs.Opening.{Opens}
use Rattle.carte_wave.specs.declared.wave.Driven.{Driven}
use Rattle.carte_wave.specs.Front.{Line}
use Rattle.carte_wave.specs.Settling.{StopsIn, AreBack, names_in, Settles, SettlesAs, SettlesEach}

module _ {J : Type 0} (name : J → List ℕ) (started : J → Bool) (begins : List ℕ → J → Type 0) (h : How) (b : Book) where
  pub back_out : (s : Spots J) (p : Driven J) (ps : List (Driven J)) → AreBack name b s (p ∷ ps) → s (name p.job) ≡ Some Out
  back_out s p ps back = back.out (name p.job) (inl refl)

  pub back_stop : (s : Spots J) (p : Driven J) (ps : List (Driven J)) → AreBack name b s (p ∷ ps) → StopsIn b p.outcome
  back_stop s p ps back = back.stops.0

  -- a demand keeps what is out
  out_opens : (s d : Spots J) (path : List (List ℕ)) (n q : List ℕ) → Opens name started begins b s d [] path n → s q ≡ Some Out → d q ≡ Some Out
  out_opens s d path n q (inl demands) is = elim (same_or_not n q) [
    | inl same ↦ (let both : None ≡ Some Out = sym demands.fresh.1 ∙ subst (λ i. s i ≡ Some Out) (sym same) is in cc)
    | inr other ↦ put_apart s d n (Ready demands.job) q other demands.put ∙ is
  ]
  out_opens s d path n q (inr leaves) is = leaves.1 q ∙ is

  out_settles : (o : Result Made Stuck) (k : List ℕ) (s d : Spots J) (f g : Line) (fs gs : List Finished) (q : List ℕ) → SettlesAs name started begins h b o k s d f g fs gs → s q ≡ Some Out → d q ≡ Some Out
  out_settles (Ok m) k s d f g fs gs q settled is = settled.0 q ∙ is
  out_settles (Err x) k s d f g fs gs q settled is = out_opens s d settled.0.path (name_of x) q settled.0.opens is

  pub back_rest : (s d : Spots J) (f g : Line) (fs gs : List Finished) (p : Driven J) (ps : List (Driven J)) → AreBack name b s (p ∷ ps) → Settles name started begins h b p s d f g fs gs → AreBack name b d ps
  back_rest s d f g fs gs p ps back settles = record {
    out = λ q here. out_settles settles.outcome (name p.job) settles.mid d f g fs gs q settles.settled (put_apart s settles.mid (name p.job) (slot_after p.job settles.outcome) q (λ same. back.once.0 (subst (Among (names_in name ps)) (sym same) here)) settles.put ∙ back.out q (inr here));
    once = back.once.1;
    stops = back.stops.1;
  }

  -- whatever the rest comes to, it is what all come to
  abbrev pub Went : List (Driven J) → List (Driven J) → Spots J → Spots J → Line → Line → List Finished → List Finished → Type 0
  Went all rest s0 s f0 f fs0 fs = (d : Spots J) (g : Line) (gs : List Finished) → SettlesEach name started begins h b rest s d f g fs gs → SettlesEach name started begins h b all s0 d f0 g fs0 gs

  pub went_one : (all before rest : List (Driven J)) (p : Driven J) (s0 s d : Spots J) (f0 f g : Line) (fs0 fs gs : List Finished) → before ≡ p ∷ rest → Went all before s0 s f0 f fs0 fs → Settles name started begins h b p s d f g fs gs → Went all rest s0 d f0 g fs0 gs
  went_one all before rest p s0 s d f0 f g fs0 fs gs parts went settles e l hs later = went e l hs (rw parts (d, g, gs, settles, later))

  pub went_all : (all rest : List (Driven J)) (s0 s : Spots J) (f0 f : Line) (fs0 fs : List Finished) → rest ≡ [] → Went all rest s0 s f0 f fs0 fs → SettlesEach name started begins h b all s0 s f0 f fs0 fs
  went_all all rest s0 s f0 f fs0 fs none went = went s f fs (rw none (refl, refl, refl))
