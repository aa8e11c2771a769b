-- A build follows its schedule, step by step.
use Rattle.std.proofs.Common.{◌≡◌, ℕ, Bool, List, [], ◌∷◌, ◌++◌, None, refl, sym, subst}
use Rattle.carte_effect.specs.Ledger.{Ledger, no_runs}
use Rattle.carte_book.specs.Book.{Book}
use Rattle.carte_sound.specs.Held.{How}
use Rattle.carte_note.specs.declared.finished.Finished.{Finished}
use Rattle.carte_rebuild.specs.declared.work.Work.{Work}
use Rattle.carte_bench.specs.Spots.{Spots, IsSame}
use Rattle.carte_bench.specs.Steps.{GivesOf}
use Rattle.carte_restart.specs.Schedule.{Stage, TurnsFirst, Turns, ended, next, Treats, TreatsEach, IsByTurns}

module _ {J : Type 0} (name : J → List ℕ) (started : J → Bool) (gives : GivesOf J) (begins : List ℕ → J → Type 0) (h : How) (b : Book) where
  -- whatever comes behind, it is what treating the name comes to
  abbrev pub WentOn : List ℕ → Stage J → Stage J → Type 0
  WentOn n first now = (e : Stage J) → Turns name started gives begins h b now e → Treats name started gives begins h b n first e

  -- one turn more
  pub next_turn : (k : List ℕ) (ks path : List (List ℕ)) (s : Spots J) (fs : List Finished) (r : Ledger) (d e : Stage J) → path ≡ k ∷ ks → TurnsFirst name started gives begins h b k ks (record { spots = s; path = k ∷ ks; finished = fs; runs = r }) d
      → Turns name started gives begins h b d e → Turns name started gives begins h b (record { spots = s; path = path; finished = fs; runs = r }) e
  next_turn k ks path s fs r d e is one rest = subst (λ p. Turns name started gives begins h b (record { spots = s; path = p; finished = fs; runs = r }) e) (sym is) (next refl one rest)

  -- nothing is on the path any more
  pub went_all : (n : List ℕ) (first : Stage J) (path : List (List ℕ)) (s : Spots J) (fs : List Finished) (r : Ledger) → path ≡ [] → WentOn n first (record { spots = s; path = path; finished = fs; runs = r })
      → Treats name started gives begins h b n first (record { spots = s; path = []; finished = fs; runs = r })
  went_all n first path s fs r none went =
      subst (λ p. Treats name started gives begins h b n first (record { spots = s; path = p; finished = fs; runs = r })) none (went (record { spots = s; path = path; finished = fs; runs = r }) (ended none))

  -- one name more
  treats_end : (ns : List (List ℕ)) (n : List ℕ) (s m d : Stage J) → TreatsEach name started gives begins h b ns s m → Treats name started gives begins h b n m d → TreatsEach name started gives begins h b (ns ++ n ∷ []) s d
  treats_end [] n s m d same one = (d, subst (λ e. Treats name started gives begins h b n e d) same one, refl)
  treats_end (i ∷ ns) n s m d (e, first, rest) one = (e, first, treats_end ns n e m d rest one)

  -- these and then those
  treats_both : (ns is : List (List ℕ)) (s m d : Stage J) → TreatsEach name started gives begins h b ns s m → TreatsEach name started gives begins h b is m d → TreatsEach name started gives begins h b (ns ++ is) s d
  treats_both [] is s m d same rest = subst (λ e. TreatsEach name started gives begins h b is e d) same rest
  treats_both (n ∷ ns) is s m d (e, first, more) rest = (e, first, treats_both ns is e m d more rest)

  -- between the names that are treated, nothing is on the path
  abbrev pub between : Spots J → Work → Stage J
  between s w = record { spots = s; path = []; finished = w.finished; runs = w.runs }

  pub treats_more : (ns ms : List (List ℕ)) (n : List ℕ) (s m d : Spots J) (u v w : Work) → ms ≡ ns ++ n ∷ [] → TreatsEach name started gives begins h b ns (between s u) (between m v) → Treats name started gives begins h b n (between m v) (between d w) → TreatsEach name started gives begins h b ms (between s u) (between d w)
  treats_more ns ms n s m d u v w are each one = subst (λ l. TreatsEach name started gives begins h b l (between s u) (between d w)) (sym are) (treats_end ns n (between s u) (between m v) (between d w) each one)

  pub both : (xs ys ns is : List (List ℕ)) (s m d : Spots J) (u v w : Work) → xs ≡ ns → ys ≡ is → TreatsEach name started gives begins h b xs (between s u) (between m v) → TreatsEach name started gives begins h b ys (between m v) (between d w) → TreatsEach name started gives begins h b (ns ++ is) (between s u) (between d w)
  both xs ys ns is s m d u v w one two first second = treats_both ns is (between s u) (between m v) (between d w) (subst (λ l. TreatsEach name started gives begins h b l (between s u) (between m v)) one first) (subst (λ l. TreatsEach name started gives begins h b l (between m v) (between d w)) two second)

  pub by_turns : (names : List (List ℕ)) (s0 s : Spots J) (w0 w w' : Work) → IsSame (λ k. None) s0 → w0.finished ≡ [] → w0.runs ≡ no_runs → w'.finished ≡ w.finished → w'.runs ≡ w.runs → TreatsEach name started gives begins h b names (between s0 w0) (between s w) → IsByTurns name started gives begins h b names w'
  by_turns names s0 s w0 w w' empty none no_ledger finished runs treats = record {
    first = s0;
    empty = empty;
    last = s;
    treats = rw (finished, runs) (rw (none, no_ledger) at treats);
  }
