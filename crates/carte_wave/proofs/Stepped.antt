-- One job of a wave is put back, and what it came to is followed: one step of the schedule.
use Rattle.std.proofs.Common.{◌≡◌, ◌⊎◌, ℕ, Bool, true, false, cond, List, [], ◌∷◌, ◌++◌, Option, Some, None, Result, Ok, Err, refl, sym, ◌∙◌, subst, inl, inr}
use Rattle.std.specs.Prelude.{MatchBool}
use Rattle.std.specs.Cmp.Lexicographic.{bytes_decides}
use Rattle.carte_name.specs.Names.{name_eq}
use Rattle.carte_value.specs.Truths.{Among}
use Rattle.carte_value.proofs.Members.{among_append, among_left, among_right}
use Rattle.carte_book.specs.Book.{Book}
use Rattle.carte_book.specs.Needs.{IsRule}
use Rattle.carte_effect.specs.declared.look.Stuck.{Stuck}
use Rattle.carte_effect.specs.declared.look.Stuck.TheVariants.{NotDone, Missing}
use Rattle.carte_effect.specs.declared.outcome.Made.{Made}
use Rattle.carte_effect.specs.Jobs.{Counted}
use Rattle.carte_effect.specs.Ledger.{Ledger}
use Rattle.carte_sound.specs.Held.{How}
use Rattle.carte_note.specs.declared.finished.Finished.{Finished}
use Rattle.carte_bench.specs.declared.slot.Slot.{Slot}
use Rattle.carte_bench.specs.declared.slot.Slot.TheVariants.{Ready, Stopped, Done}
use Rattle.carte_bench.specs.Spots.{Spots, PutAt, IsSame, is_done, is_ready, job_in, name_of, slot_after, sight_in, seen_in}
use Rattle.carte_bench.specs.Steps.{GivesOf}
use Rattle.carte_bench.specs.Turns.{halted}
use Rattle.carte_bench.proofs.Puts.{put_apart}
use Rattle.carte_progress.specs.Driven.{DroveOver}
use Rattle.carte_progress.specs.Opening.{IsStopIn, Opens, EndsKey}
use Rattle.carte_progress.specs.Standing.{IsDemanded, StaysKnown}
use Rattle.carte_progress.proofs.Standings.{known_put}
use Rattle.carte_wave.specs.declared.wave.Driven.{Driven}
use Rattle.carte_wave.specs.Drives.{Drove}
use Rattle.carte_wave.specs.Front.{Line, AddsReady, AddsFirst, Waits, Wakes}
use Rattle.carte_wave.specs.Settling.{AreOut, Registers, Settles, SettlesAs}
use Rattle.carte_wave.specs.Settling as settling
use Rattle.carte_wave.specs.Standing.{IsLined, IsFewer}
use Rattle.carte_wave.specs.Waves.{DrivesKey}
use Rattle.carte_wave.proofs.Outs.{among_or_not, ready_undone, put_in, out_same, out_put, none_seen, done_seen, out_demand, demanded_seen}
use Rattle.carte_wave.proofs.Stops.{unseen_undone, gave_as, drove_gave, drove_counted, stop_unseen, stop_there}
use Rattle.carte_wave.proofs.Stepping.{IsAmid, Registered, lined_done, wanted_done, fewer_done, lined_stopped, wanted_stopped, fewer_stopped, lined_more, wanted_more, fewer_more}

-- a key is registered as its stop says
module _ {J : Type 0} (name : J → List ℕ) (b : Book) (v0 v mid : Spots J) (k : List ℕ) (ks : List (List ℕ)) (f g : Line) (l : IsLined name b v (k ∷ ks) f) (off : ¬ (Among ks k)) (p : J) (stood : job_in (v k) ≡ Some p) (j : J) (named : name j ≡ k) where
  registered : (x : Stuck) → IsStopIn b x → AreOut (put_in v k (Stopped j (name_of x))) mid ks → Registers mid x k f g → Registered name b v0 v k ks f l off p stood j named (name_of x) g
  registered (Missing n) none out same = record {
    more = λ q is. rw same is;
    new = λ q is. inl (rw same at is);
    waits = λ i q here. inl (rw same at here);
    kept = λ i q here. rw same here;
    here = inr (inl none);
  }
  registered (NotDone n) held out by = on (is_done (mid n)) refl by
    where
      on : (t : Bool) → is_done (mid n) ≡ t → MatchBool t (AddsReady k f g) (Waits n k f g) → Registered name b v0 v k ks f l off p stood j named n g
      on true done adds = record {
        more = adds.stays;
        new = λ q is. elim (adds.only q is) [
          | inl same ↦ inr (same, done_seen (put_in v k (Stopped j n)) mid ks out n done)
          | inr old ↦ inl old
        ];
        waits = λ i q here. inl (rw (adds.waits i) at here);
        kept = λ i q here. rw (adds.waits i) here;
        here = inl adds.there;
      }
      on false undone w = record {
        more = λ q is. rw (w.ready q) is;
        new = λ q is. inl (rw (w.ready q) at is);
        waits = λ i q here. added i q (name_eq n i) refl (rw (w.waits i) at here);
        kept = λ i q here. rw (w.waits i) (still i q (name_eq n i) here);
        here = inr (inr (rw (w.waits n, (bytes_decides n n).1 refl) (among_right (f.waits n) (k ∷ []) k (inl refl)), open_seen n undone));
      }
        where
          open_seen : (i : List ℕ) → is_done (mid i) ≡ false → is_done (put_in v k (Stopped j n) i) ≡ false
          open_seen i is = elim (among_or_not ks i) [
            | inl here ↦ rw (put_apart v (put_in v k (Stopped j n)) k (Stopped j n) i (λ same. off (subst (Among ks) (sym same) here)) (λ a. refl)) (ready_undone v (v i) (l.taken_is i (inr here)))
            | inr away ↦ rw (out.else_same i away) at is
          ]

          added : (i q : List ℕ) (t : Bool) → name_eq n i ≡ t → Among (cond t (f.waits i ++ k ∷ []) (f.waits i)) q → Among (f.waits i) q ⊎ ((q ≡ k) × (i ≡ n) × IsRule b n)
          added i q true tied here = elim (among_append (f.waits i) (k ∷ []) q here) [
            | inl before ↦ inl before
            | inr last ↦ elim last [
              | inl same ↦ inr (same, sym ((bytes_decides n i).0 tied), held)
              | inr never ↦ absurd never
            ]
          ]
          added i q false apart here = inl here

          still : (i q : List ℕ) (t : Bool) → Among (f.waits i) q → Among (cond t (f.waits i ++ k ∷ []) (f.waits i)) q
          still i q true here = among_left (f.waits i) (k ∷ []) q here
          still i q false here = here

module _ {J : Type 0} (name : J → List ℕ) (started : J → Bool) (gives : GivesOf J) (begins : List ℕ → J → Type 0) (h : How) (b : Book) (v0 : Spots J) where
  -- what stands then, by a step of the schedule
  pub record Stepped (v : Spots J) (k : List ℕ) (ks : List (List ℕ)) (d : Spots J) (g : Line) (r r' : Ledger) (fs gs : List Finished) : Type 0 where
    pub now : Spots J
    pub amid : IsAmid name b v0 now d ks g
    pub drives : DrivesKey name started gives begins h b (seen_in b v0) k (record { spots = v; finished = fs; runs = r }) (record { spots = now; finished = gs; runs = r' })
    pub keeps : (q : List ℕ) → Among ks q → now q ≡ v q
    pub known : StaysKnown v now

  module _ (v s : Spots J) (k : List ℕ) (ks : List (List ℕ)) (f : Line) (amid : IsAmid name b v0 v s (k ∷ ks) f) (p : J) (stood : job_in (v k) ≡ Some p) (d : Driven J) (r r' : Ledger) (drove : Drove name started gives (sight_in b v0) p d r r') where
    p_named : name p ≡ k
    p_named = amid.lined.named k p stood

    d_named : name d.job ≡ k
    d_named = drove.named ∙ p_named

    drove_over : (o : Result Made Stuck) (is : d.outcome ≡ halted o) → DroveOver name started gives (seen_in b v0) v (put_in v k (slot_after d.job o)) r r' k o
    drove_over o is = record {
      before = p;
      after = d.job;
      further = (gave_as name started gives b v0 p d r r' drove o is).further;
      stood = stood;
      gave = drove_gave name started gives b v0 p d r r' drove o is;
      named = d_named;
      put = λ q. refl;
      counted = subst (λ i. Counted {S = Stuck} i (started p) (started d.job) r r' (halted o)) p_named (drove_counted name started gives b v0 p d r r' drove o is);
    }

    apart_first : (q : List ℕ) → Among ks q → ¬ (k ≡ q)
    apart_first q here same = amid.once.0 (subst (Among ks) (sym same) here)

    keeps_first : (x : Slot J) (q : List ℕ) → Among ks q → put_in v k x q ≡ v q
    keeps_first x q here = put_apart v (put_in v k x) k x q (apart_first q here) (λ i. refl)

    stepped_done : (m : Made) → d.outcome ≡ halted (Ok m) → (mid s' : Spots J) (g : Line) (fs gs : List Finished) → PutAt s mid k (Done m) → IsSame mid s' → Wakes k f g → EndsKey h b fs gs m → Stepped v k ks s' g r r' fs gs
    stepped_done m is mid s' g fs gs put same wakes ends = record {
      now = put_in v k (Done m);
      amid = record {
        lined = lined_done name b v0 v k ks f amid.lined amid.once.0 p stood m g wakes;
        wanted = wanted_done name b v0 v k ks f amid.lined amid.once.0 p stood m g wakes amid.wanted;
        fewer = fewer_done name b v0 v k ks f amid.lined amid.once.0 p stood m g wakes amid.fewer;
        out = out_same (put_in v k (Done m)) mid s' ks (out_put v s mid k (Done m) ks amid.out amid.once.0 put) same;
        once = amid.once.1;
      };
      drives = record { outcome = Ok m; mid = put_in v k (Done m); drove = drove_over (Ok m) is; follows = (ends, λ q. refl) };
      keeps = keeps_first (Done m);
      known = known_put v (put_in v k (Done m)) k (Done m) (λ q. refl);
    }

    module _ (x : Stuck) (is : d.outcome ≡ halted (Err x)) (mid s' : Spots J) (g : Line) (fs : List Finished) (put : PutAt s mid k (Stopped d.job (name_of x))) (follows : settling.Follows name started begins h b mid s' x k f g) where
      abbrev pub vm : Spots J
      vm = put_in v k (Stopped d.job (name_of x))

      out_mid : AreOut vm mid ks
      out_mid = out_put v s mid k (Stopped d.job (name_of x)) ks amid.out amid.once.0 put

      stop_in_book : IsStopIn b x
      stop_in_book = stop_there name started gives b v0 p d r r' drove x is

      at_stop : Registered name b v0 v k ks f amid.lined amid.once.0 p stood d.job d_named (name_of x) follows.between
      at_stop = registered name b v0 v mid k ks f follows.between amid.lined amid.once.0 p stood d.job d_named x stop_in_book out_mid follows.registers

      lined_mid : IsLined name b vm ks follows.between
      lined_mid = lined_stopped name b v0 v k ks f amid.lined amid.once.0 p stood d.job d_named (name_of x) follows.between at_stop

      wanted_mid : (i q : List ℕ) → Among (follows.between.waits i) q → IsDemanded vm i ⊎ ((i ≡ name_of x) × IsRule b (name_of x))
      wanted_mid = wanted_stopped name b v0 v k ks f amid.lined amid.once.0 p stood d.job d_named (name_of x) follows.between at_stop amid.wanted

      since : is_done (vm (name_of x)) ≡ true → IsRule b (name_of x) × (is_done (v0 (name_of x)) ≡ false)
      since done = at (vm (name_of x)) refl done
        where
          at : (o : Option (Slot J)) → vm (name_of x) ≡ o → is_done o ≡ true → IsRule b (name_of x) × (is_done (v0 (name_of x)) ≡ false)
          at None there ends = cc
          at (Some y) there ends =
              let held = lined_mid.rules (name_of x) y there in
              (held, unseen_undone b v0 (name_of x) held (stop_unseen name started gives b v0 p d r r' drove x is))

      fewer_mid : IsFewer b v0 vm follows.between
      fewer_mid = fewer_stopped name b v0 v k ks f amid.lined amid.once.0 p stood d.job d_named (name_of x) follows.between at_stop amid.fewer since

      known_mid : StaysKnown v vm
      known_mid = known_put v vm k (Stopped d.job (name_of x)) (λ q. refl)

      stepped_opens : (path : List (List ℕ)) → Opens name started begins b mid s' [] path (name_of x) → AddsFirst path follows.between g → Stepped v k ks s' g r r' fs fs
      stepped_opens path (inl demands) adds =
          let none = none_seen vm mid ks out_mid (name_of x) demands.fresh.1 in
          let more : AddsReady (name_of x) follows.between g = rw demands.path_is at adds in
          let now = put_in vm (name_of x) (Ready demands.job) in
          record {
            now = now;
            amid = record {
              lined = lined_more name b v0 vm ks follows.between g lined_mid (name_of x) demands.job demands.fresh.0 demands.named none more;
              wanted = wanted_more name b v0 vm ks follows.between g lined_mid (name_of x) demands.job demands.fresh.0 demands.named none more wanted_mid;
              fewer = fewer_more name b v0 vm ks follows.between g lined_mid (name_of x) demands.job demands.fresh.0 demands.named none more fewer_mid.lighter;
              out = out_demand vm mid ks out_mid s' (name_of x) (Ready demands.job) demands.fresh.1 demands.put;
              once = amid.once.1;
            };
            drives = record {
              outcome = Err x;
              mid = vm;
              drove = drove_over (Err x) is;
              follows = (refl, (path, inl (record { fresh = (demands.fresh.0, none); job = demands.job; begun = demands.begun; named = demands.named; idle = demands.idle; put = λ q. refl; path_is = demands.path_is })));
            };
            keeps = λ q here. put_apart vm now (name_of x) (Ready demands.job) q (apart_taken_more q here none) (λ i. refl) ∙ keeps_first (Stopped d.job (name_of x)) q here;
            known = λ q y there. (let one = known_mid q y there in known_put vm now (name_of x) (Ready demands.job) (λ i. refl) q one.0 one.1);
          }
        where
          apart_taken_more : (q : List ℕ) → Among ks q → vm (name_of x) ≡ None → ¬ (name_of x ≡ q)
          apart_taken_more q here none same = let ready : is_ready vm None ≡ true = rw (← same, none) at (lined_mid.taken_is q here) in cc
      stepped_opens path (inr (stays, same, dropped)) adds = record {
        now = vm;
        amid = record {
          lined = rw between lined_mid;
          wanted = rw between (λ i q here. elim (wanted_mid i q here) [
            | inl there ↦ there
            | inr now ↦ rw now.0 (demanded_seen vm mid ks out_mid lined_mid.taken_is (name_of x) (stays now.1))
          ]);
          fewer = rw between fewer_mid;
          out = out_same vm mid s' ks out_mid same;
          once = amid.once.1;
        };
        drives = record {
          outcome = Err x;
          mid = vm;
          drove = drove_over (Err x) is;
          follows = (refl, (path, inr ((λ held. demanded_seen vm mid ks out_mid lined_mid.taken_is (name_of x) (stays held)), (λ q. refl), dropped)));
        };
        keeps = keeps_first (Stopped d.job (name_of x));
        known = known_mid;
      }
        where
          between : g ≡ follows.between
          between = rw dropped at adds

    stepped_as : (o : Result Made Stuck) → d.outcome ≡ halted o → (mid s' : Spots J) (g : Line) (fs gs : List Finished) → PutAt s mid k (slot_after d.job o) → SettlesAs name started begins h b o k mid s' f g fs gs → Stepped v k ks s' g r r' fs gs
    stepped_as (Ok m) is mid s' g fs gs put (same, wakes, ends) = stepped_done m is mid s' g fs gs put same wakes ends
    stepped_as (Err x) is mid s' g fs gs put (follows, same) = subst (λ l. Stepped v k ks s' g r r' fs l) (sym same) (stepped_opens x is mid s' g fs put follows follows.path follows.opens follows.adds)

    pub stepped : (s' : Spots J) (g : Line) (fs gs : List Finished) → Settles name started begins h b d s s' f g fs gs → Stepped v k ks s' g r r' fs gs
    stepped s' g fs gs settles =
        stepped_as settles.outcome settles.is settles.mid s' g fs gs
        (subst (λ i. PutAt s settles.mid i (slot_after d.job settles.outcome)) d_named settles.put)
        (subst (λ i. SettlesAs name started begins h b settles.outcome i settles.mid s' f g fs gs) d_named settles.settled)
