-- Where each key finds its needs there, no turn stops.
use Rattle.std.proofs.Common.{◌≡◌, ℕ, ◌<◌, Bool, true, List, [], ◌∷◌, ◌++◌, length, take, get_or, Option, Some, None, Ok, Err, refl, sym, ◌∙◌, subst, inl, inr}
use Rattle.carte_value.specs.declared.value.Value.{Value}
use Rattle.carte_value.specs.Truths.{Among, HasValue}
use Rattle.carte_value.proofs.Members.{same_or_not, among_append}
use Rattle.carte_effect.specs.declared.look.Stuck.{Stuck}
use Rattle.carte_effect.specs.declared.outcome.Made.{Made}
use Rattle.carte_effect.specs.Ledger.{Ledger}
use Rattle.carte_effect.specs.Jobs.{outcome_of}
use Rattle.carte_effect.specs.Sights.{value_seen}
use Rattle.carte_book.specs.Book.{Book}
use Rattle.carte_book.specs.Needs.{IsRule, needs}
use Rattle.carte_rebuild.specs.Goes.{AreThere}
use Rattle.carte_bench.specs.declared.slot.Slot.{Slot}
use Rattle.carte_bench.specs.declared.slot.Slot.TheVariants.{Ready, Stopped, Out, Done}
use Rattle.carte_bench.specs.Spots.{Spots, PutAt, is_done, is_ready, name_of, done_in, seen_in, sight_of_rule}
use Rattle.carte_bench.specs.Steps.{GivesOf}
use Rattle.carte_bench.specs.Turns.{TurnedTo}
use Rattle.carte_bench.proofs.Cores.{sees_inputs}
use Rattle.carte_bench.proofs.Puts.{put_here, put_apart}
use Rattle.carte_progress.specs.Opening.{Opens}
use Rattle.carte_progress.specs.Standing.{IsDemanded}
use Rattle.carte_progress.proofs.Puts.{job_undone, undone_none}
use Rattle.carte_progress.proofs.Seeing.{seen_put, there_more}
use Rattle.carte_progress.proofs.Turned.{stop_none, turn_put}
use Rattle.carte_progress.proofs.Whys.{parted}
use Rattle.carte_restart.specs.Going.{IsTallied}
use Rattle.carte_restart.specs.Straight.{IsAhead, IsNext, IsPreparedOn, IsStraight, NeedsAmong}
use Rattle.carte_restart.proofs.Tallying.{ended_all}

-- nothing was demanded or started
pub straight_none : {J : Type 0} (s : Spots J) → ((q : List ℕ) → s q ≡ None) → IsStraight s (record { starts = []; ends = [] })
straight_none s none = record {
  done = λ k (x, is). (let both : None ≡ Some x = sym (none k) ∙ is in cc);
  ended = λ k. refl;
}

-- once the target was demanded, it is alone on the path, or was done before
pub ahead_opens : {J : Type 0} (name : J → List ℕ) (started : J → Bool) (begins : List ℕ → J → Type 0) (b : Book) (old new : Spots J) (r : Ledger) (path : List (List ℕ)) (n : List ℕ) → Opens name started begins b old new [] path n → IsStraight old r → (IsRule b n → AreThere b (seen_in b old) n) → IsAhead b new r path n
ahead_opens name started begins b old new r path n (inl d) straight there = inr (record {
  path_is = d.path_is;
  there = there_more b (seen_in b old) (seen_in b new) n (seen_put b old new n (Ready d.job) d.put (undone_none (old n) (rw d.fresh.1 refl))) (there d.fresh.0);
  done = λ k other (x, is). (let same = put_apart old new n (Ready d.job) k other d.put in rw same (straight.done k (x, sym same ∙ is)));
  ended = straight.ended;
})
ahead_opens name started begins b old new r path n (inr (known, same, none)) straight there = inl (
  none,
  record {
    done = λ k (x, is). rw (same k) (straight.done k (x, sym (same k) ∙ is));
    ended = straight.ended;
  },
)

pub ahead_next : {J : Type 0} (b : Book) (s : Spots J) (r : Ledger) (k : List ℕ) (ks : List (List ℕ)) (target : List ℕ) → IsAhead b s r (k ∷ ks) target → IsNext b s r (k ∷ ks) target
ahead_next b s r k ks target (inl (none, straight)) = cc
ahead_next b s r k ks target (inr next) = next

pub ahead_end : {J : Type 0} (b : Book) (s : Spots J) (r : Ledger) (path : List (List ℕ)) (target : List ℕ) → path ≡ [] → IsAhead b s r path target → IsStraight s r
ahead_end b s r path target none (inl (is, straight)) = straight
ahead_end b s r path target none (inr next) = let both : [] ≡ target ∷ [] = sym none ∙ next.path_is in cc

module _ {J : Type 0} (name : J → List ℕ) (started : J → Bool) (gives : GivesOf J) (b : Book) (old new : Spots J) (r r' : Ledger) (k : List ℕ) (ks : List (List ℕ)) (target : List ℕ) (next : IsNext b old r (k ∷ ks) target) where
  first_is : target ≡ k
  first_is = let same = next.path_is in cc

  rest_is : ks ≡ []
  rest_is = let same = next.path_is in cc

  -- a stop would be at a need that isn't there
  pub never_stops : (x : Stuck) → TurnedTo name started gives b old new r r' k (Err x) → Among (needs b k) (name_of x) → ⊥
  never_stops x turned need =
      let has = next.there (name_of x) (subst (λ i. Among (needs b i) (name_of x)) (sym first_is) need) in
      let grows = seen_put b old turned.mid k Out turned.out (undone_none (old k) (job_undone (old k) turned.before turned.stood)) in
      let both : None ≡ Some has.0 = sym (stop_none name started gives b old new r r' k x turned) ∙ grows (name_of x) has.0 has.1 in
      cc

  pub ends_next : (ran : List (List ℕ)) → IsTallied started b old ran r → is_ready old (old k) ≡ true → (m : Made) → TurnedTo name started gives b old new r r' k (Ok m) → (ks ≡ []) × IsStraight new r'
  ends_next ran tallied ready m turned = (
    rest_is,
    record {
      done = λ q there. elim (same_or_not k q) [
        | inl same ↦ subst (λ i. is_done (new i) ≡ true) same (rw (put_here old new k (Done m) put) refl)
        | inr other ↦ (let before = put_apart old new k (Done m) q other put in rw before (next.done q (λ same. other (sym first_is ∙ same)) (there.0, sym before ∙ there.1)))
      ];
      ended = ended_all started b old new k turned.before turned.after ran r r' tallied turned.stood ready m turned.counted next.ended;
    },
  )
    where
      put : PutAt old new k (Done m)
      put = turn_put name started gives b old new r r' k (Ok m) turned

-- a rule that is done is seen
done_seen : {J : Type 0} (b : Book) (s : Spots J) (k : List ℕ) → IsRule b k → is_done (s k) ≡ true → HasValue (seen_in b s) k
done_seen {J = J} b s k (e, is) done = rw is (at (s k) done)
  where
    at : (o : Option (Slot J)) → is_done o ≡ true → (v : Value) × (value_seen (sight_of_rule (done_in o)) ≡ Some v)
    at None never = cc
    at (Some (Ready j)) never = cc
    at (Some (Stopped j n)) never = cc
    at (Some Out) never = cc
    at (Some (Done m)) is_so = ((outcome_of m).value, refl)

-- a rule whose needs are demanded finds them there
pub needs_there : {J : Type 0} (b : Book) (s : Spots J) (r : Ledger) (others : List (List ℕ)) (k : List ℕ) → IsStraight s r → ((j : List ℕ) → Among others j → IsRule b j → IsDemanded s j) → NeedsAmong b others k → AreThere b (seen_in b s) k
needs_there b s r others k straight demanded among j need = elim (among j need) [
  | inl given ↦ (given.0, sees_inputs b s j given.0 given.1)
  | inr is ↦ done_seen b s j is.0 (straight.done j (demanded j is.1 is.0))
]

-- so does the next of a list that is prepared
pub next_there : {J : Type 0} (b : Book) (old s : Spots J) (r : Ledger) (ks : List (List ℕ)) (at : ℕ) (k : List ℕ) → at < length ks → k ≡ get_or ks at k → IsPreparedOn b old ks → ((j : List ℕ) → IsDemanded old j → IsDemanded s j) → ((j : List ℕ) → Among (take at ks) j → IsRule b j → IsDemanded s j) → IsStraight s r → IsRule b k → AreThere b (seen_in b s) k
next_there b old s r ks at k below is (others, known, prepared) stays before straight is_rule =
    let p = parted ks at k below is in
    needs_there b s r (take at ks ++ others) k straight (λ j here rule_there. elim (among_append (take at ks) others j here) [
      | inl first ↦ before j first rule_there
      | inr other ↦ stays j (known j other rule_there)
    ]) (prepared (take at ks) p.0 k p.1 is_rule)
