-- One rule of an order more is treated.
use Rattle.std.proofs.Common.{◌≡◌, ℕ, Bool, false, cond, List, [], ◌∷◌, ◌++◌, Option, Some, None, Result, Ok, Err, refl, ap, sym, ◌∙◌, subst, inl, inr, ◌⊎◌}
use Rattle.carte_value.specs.declared.value.Value.{Value}
use Rattle.carte_value.specs.Once.{Answers}
use Rattle.carte_value.specs.Truths.{Truth, Extends, Among, HasValue}
use Rattle.carte_value.proofs.Members.{same_or_not}
use Rattle.carte_tree.specs.Formula.{refs_of}
use Rattle.carte_tree.proofs.StaticRuns.{static_fetched}
use Rattle.carte_effect.specs.declared.look.Stuck.{Stuck}
use Rattle.carte_effect.specs.declared.outcome.Made.{Made}
use Rattle.carte_effect.specs.Jobs.{Step, came, stopped, outcome_of, DriveFits}
use Rattle.carte_effect.specs.Ledger.{Ledger}
use Rattle.carte_effect.specs.Sights.{value_seen}
use Rattle.carte_book.specs.Book.{Item, input, rule, Book, content, clean}
use Rattle.carte_book.specs.Needs.{IsRule, needs}
use Rattle.carte_book.proofs.Stuck.{needs_are}
use Rattle.carte_record.specs.Kept.{SomeKept}
use Rattle.carte_sound.specs.Finished.{IsFinishedAfter, AreFinished}
use Rattle.carte_sound.specs.Held.{How}
use Rattle.carte_sound.specs.Left.{keys_of}
use Rattle.carte_note.specs.declared.finished.Finished.{Finished}
use Rattle.carte_note.specs.Right.{IsRightMade, IsRightFinished, AreRight, finishes_of, has_run, key_of, keys_in, ran_in}
use Rattle.carte_bench.specs.declared.slot.Slot.{Slot}
use Rattle.carte_bench.specs.declared.slot.Slot.TheVariants.{Ready, Out, Done}
use Rattle.carte_bench.specs.Spots.{Spots, PutAt, job_in, done_in, sight_at, seen_in}
use Rattle.carte_bench.specs.Steps.{FitsOf, GivesOf, IsCore}
use Rattle.carte_bench.specs.Turns.{TurnedTo}
use Rattle.carte_bench.proofs.Puts.{put_here, put_apart}
use Rattle.carte_bench.proofs.Cores.{put_core, sees_clean, sees_inputs}
use Rattle.carte_bench.proofs.Turning.{turned_core}
use Rattle.carte_rebuild.specs.declared.work.Work.{Work}
use Rattle.carte_rebuild.specs.Finishes.{FinishesRight}
use Rattle.carte_rebuild.specs.Goes.{IsPart}
use Rattle.carte_topo.specs.Orders.{IsReady, IsNext}
use Rattle.carte_topo.specs.Building.{IsSoFar}
use Rattle.carte_topo.proofs.Finishing.{finishes_end, keys_end, ran_end, counts, right_end, order_end, ran_or_held, found, keys_same}
use Rattle.carte_topo.proofs.Ready.{each_among, among_end, ready_rule}
use Rattle.carte_topo.proofs.Stopping.{until_among}

-- what the next rule needs is ready
pub need_ready : (b : Book) (ks : List (List ℕ)) (k j : List ℕ) → IsNext b ks k → Among (needs b k) j → IsReady b ks j
need_ready b ks k j next among =
    let fetches = subst (λ (l : List (List ℕ)). Among l j) (needs_are b k next.formula next.is_rule) among in
    let looks = subst (λ (l : List (List ℕ)). Among l j) (static_fetched b.kind (clean b) next.formula next.is_static) fetches in
    each_among (IsReady b ks) (refs_of next.formula) j next.ready (until_among (clean b) (refs_of next.formula) j looks)

-- what is put where nothing was done takes no value from the bench
pub sees_more : {J : Type 0} (b : Book) (s d : Spots J) (k : List ℕ) (x : Slot J) → done_in (s k) ≡ None → PutAt s d k x → Extends (seen_in b s) (seen_in b d)
sees_more b s d k x none put q v sees = elim (same_or_not k q) [
  | inl same ↦ here (content b q) (subst (λ (n : List ℕ). done_in (s n) ≡ None) same none) sees
  | inr other ↦ subst (λ (o : Option (Slot _)). value_seen (sight_at (content b q) (done_in o)) ≡ Some v) (sym (put_apart s d k x q other put)) sees
]
  where
    here : (o : Option Item) → done_in (s q) ≡ None → value_seen (sight_at o (done_in (s q))) ≡ Some v → value_seen (sight_at o (done_in (d q))) ≡ Some v
    here None is shows = shows
    here (Some (input w)) is shows = shows
    here (Some (rule e)) is shows = let never : None ≡ Some v = rw is at shows in cc

module _ {J : Type 0} (name : J → List ℕ) (started : J → Bool) (gives : GivesOf J) (fits : FitsOf J) (h : How) (K : SomeKept) (b : Book) (old s new : Spots J) (ks : List (List ℕ)) (k : List ℕ) (job : J) (asks : List (List ℕ)) (w : Work) (r : Ledger)
    (law : (p : J) (t part : Truth) (n : List ℕ) (v : Option Value) (needed asked : List (List ℕ)) (further : Answers) (step : Step) (q : J) → fits p t n v needed asked → Extends part t → gives p part further step q → DriveFits fits t n v needed asked part further step q)
    (next : IsNext b ks k) (so : IsSoFar fits h K b old ks w) (unknown : old k ≡ None) (put : PutAt old s k (Ready job)) (fit : fits job (clean b) k (clean b k) (needs b k) asks) where
  is_rule : IsRule b k
  is_rule = (next.formula, next.is_rule)

  stands : s k ≡ Some (Ready job)
  stands = put_here old s k (Ready job) put

  demanded : IsCore fits b s
  demanded = put_core fits b old s k (Ready job) so.core is_rule (asks, fit) put

  begins_with : (o : Result Made Stuck) (turned : TurnedTo name started gives b s new w.runs r k o) → turned.before ≡ job
  begins_with o turned = let e : job_in (Some (Ready job)) ≡ Some turned.before = subst (λ (x : Option (Slot J)). job_in x ≡ Some turned.before) stands turned.stood in cc

  taken : (o : Result Made Stuck) (turned : TurnedTo name started gives b s new w.runs r k o) → IsCore fits b turned.mid
  taken o turned = put_core fits b s turned.mid k Out demanded is_rule tt turned.out

  mid_part : (o : Result Made Stuck) (turned : TurnedTo name started gives b s new w.runs r k o) → IsPart b (seen_in b turned.mid)
  mid_part o turned = record { part = sees_clean fits b turned.mid (taken o turned); inputs = λ i v is. sees_inputs b turned.mid i v is }

  mid_sees : (o : Result Made Stuck) (turned : TurnedTo name started gives b s new w.runs r k o) → Extends (seen_in b old) (seen_in b turned.mid)
  mid_sees o turned q v sees =
      sees_more b s turned.mid k Out (ap done_in stands) turned.out q v (sees_more b old s k (Ready job) (ap done_in unknown) put q v sees)

  -- each need has a value when the job takes its turn, so it doesn't stop
  pub no_stop : (x : Stuck) → TurnedTo name started gives b s new w.runs r k (Err x) → ⊥
  no_stop x turned =
      let stop = turned.gave.gave in
      let drive = law turned.before (clean b) (seen_in b turned.mid) k (clean b k) (needs b k) asks turned.gave.further (stopped stop.0) turned.after (subst (λ (p : J). fits p (clean b) k (clean b k) (needs b k) asks) (sym (begins_with (Err x) turned)) fit) (sees_clean fits b turned.mid (taken (Err x) turned)) stop.3 in
      elim (need_ready b ks k stop.0 next drive.step_fits.0) [
        | inl given ↦ lacks (sees_inputs b turned.mid stop.0 given.0 given.1) stop.1
        | inr before ↦ let there = so.done stop.0 before in lacks (mid_sees (Err x) turned stop.0 there.0 there.1) stop.1
      ]
    where
      lacks : {o : Option Value} {v : Value} → o ≡ Some v → o ≡ None → ⊥
      lacks is none = let both : Some _ ≡ None = sym is ∙ none in cc

  module _ (goes : (part : Truth) (further : Answers) (m : Made) (q : J) → IsPart b part → gives job part further (came m) q → IsRightMade h K b k m) (m : Made) (turned : TurnedTo name started gives b s new w.runs r k (Ok m)) where
    made_right : IsRightMade h K b k m
    made_right = goes (seen_in b turned.mid) turned.gave.further m turned.after (mid_part (Ok m) turned) (subst (λ (p : J). gives p (seen_in b turned.mid) turned.gave.further (came m) turned.after) (begins_with (Ok m) turned) turned.gave.gave)

    -- the rules before are done, and each was finished
    have_found : (j : List ℕ) → Among (needs b k) j → IsRule b j → Among ks j
    have_found j among rule_j = ready_rule b ks j rule_j (need_ready b ks k j next among)

    new_sees : Extends (seen_in b old) (seen_in b new)
    new_sees q v sees = sees_more b turned.mid new k (Done m) (ap done_in (put_here s turned.mid k Out turned.out)) turned.put q v (mid_sees (Ok m) turned q v sees)

    sees_made : HasValue (seen_in b new) k
    sees_made = ((outcome_of m).value, rw (next.is_rule, put_here turned.mid new k (Done m) turned.put) refl)

    module _ (f : Finished) (same : f.made ≡ m) (finishes : FinishesRight h b w.finished m f) where
      right : IsRightFinished h K b k f
      right = finishes K k made_right (λ gathers ran j among rule_j. found h K b w.finished j so.right (subst (λ (l : List (List ℕ)). Among l j) (sym so.keys) (have_found j among rule_j)))

      key_is : key_of f ≡ k
      key_is = right.made.key

      after : (bs : List (List ℕ)) → ((j : List ℕ) → Among [] j ⊎ Among (keys_of (finishes_of w.finished)) j → Among bs j) → IsFinishedAfter h b K bs (key_of f) (has_run f.made)
      after bs all = subst (λ (n : List ℕ). IsFinishedAfter h b K bs n (has_run f.made)) (sym key_is) (record {
        is_rule = is_rule;
        clean = ((outcome_of f.made).value, right.made.value);
        came = ran_or_held h K b k f.made right.made.came;
        order = λ followed j among rule_j. all j (inr (subst (λ (l : List (List ℕ)). Among l j) (sym (keys_same w.finished ∙ so.keys)) (have_found j among rule_j)));
      })

      ran_is : cond (has_run f.made) (key_of f ∷ []) [] ≡ cond (has_run m) (k ∷ []) []
      ran_is = ap (λ (x : Made). cond (has_run x) (key_of f ∷ []) []) same ∙ ap (λ (n : List ℕ). cond (has_run m) (n ∷ []) []) key_is

      pub one_more : started job ≡ false → (w' : Work) → w'.finished ≡ w.finished ++ f ∷ [] → w'.runs ≡ r → IsSoFar fits h K b new (ks ++ k ∷ []) w'
      one_more idle w' is runs = record {
        core = turned_core name started gives b s new w.runs r k fits law (Ok m) turned demanded;
        done = λ j among. elim (among_end ks k j among) [
          | inl before ↦ (let there = so.done j before in (there.0, new_sees j there.0 there.1))
          | inr here ↦ subst (HasValue (seen_in b new)) (sym here) sees_made
        ];
        keys = ap keys_in is ∙ keys_end w.finished f ∙ ap (λ (l : List (List ℕ)). l ++ key_of f ∷ []) so.keys ∙ ap (λ (n : List ℕ). ks ++ n ∷ []) key_is;
        right = subst (AreRight h K b) (sym is) (right_end h K b w.finished f so.right (subst (λ (n : List ℕ). IsRightFinished h K b n f) (sym key_is) right));
        order = subst (λ (l : List Finished). AreFinished h b K [] (finishes_of l)) (sym is) (subst (AreFinished h b K []) (sym (finishes_end w.finished f)) (order_end h K b [] (finishes_of w.finished) (key_of f, has_run f.made) so.order after));
        starts = ap (λ (x : Ledger). x.starts) runs ∙ counted.0 ∙ ap (λ (l : List (List ℕ)). l ++ cond (has_run m) (k ∷ []) []) so.starts ∙ all_ran;
        ends = ap (λ (x : Ledger). x.ends) runs ∙ counted.1 ∙ ap (λ (l : List (List ℕ)). l ++ cond (has_run m) (k ∷ []) []) so.ends ∙ all_ran;
      }
        where
          counted : (r.starts ≡ w.runs.starts ++ cond (has_run m) (k ∷ []) []) × (r.ends ≡ w.runs.ends ++ cond (has_run m) (k ∷ []) [])
          counted = counts k (started turned.before) (started turned.after) w.runs r m (ap started (begins_with (Ok m) turned) ∙ idle) turned.counted

          all_ran : ran_in w.finished ++ cond (has_run m) (k ∷ []) [] ≡ ran_in w'.finished
          all_ran = sym (ap ran_in is ∙ ran_end w.finished f ∙ ap (λ (l : List (List ℕ)). ran_in w.finished ++ l) ran_is)
