-- What holds of a bench after every order of steps.
use Rattle.std.proofs.Common.{◌≡◌, ℕ, true, List, Option, Some, None, Result, Ok, Err, refl, sym, ◌∙◌, subst, inl, inr, ◌⊎◌, cond}
use Rattle.std.specs.Cmp.Lexicographic.{bytes_decides}
use Rattle.carte_value.specs.declared.value.Value.{Value}
use Rattle.carte_name.specs.Names.{name_eq}
use Rattle.carte_value.specs.Once.{Answers}
use Rattle.carte_value.specs.Truths.{Truth, Extends}
use Rattle.carte_value.proofs.Members.{same_or_not, name_apart}
use Rattle.carte_effect.specs.declared.look.Stuck.{Stuck}
use Rattle.carte_effect.specs.declared.outcome.Made.{Made}
use Rattle.carte_effect.specs.Jobs.{Step, DriveFits}
use Rattle.carte_effect.specs.Sights.{value_seen}
use Rattle.carte_book.specs.Book.{Item, input, rule, Book, content, clean}
use Rattle.carte_book.specs.Edits.{IsInput}
use Rattle.carte_book.specs.Needs.{IsRule, needs}
use Rattle.carte_book.proofs.Clean.{clean_input}
use Rattle.carte_bench.specs.declared.slot.Slot.{Slot}
use Rattle.carte_bench.specs.declared.slot.Slot.TheVariants.{Ready, Stopped, Out, Done}
use Rattle.carte_bench.specs.Spots.{Spots, PutAt, IsSame, job_in, name_of, slot_after, done_in, sight_at, seen_in}
use Rattle.carte_bench.specs.Steps.{FitsOf, GivesOf, FitsBook, FitsSlot, IsCore, IsPartOf, State, step_of, Steps, demands, takes, puts_back, renews, Comes, start, next}
use Rattle.carte_bench.proofs.Puts.{put_here, put_apart, put_keeps}

pub sees_inputs : {J : Type 0} (b : Book) (s : Spots J) (i : List ℕ) (v : Value) → content b i ≡ Some (input v) → seen_in b s i ≡ Some v
sees_inputs b s i v is = rw is refl

module _ {J : Type 0} (fits : FitsOf J) (b : Book) where
  -- a bench on which nothing was demanded
  pub none_core : (s : Spots J) → IsSame (λ q. None) s → IsCore fits b s
  none_core s none = record {
    rules = λ k x is. (let both : None ≡ Some x = sym (none k) ∙ is in cc);
    slots = λ k x is. (let both : None ≡ Some x = sym (none k) ∙ is in cc);
  }

  pub same_core : (s d : Spots J) → IsSame s d → IsCore fits b s → IsCore fits b d
  same_core s d same core = record {
    rules = λ k x is. core.rules k x (sym (same k) ∙ is);
    slots = λ k x is. core.slots k x (sym (same k) ∙ is);
  }

  -- what fits may be put at a rule's name
  pub put_core : (s d : Spots J) (k : List ℕ) (x : Slot J) → IsCore fits b s → IsRule b k → FitsSlot fits b k x → PutAt s d k x → IsCore fits b d
  put_core s d k x core is fit put = record {
    rules = λ q y there. (at q y there (same_or_not k q)).0;
    slots = λ q y there. (at q y there (same_or_not k q)).1;
  }
    where
      at : (q : List ℕ) (y : Slot J) → d q ≡ Some y → (k ≡ q) ⊎ (¬ (k ≡ q)) → IsRule b q × FitsSlot fits b q y
      at q y there (inl same) =
          let here = put_here s d k x put in
          let one : x ≡ y = cc in
          (subst (IsRule b) same is, subst (λ j. FitsSlot fits b j y) same (subst (λ z. FitsSlot fits b k z) one fit))
      at q y there (inr other) =
          let before : s q ≡ Some y = sym (put_apart s d k x q other put) ∙ there in
          (core.rules q y before, core.slots q y before)

  -- what a bench shows is clean
  pub sees_clean : (s : Spots J) → IsCore fits b s → Extends (seen_in b s) (clean b)
  sees_clean s core k v seen = at (content b k) refl (s k) refl seen
    where
      at : (o : Option Item) → content b k ≡ o → (y : Option (Slot J)) → s k ≡ y → value_seen (sight_at o (done_in y)) ≡ Some v → clean b k ≡ Some v
      at None is y there shows = cc
      at (Some (input w)) is y there shows = clean_input b k w is ∙ shows
      at (Some (rule e)) is None there shows = cc
      at (Some (rule e)) is (Some (Ready j)) there shows = cc
      at (Some (rule e)) is (Some (Stopped j n)) there shows = cc
      at (Some (rule e)) is (Some Out) there shows = cc
      at (Some (rule e)) is (Some (Done m)) there shows = (core.slots k (Done m) there).1 ∙ shows

  -- the job of a slot fits
  pub job_fits : (s : Spots J) (k : List ℕ) (j : J) → IsCore fits b s → job_in (s k) ≡ Some j → IsRule b k × FitsBook fits b k j
  job_fits s k j core has = at (s k) refl has
    where
      at : (y : Option (Slot J)) → s k ≡ y → job_in y ≡ Some j → IsRule b k × FitsBook fits b k j
      at None there is = cc
      at (Some (Ready i)) there is = let one : i ≡ j = cc in (core.rules k (Ready i) there, subst (FitsBook fits b k) one (core.slots k (Ready i) there))
      at (Some (Stopped i n)) there is = let one : i ≡ j = cc in (core.rules k (Stopped i n) there, subst (FitsBook fits b k) one (core.slots k (Stopped i n) there).0)
      at (Some Out) there is = cc
      at (Some (Done m)) there is = cc

  -- no input's name is without a value
  pub no_input : (s : Spots J) (t : Truth) (n : List ℕ) → IsPartOf b s t → t n ≡ None → ¬ (IsInput b n)
  no_input s t n part none (v, is) = let has : t n ≡ Some v = part.inputs n v is in let both : Some v ≡ None = sym has ∙ none in cc

  module _ (name : J → List ℕ) (gives : GivesOf J) (law : (p : J) (t part : Truth) (k : List ℕ) (v : Option Value) (needs asks : List (List ℕ)) (further : Answers) (step : Step) (q : J) → fits p t k v needs asks → Extends part t → gives p part further step q → DriveFits fits t k v needs asks part further step q) where
    -- what a drive leaves fits
    pub after_fits : (s : Spots J) (k : List ℕ) (p q : J) (t : Truth) (further : Answers) (o : Result Made Stuck) → IsCore fits b s → FitsBook fits b k p → IsPartOf b s t → gives p t further (step_of o) q → FitsSlot fits b k (slot_after q o)
    after_fits s k p q t further (Ok m) core (asks, fit) part gave =
        let d = law p (clean b) t k (clean b k) (needs b k) asks further (step_of (Ok m)) q fit (λ i v is. sees_clean s core i v (part.part i v is)) gave in
        (d.step_fits.0, d.step_fits.1)
    after_fits s k p q t further (Err x) core (asks, fit) part gave =
        let d = law p (clean b) t k (clean b k) (needs b k) asks further (step_of (Err x)) q fit (λ i v is. sees_clean s core i v (part.part i v is)) gave in
        ((asks, d.step_fits.2), d.step_fits.0, no_input s t (name_of x) part d.step_fits.1)

    record IsSound (s : State J) : Type 0 where
      core : IsCore fits b s.spots
      taken : (k : List ℕ) (j : J) → s.taken k ≡ Some j → FitsBook fits b k j

    step_sound : (s d : State J) → Steps name fits gives b s d → IsSound s → IsSound d
    step_sound s d (demands j new is none fit put) sound = record { core = put_core s.spots new (name j) (Ready j) sound.core is fit put; taken = sound.taken }
    step_sound s d (takes k j new (ready, has, put)) sound =
        let fit = job_fits s.spots k j sound.core has in
        record { core = put_core s.spots new k Out sound.core fit.0 tt put; taken = λ q i is. at q i is (same_or_not k q) }
      where
        at : (q : List ℕ) (i : J) → cond (name_eq k q) (Some j) (s.taken q) ≡ Some i → (k ≡ q) ⊎ (¬ (k ≡ q)) → FitsBook fits b q i
        at q i is (inl same) =
            let tied : name_eq k q ≡ true = (bytes_decides k q).1 same in
            let both : Some j ≡ Some i = rw tied at is in
            let one : j ≡ i = cc in
            subst (λ n. FitsBook fits b n i) same (subst (FitsBook fits b k) one (job_fits s.spots k j sound.core has).1)
        at q i is (inr other) = sound.taken q i (rw (name_apart k q other) at is)
    step_sound s d (puts_back k p q t further o new took out part gave put) sound =
        record {
          core = put_core s.spots new k (slot_after q o) sound.core (sound.core.rules k Out out) (after_fits s.spots k p q t further o sound.core (sound.taken k p took) part gave) put;
          taken = sound.taken;
        }
    step_sound s d (renews k n j p new stood fit put) sound =
        let old = sound.core.slots k (Stopped p n) stood in
        record { core = put_core s.spots new k (Stopped j n) sound.core (sound.core.rules k (Stopped p n) stood) (fit, old.1, old.2) put; taken = sound.taken }

    comes_sound : (s : State J) → Comes name fits gives b s → IsSound s
    comes_sound s start = record { core = none_core (λ k. None) (λ q. refl); taken = λ k j is. cc }
    comes_sound d (next {s = s} comes steps) = step_sound s d steps (comes_sound s comes)

    pub comes_core : (s : State J) → Comes name fits gives b s → IsCore fits b s.spots
    comes_core s comes = (comes_sound s comes).core

-- what is done stays
pub done_stays : {J : Type 0} (name : J → List ℕ) (fits : FitsOf J) (gives : GivesOf J) (b : Book) (s d : State J) (k : List ℕ) (m : Made) → Steps name fits gives b s d → s.spots k ≡ Some (Done m) → d.spots k ≡ Some (Done m)
done_stays name fits gives b s d k m (demands j new is none fit put) done = put_keeps s.spots new (name j) (Ready j) k (Some (Done m)) put done (λ there. cc)
done_stays name fits gives b s d k m (takes q j new (ready, has, put)) done = put_keeps s.spots new q Out k (Some (Done m)) put done (λ there. let none : job_in (Some (Done m)) ≡ Some j = rw there at has in cc)
done_stays name fits gives b s d k m (puts_back q p r t further o new took out part gave put) done = put_keeps s.spots new q (slot_after r o) k (Some (Done m)) put done (λ there. cc)
done_stays name fits gives b s d k m (renews q n j p new stood fit put) done = put_keeps s.spots new q (Stopped j n) k (Some (Done m)) put done (λ there. cc)
