-- Targets are demanded before the first wave, and behind the last one nothing can go on.
use Rattle.std.proofs.Common.{◌≡◌, ℕ, Bool, true, false, List, [], ◌∷◌, ◌++◌, Option, Some, None, refl, ap, sym, ◌∙◌, subst, inl, inr}
use Rattle.std.specs.BTreeMap.{is_at}
use Rattle.std.specs.BTreeSet.{BTreeSet, contains}
use Rattle.std.specs.List.{list_any}
use Rattle.carte_name.specs.Names.{name_cmp}
use Rattle.carte_book.specs.Book.{Book, content}
use Rattle.carte_book.specs.Needs.{IsRule}
use Rattle.carte_sound.specs.Held.{How}
use Rattle.carte_bench.specs.declared.slot.Slot.{Slot}
use Rattle.carte_bench.specs.declared.slot.Slot.TheVariants.{Ready, Stopped, Out, Done}
use Rattle.carte_bench.specs.Spots.{Spots, IsSame, is_done, is_ready}
use Rattle.carte_bench.specs.Steps.{GivesOf}
use Rattle.carte_progress.specs.Opening.{Opens}
use Rattle.carte_progress.specs.Standing.{IsLeft, IsAside, IsStanding, IsDemanded, StaysKnown}
use Rattle.carte_progress.proofs.Opened.{known_opens}
use Rattle.carte_wave.specs.Front.{Line, AddsReady, AddsFirst, IsNoLine}
use Rattle.carte_wave.specs.Standing.{IsHeldBy, IsLined, AreWanted}
use Rattle.carte_wave.specs.Waves.{DemandsOne, DemandsEach}
use Rattle.carte_wave.proofs.Outs.{put_in}
use Rattle.carte_wave.proofs.Stepping.{lined_more, wanted_more}

-- nothing was demanded
pub lined_none : {J : Type 0} (name : J → List ℕ) (b : Book) (s : Spots J) (f : Line) → IsSame (λ q. None) s → IsNoLine f → IsLined name b s [] f
lined_none name b s f none no_line = record {
  rules = λ k x is. (let both : None ≡ Some x = sym (none k) ∙ is in cc);
  named = λ k j is. (let both : None ≡ Some j = rw (none k) at is in cc);
  none_out = λ k is. (let both : None ≡ Some Out = sym (none k) ∙ is in cc);
  ready_is = λ k is. (let both : false ≡ true = sym (no_line.ready k) ∙ is in cc);
  taken_is = λ k here. absurd here;
  apart = λ k is here. here;
  waits_is = λ n k here open_n. absurd (rw (no_line.waits n) at here);
  fresh = λ k p is. (let both : None ≡ Some (Ready p) = sym (none k) ∙ is in cc);
  stopped = λ k n p is. (let both : None ≡ Some (Stopped p n) = sym (none k) ∙ is in cc);
}

pub wanted_none : {J : Type 0} (s : Spots J) (f : Line) → IsNoLine f → AreWanted s f
wanted_none s f no_line n k here = absurd (rw (no_line.waits n) at here)

module _ {J : Type 0} (name : J → List ℕ) (started : J → Bool) (gives : GivesOf J) (begins : List ℕ → J → Type 0) (h : How) (b : Book) where
  -- a target was demanded, where it is a rule that wasn't
  pub lined_opens : (s d : Spots J) (path : List (List ℕ)) (n : List ℕ) (f g : Line) → Opens name started begins b s d [] path n → AddsFirst path f g → IsLined name b s [] f → AreWanted s f → IsLined name b d [] g × AreWanted d g
  lined_opens s d path n f g (inl demands) adds lined wanted =
      let more : AddsReady n f g = rw demands.path_is at adds in
      let now : put_in s n (Ready demands.job) ≡ d = λ i q. sym (demands.put q) i in (
        subst (λ e. IsLined name b e [] g) now (lined_more name b s s [] f g lined n demands.job demands.fresh.0 demands.named demands.fresh.1 more),
        subst (λ e. AreWanted e g) now (wanted_more name b s s [] f g lined n demands.job demands.fresh.0 demands.named demands.fresh.1 more (λ i q here. inl (wanted i q here))),
      )
  lined_opens s d path n f g (inr (stays, same, dropped)) adds lined wanted =
      let line : g ≡ f = rw dropped at adds in
      let now : s ≡ d = λ i q. sym (same q) i in
      (rw line (subst (λ e. IsLined name b e [] f) now lined), rw line (subst (λ e. AreWanted e f) now wanted))

  pub demands_end : (ns : List (List ℕ)) (n : List ℕ) (s m d : Spots J) → DemandsEach name started gives begins h b ns s m → DemandsOne name started gives begins h b m d n → DemandsEach name started gives begins h b (ns ++ n ∷ []) s d
  demands_end [] n s m d same one = let now : m ≡ s = λ i q. same q i in (d, subst (λ e. DemandsOne name started gives begins h b e d n) now one, λ q. refl)
  demands_end (i ∷ ns) n s m d (e, first, rest) one = (e, first, demands_end ns n e m d rest one)

  pub known_one : (s d : Spots J) (path : List (List ℕ)) (n : List ℕ) → Opens name started begins b s d [] path n → StaysKnown s d × (IsRule b n → IsDemanded d n)
  known_one s d path n opens = known_opens name started begins b s d [] path n opens

-- where no key can go on by the line, none can
module _ {J : Type 0} (name : J → List ℕ) (b : Book) (s : Spots J) (f : Line) (lined : IsLined name b s [] f) (none : (k : List ℕ) → f.ready k ≡ false) where
  not_ready : (k : List ℕ) → f.ready k ≡ true → ⊥
  not_ready k is = let both : true ≡ false = sym is ∙ none k in cc

  nothing_done : (n : List ℕ) → content b n ≡ None → (o : Option (Slot J)) → s n ≡ o → is_done o ≡ false
  nothing_done n nothing None there = refl
  nothing_done n nothing (Some x) there = let held = lined.rules n x there in let both = sym nothing ∙ held.1 in cc

  held_open : (k n : List ℕ) → IsHeldBy b s f n k → is_done (s n) ≡ false
  held_open k n (inl nothing) = nothing_done n nothing (s n) refl
  held_open k n (inr waits) = waits.1

  held : (k n : List ℕ) (p : J) → s k ≡ Some (Stopped p n) → IsHeldBy b s f n k
  held k n p is = elim (lined.stopped k n p is) [
    | inl now ↦ elim now [
      | inl ready ↦ absurd (not_ready k ready)
      | inr never ↦ absurd never
    ]
    | inr there ↦ there
  ]

  fresh_never : (k : List ℕ) (p : J) → s k ≡ Some (Ready p) → ⊥
  fresh_never k p is = elim (lined.fresh k p is) [
    | inl ready ↦ not_ready k ready
    | inr never ↦ never
  ]

  pub none_ready : (k : List ℕ) → is_ready s (s k) ≡ false
  none_ready k = at (s k) refl
    where
      at : (o : Option (Slot J)) → s k ≡ o → is_ready s o ≡ false
      at None is = refl
      at (Some (Ready p)) is = absurd (fresh_never k p is)
      at (Some (Stopped p n)) is = held_open k n (held k n p is)
      at (Some Out) is = refl
      at (Some (Done m)) is = refl

  pub standing : AreWanted s f → IsStanding name b s []
  standing wanted = record {
    stands = record {
      rules = lined.rules;
      named = lined.named;
      once = tt;
      open_there = λ k is_open. inr (aside k is_open.0.0 is_open.0.1 is_open.1);
    };
    chain = tt;
  }
    where
      left_so : (k n : List ℕ) → IsHeldBy b s f n k → IsLeft b s [] n
      left_so k n (inl nothing) = inl nothing
      left_so k n (inr waits) = inr ((wanted n k waits.0, waits.1), λ never. never)

      aside : (k : List ℕ) (x : Slot J) → s k ≡ Some x → is_done (s k) ≡ false → IsAside b s [] k
      aside k (Ready p) is undone = absurd (fresh_never k p is)
      aside k (Stopped p n) is undone = (p, n, is, left_so k n (held k n p is))
      aside k Out is undone = absurd (lined.none_out k is)
      aside k (Done m) is undone = let both = rw is at undone in cc

-- a set without keys
pub none_in : (s : BTreeSet (List ℕ)) → s.keys ≡ [] → (k : List ℕ) → contains name_cmp s k ≡ false
none_in s none k = ap (list_any (is_at (name_cmp k))) none
