-- Answers on the way through one computation behind another.
use Rattle.std.proofs.Common.{ℕ, List, [], ◌∷◌, ◌++◌, Option, refl, ap, sym, ◌∙◌, append_assoc, append-nil, subst}
use Rattle.carte_value.specs.declared.value.Value.{Value}
use Rattle.carte_value.specs.Truths.{Truth}
use Rattle.carte_value.specs.Asks.{Asks, and_then}
use Rattle.carte_value.specs.Once.{Answers, Went}
use Rattle.carte_value.proofs.Once.{went_on, answers_on}
use Rattle.carte_effect.specs.Effects.{more}
use Rattle.carte_effect.proofs.More.{more_none, more_more}
use Rattle.carte_task.specs.Answered.{Led, StopsAt}
use Rattle.carte_rebuild.specs.Trying.{with_links}

-- the first part goes on, whatever comes then
pub went_then : {A B : Type 0} (m r : Asks A) (f : A → Asks B) (a : Answers) → Went m a r → Went (and_then m f) a (and_then r f)
went_then m r f [] is = ap (λ n. and_then n f) is
went_then m r f ((k, v) ∷ a) (go, is, rest) = ((λ w. and_then (go w) f), ap (λ n. and_then n f) is, went_then (go v) r f a rest)

-- a task goes on
pub went_links : (k : List ℕ) (m r : Asks Value) (b a : Answers) → Went m a r → Went (with_links k b m) a (with_links k (b ++ a) r)
went_links k m r b [] is = ap (with_links k b) is ∙ ap (λ c. with_links k c r) (sym (append-nil b))
went_links k m r b ((j, v) ∷ a) (go, is, rest) = (
  (λ w. with_links k (b ++ (j, w) ∷ []) (go w)),
  ap (with_links k b) is,
  subst (λ c. Went (with_links k (b ++ (j, v) ∷ []) (go v)) a (with_links k c r)) (append_assoc b ((j, v) ∷ []) a) (went_links k (go v) r (b ++ (j, v) ∷ []) a rest),
)

pub led_none : {A : Type 0} (t : Truth) (log : Option Answers) (r : Asks A) → Led t log log r [] r
led_none t log r = record { known = tt; went = refl; logged = sym (more_none log) }

-- one way behind the other
pub led_on : {A : Type 0} (t : Truth) (log0 log1 log : Option Answers) (m n r : Asks A) (a b : Answers) → Led t log0 log1 m a n → Led t log1 log n b r → Led t log0 log m (a ++ b) r
led_on t log0 log1 log m n r a b first then = record {
  known = answers_on t a b first.known then.known;
  went = went_on m n r a b first.went then.went;
  logged = then.logged ∙ ap (λ l. more l b) first.logged ∙ more_more log0 a b;
}

pub led_then : {A B : Type 0} (t : Truth) (log0 log : Option Answers) (m r : Asks A) (f : A → Asks B) (a : Answers) → Led t log0 log m a r → Led t log0 log (and_then m f) a (and_then r f)
led_then t log0 log m r f a led = record { known = led.known; went = went_then m r f a led.went; logged = led.logged }

pub stops_then : {A B S : Type 0} (t : Truth) (own : List ℕ → S → Type 0) (r : Asks A) (f : A → Asks B) (s : S) → StopsAt t own r s → StopsAt t own (and_then r f) s
stops_then t own r f s stop = record { name = stop.name; go = λ v. and_then (stop.go v) f; is = ap (λ n. and_then n f) stop.is; none = stop.none; own_stop = stop.own_stop }
