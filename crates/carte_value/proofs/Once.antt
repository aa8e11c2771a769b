-- What the answers on the way from one computation to another say.
use Rattle.std.proofs.Common.{◌≡◌, ℕ, List, [], ◌∷◌, ◌++◌, Some, refl, ap}
use Rattle.carte_value.specs.declared.value.Value.{Value}
use Rattle.carte_value.specs.Truths.{Truth}
use Rattle.carte_value.specs.Asks.{Asks, ask, run, asked}
use Rattle.carte_value.specs.Once.{Answers, Went, AnswersOf, names_of}

-- one more answer
pub went_end : {A : Type 0} (m : Asks A) (a : Answers) (k : List ℕ) (go : Value → Asks A) (v : Value) → Went m a (ask k go) → Went m (a ++ (k, v) ∷ []) (go v)
went_end m [] k go v is = (go, is, refl)
went_end m ((j, w) ∷ a) k go v (on, is, rest) = (on, is, went_end (on w) a k go v rest)

-- one way behind the other
pub went_on : {A : Type 0} (m n r : Asks A) (a b : Answers) → Went m a n → Went n b r → Went m (a ++ b) r
went_on m n r [] b is way = rw is way
went_on m n r ((k, v) ∷ a) b (go, is, rest) way = (go, is, went_on (go v) n r a b rest way)

pub answers_end : (t : Truth) (a : Answers) (k : List ℕ) (v : Value) → AnswersOf t a → t k ≡ Some v → AnswersOf t (a ++ (k, v) ∷ [])
answers_end t [] k v of is = (is, tt)
answers_end t ((j, w) ∷ a) k v (one, rest) is = (one, answers_end t a k v rest is)

pub answers_on : (t : Truth) (a b : Answers) → AnswersOf t a → AnswersOf t b → AnswersOf t (a ++ b)
answers_on t [] b of more = more
answers_on t ((k, v) ∷ a) b (one, rest) more = (one, answers_on t a b rest more)

pub names_on : (a b : Answers) → names_of (a ++ b) ≡ names_of a ++ names_of b
names_on [] b = refl
names_on ((k, v) ∷ a) b = ap (λ ks. k ∷ ks) (names_on a b)

-- over a truth that gave the answers, the whole ends as what is left
pub went_run : {A : Type 0} (t : Truth) (m r : Asks A) (a : Answers) → Went m a r → AnswersOf t a → run t m ≡ run t r
went_run t m r [] is of = ap (run t) is
went_run t m r ((k, v) ∷ a) (go, is, rest) (one, of) = rw (is, one) (went_run t (go v) r a rest of)

-- and it asks for the names of the answers, and then for those of what is left
pub went_asked : {A : Type 0} (t : Truth) (m r : Asks A) (a : Answers) → Went m a r → AnswersOf t a → asked t m ≡ names_of a ++ asked t r
went_asked t m r [] is of = ap (asked t) is
went_asked t m r ((k, v) ∷ a) (go, is, rest) (one, of) = rw (is, one) (ap (λ ks. k ∷ ks) (went_asked t (go v) r a rest of))
