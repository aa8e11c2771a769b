-- What fits before a drive over a part of its truth fits after it.
use Rattle.std.proofs.Common.{ℕ, List, [], ◌∷◌, Option, refl, sym, ◌∙◌, subst, inl}
use Rattle.carte_value.specs.declared.value.Value.{Value}
use Rattle.carte_value.specs.Truths.{Truth, Extends, Among}
use Rattle.carte_value.specs.Asks.{Asks, done, asked}
use Rattle.carte_value.specs.Once.{Answers, AnswersOf, Went, names_of}
use Rattle.carte_value.proofs.Once.{went_run, went_asked}
use Rattle.carte_value.proofs.Members.{among_left, among_right}
use Rattle.carte_effect.specs.declared.outcome.Made.{Made}
use Rattle.carte_effect.specs.Jobs.{Step, came, stopped, no_memory, DriveFits}
use Rattle.carte_rebuild.specs.Trying.{Gives, FitsLeft}

pub known_more : (t u : Truth) (a : Answers) → Extends t u → AnswersOf t a → AnswersOf u a
known_more t u [] more of = tt
known_more t u ((k, v) ∷ a) more (is, of) = (more k v is, known_more t u a more of)

fits_after : (p q : Asks Made) (t : Truth) (k : List ℕ) (v : Option Value) (needs asks : List (List ℕ)) (a : Answers) → FitsLeft p t k v needs asks → AnswersOf t a → Went p a q → FitsLeft q t k v needs asks
fits_after p q t k v needs asks a fits known went = record {
  ends = λ m is. fits.ends m (went_run t p q a went known ∙ is);
  needed = λ j among. fits.needed j (subst (λ ks. Among ks j) (sym (went_asked t p q a went known)) (among_right (names_of a) (asked t q) j among));
  asks_needs = fits.asks_needs;
}

asked_on_way : (p q : Asks Made) (t : Truth) (k : List ℕ) (v : Option Value) (needs asks : List (List ℕ)) (a : Answers) → FitsLeft p t k v needs asks → AnswersOf t a → Went p a q → (j : List ℕ) → Among (names_of a) j → Among asks j
asked_on_way p q t k v needs asks a fits known went j among =
    fits.asks_needs j (fits.needed j (subst (λ ks. Among ks j) (sym (went_asked t p q a went known)) (among_left (names_of a) (asked t q) j among)))

pub tries_fits_on : {J : Type 0} (left : J → Asks Made) (p q : J) (t part : Truth) (k : List ℕ) (v : Option Value) (needs asks : List (List ℕ)) (a : Answers) (step : Step) → FitsLeft (left p) t k v needs asks → Extends part t → Gives (left p) part a step (left q) → DriveFits (λ j u i w ns ms. FitsLeft (left j) u i w ns ms) t k v needs asks part a step q
tries_fits_on left p q t part k v needs asks a (came m) fits more (known, went) =
    let of = known_more part t a more known in
    record {
      asked = asked_on_way (left p) (done m) t k v needs asks a fits of went;
      step_fits = fits.ends m (went_run t (left p) (done m) a went of);
    }
tries_fits_on left p q t part k v needs asks a (stopped j) fits more (known, went, (go, is), none) =
    let of = known_more part t a more known in
    let after = fits_after (left p) (left q) t k v needs asks a fits of went in
    record {
      asked = asked_on_way (left p) (left q) t k v needs asks a fits of went;
      step_fits = (after.needed j (subst (λ m. Among (asked t m) j) (sym is) (inl refl)), none, after);
    }
tries_fits_on left p q t part k v needs asks a no_memory fits more (known, went) =
    let of = known_more part t a more known in
    record {
      asked = asked_on_way (left p) (left q) t k v needs asks a fits of went;
      step_fits = fits_after (left p) (left q) t k v needs asks a fits of went;
    }
