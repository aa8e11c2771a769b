-- Links of answers, one after the other.
use Rattle.std.proofs.Common.{◌≡◌, ℕ, ◌+◌, ◌<◌, List, [], ◌∷◌, ◌++◌, Some, length, take, get_or, refl, ap, sym, ◌∙◌, append_assoc}
use Rattle.std.specs.List.{slice_get}
use Rattle.std.proofs.lemmas.List.{take_more}
use Rattle.std.proofs.lemmas.Option.{get_or_from_slice_get, slice_get_within}
use Rattle.carte_value.specs.declared.value.Value.{Value}
use Rattle.carte_value.specs.declared.link.Link.{Link}
use Rattle.carte_value.specs.Once.{Answers}
use Rattle.carte_value.specs.Spelling.{digest_of}
use Rattle.carte_effect.specs.Outcomes.{links_of}

pub links_on : (a b : Answers) → links_of (a ++ b) ≡ links_of a ++ links_of b
links_on [] b = refl
links_on ((k, v) ∷ a) b = ap (λ ls. record { name = k; digest = digest_of v } ∷ ls) (links_on a b)

pub links_more : (a : Answers) (at : ℕ) (p : List ℕ × Value) (base old new : List Link) → at < length a → p ≡ get_or a at p → old ≡ base ++ links_of (take at a) → new ≡ old ++ links_of (p ∷ []) → new ≡ base ++ links_of (take (at + 1) a)
links_more a at p base old new within item before put =
    put ∙ ap (λ ls. ls ++ links_of (p ∷ [])) before ∙ append_assoc base (links_of (take at a)) (links_of (p ∷ []))
    ∙ ap (λ ls. base ++ ls) (sym (links_on (take at a) (p ∷ [])) ∙ ap links_of (ap (λ q. take at a ++ q ∷ []) item ∙ sym (take_more a at p within)))

pub links_further : (a : Answers) (at : ℕ) (k : List ℕ) (v : Value) (base old new : List Link) → slice_get a at ≡ Some (k, v) → old ≡ base ++ links_of (take at a) → new ≡ old ++ links_of ((k, v) ∷ []) → new ≡ base ++ links_of (take (at + 1) a)
links_further a at k v base old new here before put =
    links_more a at (k, v) base old new (slice_get_within a at (k, v) here) (sym (get_or_from_slice_get a at (k, v) (k, v) here)) before put
