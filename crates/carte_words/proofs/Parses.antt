-- The command that is written out is one of which `clap` tells the whole meaning.
use Rattle.std.proofs.Common.{◌≡◌, true, List, [], refl, map, subst, inl, inr}
use Rattle.std.proofs.lemmas.List.{map-id}
use Rattle.clap.specs.Words.{App, Text, HasMatchesOf, found_of, rows_of, kind_of, HasKind, Kinds, is_simple, is_simple_and_free, fault_of}
use Rattle.clap.specs.declared.parser.matches.ArgMatches.{ArgMatches}
use Rattle.clap.specs.declared.error.Error.{Error}
use Rattle.clap.specs.declared.error.kind.ErrorKind.TheVariants.{OutOfMemory}
use Rattle.clap.proofs.OnLiterals.{clap_on_literals}
use Rattle.carte_words.specs.Arguments.{carte, faults_of, values_of}

pub simple : is_simple carte ≡ true
unfolding carte clap_on_literals
simple = refl

pub free : is_simple_and_free carte ≡ true
unfolding carte clap_on_literals
free = refl

pub values : (a : App) (words : List Text) (m : ArgMatches) → a ≡ carte → HasMatchesOf a (map (λ (w : Text). w) words) m
    → rows_of (found_of m) ≡ values_of words
unfolding values_of
values a words m e h =
    let at_carte : HasMatchesOf carte (map (λ (w : Text). w) words) m = subst (λ (x : App). HasMatchesOf x (map (λ (w : Text). w) words) m) e h in
    let at_words : HasMatchesOf carte words m = subst (λ (ws : List Text). HasMatchesOf carte ws m) (map-id words) at_carte in
    (at_words simple).0

pub no_faults : (a : App) (words : List Text) → a ≡ carte → (is_simple_and_free a ≡ true → fault_of a (map (λ (w : Text). w) words) ≡ [])
    → faults_of words ≡ []
unfolding faults_of
no_faults a words e h =
    let at_carte : is_simple_and_free carte ≡ true → fault_of carte (map (λ (w : Text). w) words) ≡ [] =
    subst (λ (x : App). is_simple_and_free x ≡ true → fault_of x (map (λ (w : Text). w) words) ≡ []) e h in
    subst (λ (ws : List Text). fault_of carte ws ≡ []) (map-id words) (at_carte free)

pub some_fault : (a : App) (words : List Text) (e : Error) → a ≡ carte → (is_simple_and_free a ≡ true → HasKind (fault_of a (map (λ (w : Text). w) words)) e)
    → ¬ (kind_of e ≡ OutOfMemory) → ¬ (faults_of words ≡ [])
unfolding faults_of
some_fault a words e is h not none =
    let at_carte : is_simple_and_free carte ≡ true → HasKind (fault_of carte (map (λ (w : Text). w) words)) e =
    subst (λ (x : App). is_simple_and_free x ≡ true → HasKind (fault_of x (map (λ (w : Text). w) words)) e) is h in
    let at_words : HasKind (fault_of carte words) e = subst (λ (ws : List Text). HasKind (fault_of carte ws) e) (map-id words) (at_carte free) in
    let at_none : HasKind [] e = subst (λ (ks : Kinds). HasKind ks e) none at_words in
    elim at_none [ inl o ↦ not o | inr among ↦ among ]
