-- Answers of which the first few stand apart.
use Rattle.std.proofs.Common.{◌≡◌, ℕ, List, [], ◌∷◌, ◌++◌, Option, Some, None, ap, sym, ◌∙◌, append_assoc}
use Rattle.indexmap.specs.IndexMap.{insert_entry}
use Rattle.indexmap.proofs.MapLemmas.{insert_entry-absent, absent_from_lookup}
use Rattle.carte_value.specs.declared.value.Value.{Value}
use Rattle.carte_value.specs.declared.link.Link.{Link}
use Rattle.carte_name.specs.Names.{name_eq}
use Rattle.carte_value.specs.Once.{Answers, answer_in, or_else}
use Rattle.carte_value.proofs.Laws.{answer_on}
use Rattle.carte_effect.specs.Outcomes.{links_of}
use Rattle.carte_task.proofs.Links.{links_on}

neither : (o p : Option Value) → or_else o p ≡ None → p ≡ None
neither (Some v) p none = cc
neither None p none = none

-- a name without an answer goes behind those that have an index
pub put_behind : (few more new all : Answers) (k : List ℕ) (v : Value) → all ≡ few ++ more → answer_in all k ≡ None → new ≡ insert_entry name_eq more k v → few ++ new ≡ all ++ (k, v) ∷ []
put_behind few more new all k v is none put =
    let not_behind : answer_in more k ≡ None = neither (answer_in few k) (answer_in more k) (sym (answer_on few more k) ∙ ap (λ a. answer_in a k) (sym is) ∙ none) in
    ap (λ a. few ++ a) (put ∙ insert_entry-absent name_eq k v more (absent_from_lookup (name_eq k) more not_behind)) ∙ sym (append_assoc few more ((k, v) ∷ [])) ∙ ap (λ a. a ++ (k, v) ∷ []) (sym is)

pub linked : (few more all : Answers) (none some links : List Link) → all ≡ few ++ more → none ≡ [] → some ≡ none ++ links_of few → links ≡ some ++ links_of more → links ≡ links_of all
linked few more all none some links is nothing first then =
    then ∙ ap (λ ls. ls ++ links_of more) (first ∙ ap (λ ls. ls ++ links_of few) nothing) ∙ sym (links_on few more) ∙ ap links_of (sym is)
