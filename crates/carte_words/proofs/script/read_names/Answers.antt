use Rattle.std.proofs.Common.{ℕ, List, Some, ◌≡◌, ◌∙◌, ◌++◌, ◌∷◌, [], ap, sym, rules}
use Rattle.std.proofs.lemmas.List.{append-nil}
use Rattle.carte_words.specs.Cuts.{words_in}
use Rattle.carte_words.specs.Lines.{names_of, in_front}
use Rattle.carte_words.proofs.Commands.{all_before, words_next, next_shorter, named_more, named_first, not_named, words_none}
use Rattle.carte_words.proofs.script.read_names.Goals as goal

pub returns-in-Ok-None : goal.returns-in-Ok-None
returns-in-Ok-None c =
    let word = c.in-Some.word.now in
    let rest = c.in-Some.rest.now in
    sym c.loop-word.invariant.0
    ∙ ap (λ (ws : List (List ℕ)). all_before c.loop-word.names (names_of c.args.kind ws)) (words_next c.loop-word.left.now word rest c.in-Some.ensures)
    ∙ ap (all_before c.loop-word.names) (not_named c.args.kind word (words_in rest) (rw c.in-Ok-None.field-0-is at c.in-Ok-None.ensures))

pub loop-word-smaller : goal.loop-word-smaller
loop-word-smaller c = next_shorter c.loop-word.left.now c.in-Some.word.now c.in-Some.rest.now c.in-Some.ensures

pub loop-word-preserved : goal.loop-word-preserved
loop-word-preserved c =
    let word = c.in-Some.word.now in
    let rest = c.in-Some.rest.now in
    let pushed : c.push.new.self ≡ c.loop-word.names ++ c.in-Ok-Some.name ∷ [] = c.in_ok-push-in-Ok-Some.ensures in
    let named = rw c.in-Ok-Some.field-0-is at c.in-Ok-Some.ensures in (
      ap (λ (ns : List (List ℕ)). all_before ns (names_of c.args.kind (words_in rest))) pushed
          ∙ named_more c.loop-word.names c.in-Ok-Some.name (names_of c.args.kind (words_in rest))
          ∙ ap (all_before c.loop-word.names) (ap (λ (k : List ℕ). in_front k (names_of c.args.kind (words_in rest))) named.1 ∙ sym (named_first c.args.kind word (words_in rest) named.0))
          ∙ ap (λ (ws : List (List ℕ)). all_before c.loop-word.names (names_of c.args.kind ws)) (sym (words_next c.loop-word.left.now word rest c.in-Some.ensures))
          ∙ c.loop-word.invariant.0,
      search rules,
    )

pub returns : goal.returns
returns c =
    sym c.loop-word.invariant.0
    ∙ ap (λ (ws : List (List ℕ)). all_before c.loop-word.names (names_of c.args.kind ws)) (words_none c.loop-word.left.now c.in_default.ensures)
    ∙ ap Some (append-nil c.loop-word.names)
