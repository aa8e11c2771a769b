use Rattle.std.proofs.Common.{◌≡◌, ◌+◌, ◌∷◌, ◌∙◌, ap, sym, drop, get_or}
use Rattle.std.proofs.Math.Seq.{drop-cons}
use native.Mathlib.Numerals.{unary_clauses}
use Rattle.clap.specs.Walk.{texts}
use Rattle.carte_words.specs.Words.{names_in}
use Rattle.carte_words.proofs.Naming.{put_before, put_next}
use Rattle.carte_words.proofs.targets.read_names.Goals as goal

pub loop-word-preserved : goal.loop-word-preserved
loop-word-preserved c =
    let at = c.loop-word.word-index in
    let words = c.args.words.now in
    let next : drop at words ≡ get_or words at _ ∷ drop (at + 1) words = simp unary_clauses (drop-cons words at _ c.loop-word-test.true) in
    ap (λ ns. put_before ns (names_in c.args.kind (texts (drop (at + 1) words)))) c.in_default.ensures
    ∙ put_next c.args.kind c.loop-word.names _ c.in_ok-name.name _ c.in_ok-name.ensures
    ∙ ap (λ ts. put_before c.loop-word.names (names_in c.args.kind ts)) (sym (ap texts next))
    ∙ c.loop-word.invariant
