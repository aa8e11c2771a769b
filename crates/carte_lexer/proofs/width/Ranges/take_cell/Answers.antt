use Rattle.std.proofs.Common.{◌≡◌, subst, sym, ◌∙◌, ap, ◌∷◌, ◌++◌}
use Rattle.carte_value.specs.Areas.{area_of, size_of}
use Rattle.carte_lexer.specs.Tokens.{cell}
use Rattle.carte_lexer.specs.Ranges.{begun_tokens, wide_behind, wide_counted}
use Rattle.carte_lexer.specs.declared.width.Begun.TheVariants as begun
use Rattle.carte_lexer.proofs.Ranging.{EndsBegun, range_taken, cell_taken, not_half}
use Rattle.carte_lexer.proofs.width.Ranges.take_cell.Goals as goal

pub returns-in-Half-clause-taken : goal.returns-in-Half-clause-taken
returns-in-Half-clause-taken c =
    let size : c.size.result ≡ size_of (area_of c.in-Half.opposite c.args.cell.now) = c.size.ensures.size ∙ ap size_of c.to.ensures.area in
    λ ps. range_taken c.args.self.now c.in-Half.first c.in-Half.field-2 c.args.place c.in-Half.opposite c.args.cell.now ps (sym c.replace-begun.ensures.value ∙ c.in-Half.is)
    ∙ ap (λ n. wide_counted c.args.self.now c.in-Half.first n (record { place = c.args.place; token = cell c.args.cell.now } ∷ ps)) (sym size)
    ∙ sym (c.count.ensures.cells (record { place = c.args.place; token = cell c.args.cell.now } ∷ ps))
    ∙ sym (ap (λ b. wide_behind c.count.new.self (begun_tokens b ++ ps)) (c.count.ensures.begun ∙ c.replace-begun.ensures.after ∙ ap (λ k. begun.Corner c.args.place k) c.in_ok-corner.ensures))

pub returns-clause-taken : goal.returns-clause-taken
returns-clause-taken c =
    λ ps. cell_taken c.args.self.now c.args.place c.args.cell.now ps c.args.self.now.few (subst (λ b. EndsBegun b (cell c.args.cell.now)) c.replace-begun.ensures.value (not_half c.replace-begun.result c.args.cell.now c.in_default.not-Half))
    ∙ sym (ap (λ b. wide_behind c.args.self.now (begun_tokens b ++ ps)) (c.replace-begun.ensures.after ∙ ap (λ k. begun.Corner c.args.place k) c.in_ok-corner.ensures))
