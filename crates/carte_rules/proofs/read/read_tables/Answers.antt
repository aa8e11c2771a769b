use Rattle.carte_rules.proofs.read.read_tables.Goals as goal

pub invariant_of-draft : goal.invariant_of-draft
invariant_of-draft c =
    let grown = c.read_inputs.new.draft.keys.book in
    record { is_nothing = grown.is_nothing; fits = grown.fits; listed = grown.listed; knows = grown.knows }

pub invariant_of-draft-in_err-read_formulas : goal.invariant_of-draft-in_err-read_formulas
invariant_of-draft-in_err-read_formulas c =
    let grown = c.read_formulas.new.draft.keys.book in
    record { is_nothing = grown.is_nothing; fits = grown.fits; listed = grown.listed; knows = grown.knows }
