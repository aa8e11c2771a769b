use Rattle.carte_rules.proofs.entries.put_tables.Goals as goal

pub invariant_of-draft : goal.invariant_of-draft
invariant_of-draft c =
    let grown = c.put_inputs.new.draft.keys.book in
    record { is_nothing = grown.is_nothing; fits = grown.fits; listed = grown.listed; knows = grown.knows }

pub invariant_of-draft-in_err-put_rules : goal.invariant_of-draft-in_err-put_rules
invariant_of-draft-in_err-put_rules c =
    let grown = c.put_rules.new.draft.keys.book in
    record { is_nothing = grown.is_nothing; fits = grown.fits; listed = grown.listed; knows = grown.knows }
