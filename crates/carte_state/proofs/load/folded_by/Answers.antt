use Rattle.std.proofs.Common.{◌∙◌, arith, subst}
use Rattle.carte_state.specs.Parts.{ReadsTo, made_view}
use Rattle.carte_state.specs.Versions.{Fresh}
use Rattle.carte_state.proofs.Reading.{reads_bad, reads_disk, reads_ok, some_bodies}
use Rattle.carte_state.proofs.load.folded_by.Goals as goal

pub returns-clause-folded : goal.returns-clause-folded
returns-clause-folded g c =
    let told = c.in_ok-read.ensures {u = tt} in
    let are = (c.in_ok-parts.ensures {u = tt}).bodies ∙ c.into_vec.ensures in
    reads_ok made_view Fresh c.args.bodies c.put_read.result
    (subst (λ bs. ReadsTo made_view Fresh bs c.put_read.result) are
    (c.put_read.ensures c.in_ok-parts.parts.items (λ cut. some_bodies are (omega (arith, c.are_cut-is_cut.ensures cut, c.len-number.ensures.len))) told.len told.each))

pub returns-clause-bad : goal.returns-clause-bad
returns-clause-bad g c =
    let told = c.in_ok-read.ensures {u = tt} in
    let are = (c.in_ok-parts.ensures {u = tt}).bodies ∙ c.into_vec.ensures in
    reads_bad made_view Fresh c.args.bodies c.put_read.result
    (subst (λ bs. ReadsTo made_view Fresh bs c.put_read.result) are
    (c.put_read.ensures c.in_ok-parts.parts.items (λ cut. some_bodies are (omega (arith, c.are_cut-is_cut.ensures cut, c.len-number.ensures.len))) told.len told.each))

pub returns-clause-disk : goal.returns-clause-disk
returns-clause-disk g c =
    let told = c.in_ok-read.ensures {u = tt} in
    let are = (c.in_ok-parts.ensures {u = tt}).bodies ∙ c.into_vec.ensures in
    reads_disk made_view Fresh c.args.bodies c.put_read.result
    (subst (λ bs. ReadsTo made_view Fresh bs c.put_read.result) are
    (c.put_read.ensures c.in_ok-parts.parts.items (λ cut. some_bodies are (omega (arith, c.are_cut-is_cut.ensures cut, c.len-number.ensures.len))) told.len told.each))
