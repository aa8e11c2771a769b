use Rattle.std.proofs.Common.{◌≡◌, refl, sym, subst, inl}
use Rattle.std.specs.Prelude.{IfNone}
use Rattle.carte_record.specs.Kept.{kept_view, nothing_kept}
use Rattle.carte_state.specs.Folding.{Keeps}
use Rattle.carte_state.specs.Versions.{InTwo}
use Rattle.carte_trim.specs.Around.{over_part}
use Rattle.carte_trim.proofs.Files.{new_keeps, new_leaves}
use Rattle.carte_trim.proofs.Running.{made_length}
use Rattle.carte_trim.proofs.make.make.Goals as goal

pub returns-in-Ok-None : goal.returns-in-Ok-None
returns-in-Ok-None g c =
    let s = g.N.Disk.story c.args.new.now in
    let u = g.N.Disk.story c.length_of.new.new in
    let K = kept_view c.args.kept.now in
    let none : K ≡ nothing_kept = subst (λ o. IfNone o (K ≡ nothing_kept)) c.in-Ok-None.field-0-is c.in-Ok-None.ensures.nothing in
    made_length 536870912 K (over_part g.N.Disk.tells g.N.Disk.story g.N.Disk.faults c.args.new.now c.length_of.new.new) (g.N.Disk.faults c.args.new.now) c.length_of.result refl
    (record {
      keeps =
          λ told new.
          subst (λ t. Keeps 536870912 (InTwo K) t.now.reads) (sym (c.length_of.ensures.same told))
          (subst (λ M. Keeps 536870912 (InTwo M) s.now.reads) (sym none) (new_keeps 536870912 s.now.reads new.short));
      room = inl (none, c.length_of.ensures.same);
    })
    c.length_of.ensures.length (λ told new. new_leaves 536870912 K s u new (c.length_of.ensures.same told))

pub returns-in-Err : goal.returns-in-Err
returns-in-Err g c = record {
  made = refl;
  leaves = λ told new. new_leaves 536870912 (kept_view c.args.kept.now) (g.N.Disk.story c.args.new.now) (g.N.Disk.story c.args.new.now) new refl;
}
