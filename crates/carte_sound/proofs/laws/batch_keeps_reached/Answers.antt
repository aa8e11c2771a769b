use Rattle.carte_sound.specs.Treated.{IsDoneRestarting, IsDoneSuspending}
use Rattle.carte_sound.specs.LeadsTo.{chain_stays, chain_behind}
use Rattle.carte_sound.proofs.Leading.{brings_kept}
use Rattle.carte_sound.proofs.Keeping.{ordered_keeps, suspended_keeps, restarted_keeps}
use Rattle.carte_sound.proofs.laws.batch_keeps_reached.Goals as goal

pub returns : goal.returns
returns c = record {
  in_order = ordered_keeps;
  suspending = suspended_keeps;
  restarting = restarted_keeps;
  deep = λ h K H b targets B sound distinct brings k is_done. brings_kept h (λ M j. IsDoneSuspending h M b targets j) chain_stays K H b B sound distinct brings k is_done;
  deep_restarting = λ h K H b targets B sound distinct brings k is_done. brings_kept h (λ M j. IsDoneRestarting h M b targets j) chain_behind K H b B sound distinct brings k is_done;
}
