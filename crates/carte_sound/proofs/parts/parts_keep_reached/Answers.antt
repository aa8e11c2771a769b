use Rattle.carte_sound.specs.LeadsTo.{chain_behind, chain_stays}
use Rattle.carte_record.specs.Folds.{applied}
use Rattle.carte_sound.specs.Treated.{IsDoneInOrder, IsDoneRestarting, IsDoneSuspending}
use Rattle.carte_sound.proofs.Keeping.{ordered_reached, restarted_reached, suspended_reached}
use Rattle.carte_sound.proofs.Leading.{behind_once}
use Rattle.carte_sound.proofs.PartsSound.{parts_kept, parts_left}
use Rattle.carte_sound.proofs.parts.parts_keep_reached.Goals as goal

pub returns : goal.returns
returns c = record {
  in_order = λ h K H b targets Bs sound distinct leads clean. ordered_reached h K H b targets (applied K Bs) sound distinct clean (parts_left h (λ M k. IsDoneInOrder b targets k) chain_stays K b Bs leads);
  suspending = λ h K H b targets Bs shallow sound distinct leads clean. suspended_reached h K H b targets (applied K Bs) sound distinct clean shallow (parts_left h (λ M k. IsDoneSuspending h M b targets k) chain_stays K b Bs leads);
  restarting = λ h K H b targets Bs shallow sound distinct leads clean. restarted_reached h K H b targets (applied K Bs) sound distinct clean shallow (parts_left h (λ M k. IsDoneRestarting h M b targets k) chain_behind K b Bs leads);
  deep = λ h K H b targets Bs sound distinct brings k is_done. parts_kept h (λ M j. IsDoneSuspending h M b targets j) chain_stays K H b sound distinct (λ ks old once before. before) Bs brings k is_done;
  deep_restarting = λ h K H b targets Bs sound distinct brings k is_done. parts_kept h (λ M j. IsDoneRestarting h M b targets j) chain_behind K H b sound distinct behind_once Bs brings k is_done;
}
