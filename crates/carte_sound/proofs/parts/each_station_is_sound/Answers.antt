use Rattle.carte_sound.specs.LeadsTo.{chain_behind, chain_stays}
use Rattle.carte_sound.specs.Treated.{IsDoneInOrder, IsDoneRestarting, IsDoneSuspending}
use Rattle.carte_sound.proofs.Leading.{behind_once}
use Rattle.carte_sound.proofs.PartsSound.{stations_sound}
use Rattle.carte_sound.proofs.parts.each_station_is_sound.Goals as goal

pub returns : goal.returns
returns c = record {
  in_order = λ h K H b targets some rest sound distinct leads. stations_sound h (λ M k. IsDoneInOrder b targets k) chain_stays K H b sound distinct (λ ks old once before. before) some rest leads;
  refused = λ h K H b some rest sound distinct leads. stations_sound h (λ M k. ⊥) chain_stays K H b sound distinct (λ ks old once before. before) some rest leads;
  suspending = λ h K H b targets some rest sound distinct leads. stations_sound h (λ M k. IsDoneSuspending h M b targets k) chain_stays K H b sound distinct (λ ks old once before. before) some rest leads;
  restarting = λ h K H b targets some rest sound distinct leads. stations_sound h (λ M k. IsDoneRestarting h M b targets k) chain_behind K H b sound distinct behind_once some rest leads;
}
