use Rattle.carte_sound.specs.LeadsTo.{chain_behind, chain_stays}
use Rattle.carte_sound.specs.Treated.{IsDoneInOrder, IsDoneRestarting, IsDoneSuspending}
use Rattle.carte_sound.proofs.PartsSound.{one_brings}
use Rattle.carte_sound.proofs.parts.one_part_leads.Goals as goal

pub returns : goal.returns
returns c = record {
  in_order = λ h K b targets. one_brings h (λ M k. IsDoneInOrder b targets k) chain_stays K b;
  refused = λ h K b. one_brings h (λ M k. ⊥) chain_stays K b;
  suspending = λ h K b targets. one_brings h (λ M k. IsDoneSuspending h M b targets k) chain_stays K b;
  restarting = λ h K b targets. one_brings h (λ M k. IsDoneRestarting h M b targets k) chain_behind K b;
}
