use Rattle.carte_sound.specs.LeadsTo.{chain_stays, chain_behind}
use Rattle.carte_sound.specs.Treated.{IsDoneInOrder, IsDoneRestarting, IsDoneSuspending}
use Rattle.carte_sound.proofs.Leading.{behind_once, brings_sound}
use Rattle.carte_sound.proofs.laws.batch_is_sound.Goals as goal

pub returns : goal.returns
returns c = record {
  in_order = λ h K H b targets B sound distinct leads. brings_sound h (λ M k. IsDoneInOrder b targets k) chain_stays K H b B sound distinct (λ ks old once before. before) leads;
  refused = λ h K H b B sound distinct leads. brings_sound h (λ M k. ⊥) chain_stays K H b B sound distinct (λ ks old once before. before) leads;
  suspending = λ h K H b targets B sound distinct leads. brings_sound h (λ M k. IsDoneSuspending h M b targets k) chain_stays K H b B sound distinct (λ ks old once before. before) leads;
  restarting = λ h K H b targets B sound distinct leads. brings_sound h (λ M k. IsDoneRestarting h M b targets k) chain_behind K H b B sound distinct behind_once leads;
}
