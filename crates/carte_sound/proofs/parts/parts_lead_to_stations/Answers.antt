use Rattle.carte_sound.proofs.PartsSound.{part_station, parts_applied}
use Rattle.carte_sound.proofs.parts.parts_lead_to_stations.Goals as goal

pub returns : goal.returns
returns c = record {
  some = λ h b K x finished chain parts B some rest are brought. part_station h b K x finished chain parts are B some rest brought;
  all = λ h b K x finished chain parts Bs are brought. parts_applied h b K x finished chain parts are Bs brought;
}
