use Rattle.carte_session.proofs.SessionLaws.{too_long_is}
use Rattle.carte_session.proofs.laws.too_long.Goals as goal

pub returns : goal.returns
returns g c = too_long_is g.M.Machine.answers g.M.Machine.ends g.S.Source.tells g.O.Sink.tells
