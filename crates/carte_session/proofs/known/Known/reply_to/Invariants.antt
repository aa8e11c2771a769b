use Rattle.carte_session.proofs.known.Known.reply_to.Given as goal

abbrev pub invariant-loop-answered : goal.invariant-loop-answered
invariant-loop-answered l = Unit {0}
