use Rattle.carte_wave.proofs.laws.job_laws.Goals as goal

pub returns : goal.returns
returns g c = record { fits = g.met.J.Job.fits_on; keyed = g.met.J.Job.keyed_on }
