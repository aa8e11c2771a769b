-- What is hashed of a trace.
use Rattle.std.specs.Prelude.{ℕ, List, ◌∷◌, ◌++◌, map}
use Rattle.carte_name.specs.Fronts as names
use Rattle.carte_record.specs.declared.trace.Trace.{Trace}
use Rattle.carte_record.specs.declared.deep_trace.DeepTrace.{DeepTrace}

-- its key, the digests of its task and of its result, and those of its links
abbrev pub fed : Trace → List (List ℕ)
fed t = names.fed t.key ++ t.task.0 ∷ t.result.0 ∷ map (λ l. l.digest.0) t.links

-- of a deep one its key, the digest of its result, and those of the tasks beneath it and of its links
abbrev pub fed_deep : DeepTrace → List (List ℕ)
fed_deep t = names.fed t.key ++ t.result.0 ∷ map (λ l. l.digest.0) t.tasks ++ map (λ l. l.digest.0) t.links
