-- One turn of a reader over a text in memory.
use Rattle.std.proofs.Common.{◌≡◌, ℕ, List, [], ◌∷◌, Some, Option, true, false, refl, Bor}
use Rattle.csv.specs.Reading.{default_config, source_of, ReadRecord, Reached}
use Rattle.csv.specs.declared.reader.Reader.{Reader}
use Rattle.csv.proofs.ReadFacts.{rows-more, rows-end}
use Rattle.carte_sheet.proofs.Records.{IsBetween, rest_from, reached_more, no_more}

abbrev pub behind : Bor (List ℕ) → Option (List ℕ)
behind s = Some s.now

-- the record that was read is the first of the rest
pub next_row : (a b : Reader (Bor (List ℕ))) (y : List ℕ) (f : List (List ℕ)) → a.config ≡ default_config → source_of behind a ≡ Some y → IsBetween a.state → ReadRecord behind a b true f
    → (z : List ℕ) × (source_of behind b ≡ Some z) × (rest_from a.state y ≡ f ∷ rest_from b.state z) × IsBetween b.state
unfolding Reached
next_row a b y f config source between r =
    let more = rows-more behind a b f default_config a.state y y [] config source (refl, refl) r in
    let got = reached_more a.state b.state y more.0 f between more.2 in
    (more.0, more.1, got.0, got.1)

-- and where there was none, nothing is left
pub no_row : (a b : Reader (Bor (List ℕ))) (y : List ℕ) → a.config ≡ default_config → source_of behind a ≡ Some y → ReadRecord behind a b false [] → rest_from a.state y ≡ []
no_row a b y config source r = no_more a.state y (rows-end behind a b [] default_config y config source r)
