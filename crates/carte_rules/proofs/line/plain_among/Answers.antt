use Rattle.std.proofs.Common.{◌≡◌, take, false, arith, length-take-le}
use Rattle.std.specs.List.{prefix_len}
use Rattle.std.proofs.lemmas.List.Sums.{prefix_len-le-length}
use Rattle.toml_parser.specs.Strings.{is_plain}
use Rattle.carte_rules.proofs.Lanes.{joined, tested, first_end, set_or_plain}
use Rattle.carte_rules.proofs.line.plain_among.Goals as goal

pub returns-clause-len : goal.returns-clause-len
returns-clause-len c =
    let v = take 16 c.args.bytes.now in
    let d = c.args.delim in
    let e = c.escape_of-escape.result in
    let long = length-take-le 16 c.args.bytes.now c.requires in
    first_end (is_plain d false) v _ _ long c.first_set.ensures _
    (joined _ _ _ v (joined _ _ _ v (tested _ v d long) (tested _ v e long)) (joined _ _ _ v (joined _ _ _ v (tested _ v 32 long) (tested _ v 9 long)) (tested _ v 127 long)))
    (set_or_plain d e c.escape_of-escape.ensures)

pub returns-clause-within : goal.returns-clause-within
returns-clause-within c =
    let run : c.first_set.result ≡ prefix_len (is_plain c.args.delim false) (take 16 c.args.bytes.now) = returns-clause-len c in
    omega (arith, run, prefix_len-le-length (is_plain c.args.delim false) (take 16 c.args.bytes.now), length-take-le 16 c.args.bytes.now c.requires)
