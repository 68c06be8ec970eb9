use Rattle.std.proofs.Common.{◌≤◌, not, length, arith, rules}
use Rattle.std.specs.List.{position_or_len}
use Rattle.std.proofs.lemmas.List.Sums.{prefix_len-le-length}
use Rattle.cody_words.specs.Scan.{is_special}
use Rattle.cody_words.proofs.scanner.bare_len.Goals as goal

pub returns-in-None : goal.returns-in-None
returns-in-None c =
    let all : length c.args.octets.now ≤ position_or_len is_special c.args.octets.now = search rules in
    omega (arith, all, prefix_len-le-length (λ octet. not (is_special octet)) c.args.octets.now)
