use Rattle.std.proofs.Common.{refl, slice_index_or, false}
use Rattle.std.proofs.lemmas.Bool.{agree_below_at}
use Rattle.cody_words.specs.declared.octets.TheConstants.{SPECIAL}
use Rattle.cody_words.specs.Scan.{is_special}
use Rattle.cody_words.proofs.octets.is_special.Goals as goal

pub returns : goal.returns
returns c = agree_below_at (λ octet. slice_index_or SPECIAL octet false) is_special 256 c.args.octet refl c.ranges.octet.fits
