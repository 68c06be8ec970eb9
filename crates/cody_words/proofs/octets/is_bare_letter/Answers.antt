use Rattle.std.proofs.Common.{refl, slice_index_or, false}
use Rattle.std.proofs.lemmas.Bool.{agree_below_at}
use Rattle.cody_words.specs.declared.octets.TheConstants.{BARE_LETTERS}
use Rattle.cody_words.specs.Canonical.{is_bare_letter}
use Rattle.cody_words.proofs.octets.is_bare_letter.Goals as goal

pub returns : goal.returns
unfolding is_bare_letter
returns c = agree_below_at (λ octet. slice_index_or BARE_LETTERS octet false) is_bare_letter 256 c.args.octet refl c.ranges.octet.fits
