use Rattle.cody_words.specs.Octets.{space}
use Rattle.trace_text.proofs.Cuts.{first_is}
use Rattle.trace_text.proofs.words.place_of_space.Goals as goal

pub returns : goal.returns
returns c = first_is space c.args.octets.now c.memchr.result c.memchr.ensures
