use Rattle.mapper_requests.proofs.Table as lemma
use Rattle.mapper_requests.proofs.laws.room_fits.Goals as goal

pub returns : goal.returns
returns c = λ words. lemma.room_small words
