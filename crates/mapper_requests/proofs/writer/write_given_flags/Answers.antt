use Rattle.std.proofs.Common.{List, ℕ, subst, arith}
use Rattle.cody_words.specs.Buffers.{Appends}
use Rattle.mapper_requests.proofs.Lines.{flags_behind}
use Rattle.mapper_requests.proofs.writer.write_given_flags.Goals as goal

pub returns-then-flags-ne0-clause-text : goal.returns-then-flags-ne0-clause-text
returns-then-flags-ne0-clause-text c = subst (λ (text : List ℕ). Appends c.args.out.now c.write_next_number.new.out text) (flags_behind c.args.flags (omega arith) (λ e. omega arith)) c.write_next_number.ensures.text
