use Rattle.std.proofs.Common.{List, ℕ, subst}
use Rattle.cody_words.specs.Buffers.{Appends}
use Rattle.cody_words.proofs.Written.{Appends-then}
use Rattle.mapper_requests.specs.Working.{row_of}
use Rattle.mapper_requests.proofs.Lines.{named_text, verb_bare}
use Rattle.mapper_requests.proofs.writer.write_named.Goals as goal

pub returns-clause-text : goal.returns-clause-text
returns-clause-text c =
    let verb = subst (λ (text : List ℕ). Appends c.args.out.now c.extend.new.self text) c.text.ensures c.extend.ensures in
    let name = Appends-then _ _ _ _ _ verb c.write_next.ensures.text in
    let flags = Appends-then _ _ _ _ _ name c.write_given_flags.ensures.text in
    subst (λ (text : List ℕ). Appends c.args.out.now c.write_given_flags.new.out text) (named_text (row_of c.args.verb).verb c.args.name.now c.args.flags (verb_bare c.args.verb)) flags
