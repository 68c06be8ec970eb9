use Rattle.std.proofs.Common.{List, ℕ, subst, arith}
use Rattle.cody_words.specs.Buffers.{Appends}
use Rattle.cody_words.proofs.Written.{Appends-then}
use Rattle.mapper_requests.proofs.Lines.{hello_text}
use Rattle.mapper_requests.proofs.writer.write_hello.Goals as goal

pub returns-clause-text : goal.returns-clause-text
returns-clause-text c =
    let verb = subst (λ (text : List ℕ). Appends c.args.out.now c.extend.new.self text) c.text.ensures c.extend.ensures in
    let version = Appends-then _ _ _ _ _ verb c.write_next_number.ensures.text in
    let compiler = Appends-then _ _ _ _ _ version c.write_next.ensures.text in
    let ident = Appends-then _ _ _ _ _ compiler c.write_given_text.ensures.text in
    subst (λ (text : List ℕ). Appends c.args.out.now c.write_given_text.new.out text) (hello_text c.args.version c.args.compiler.now c.args.ident.now (omega arith)) ident
