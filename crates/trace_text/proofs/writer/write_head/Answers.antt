use Rattle.std.proofs.Common.{List, ℕ, ◌++◌, ◌∷◌, [], ap, subst}
use Rattle.std.specs.Prelude.{decimal}
use Rattle.cody_words.specs.Octets.{newline}
use Rattle.cody_words.specs.Buffers.{Appends}
use Rattle.cody_words.proofs.Written.{Appends-then}
use Rattle.trace_text.proofs.Cuts.{head_text}
use Rattle.trace_text.proofs.writer.write_head.Goals as goal

pub returns-clause-text : goal.returns-clause-text
returns-clause-text c =
    let numbers = Appends-then _ _ _ _ _ c.extend.ensures c.write_numbers.ensures.text in
    let whole = Appends-then _ _ _ _ _ numbers c.push.ensures in
    subst (λ (text : List ℕ). Appends c.args.out.now c.push.new.self text) (ap (λ line. line ++ newline ∷ []) (head_text (decimal c.args.workers) (decimal c.args.limit))) whole
