use Rattle.std.proofs.Common.{◌∷◌, sym, ap, ◌∙◌}
use Rattle.std.specs.List.{after_first}
use Rattle.cody_words.specs.Octets.{space}
use Rattle.trace_text.specs.Working.{is_octet, words_in}
use Rattle.trace_text.proofs.Cuts.{words_found, words_none}
use Rattle.trace_text.proofs.words.cut_word.Goals as goal

pub returns-in-Some : goal.returns-in-Some
returns-in-Some c =
    words_found c.args.text.now c.in-Some.ensures.found
    ∙ ap (λ word. word ∷ words_in (after_first (is_octet space) c.args.text.now)) (sym c.in-Some.ensures.front)
    ∙ ap (λ rest. c.in-Some.word.now ∷ words_in rest) (sym c.in-Some.ensures.back)

pub returns-in-None : goal.returns-in-None
returns-in-None c = words_none c.args.text.now c.in-None.ensures.none
