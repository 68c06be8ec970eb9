use Rattle.std.proofs.Common.{◌∷◌, [], ap, ◌∙◌}
use Rattle.std.proofs.lemmas.List.{append-nil, map-append}
use Rattle.trace_text.specs.Texts.{ended, entry_line, head_line, first_lines}
use Rattle.trace_text.proofs.Free.{text_of, text_more}
use Rattle.trace_text.proofs.laws.lines_of_a_trace.Goals as goal

pub returns-clause-head : goal.returns-clause-head
returns-clause-head c = λ workers limit. append-nil (ended (head_line workers limit))

pub returns-clause-entry : goal.returns-clause-entry
returns-clause-entry c = λ workers limit history entry.
    ap (λ ls. text_of (head_line workers limit ∷ ls)) (map-append entry_line history (entry ∷ []))
    ∙ text_more (entry_line entry) (first_lines workers limit history)

pub returns-clause-end : goal.returns-clause-end
returns-clause-end c = λ workers limit history. text_more _ (first_lines workers limit history)
