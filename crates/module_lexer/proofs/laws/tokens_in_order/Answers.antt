use Rattle.module_lexer.proofs.Spans.{spans_in_order, slices_are}
use Rattle.module_lexer.proofs.laws.tokens_in_order.Goals as goal

pub returns : goal.returns
returns c = record { spans = spans_in_order; slices = slices_are }
