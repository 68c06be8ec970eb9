use Rattle.std.proofs.Common.{◌++◌, ◌∙◌, [], ap, sym, arith, inl, inr, length}
use Rattle.std.specs.Prelude.{slice_get}
use Rattle.export_lists.specs.Reports.{outcome_lines}
use Rattle.export_lists.proofs.Listings.{report_more, report_all}
use Rattle.export_lists.proofs.listing.Listing.write.Goals as goal

pub loop-number-preserved : goal.loop-number-preserved
loop-number-preserved c =
    report_more c.args.project.now c.args.self.now c.loop-number.number c.get.result.now (omega (arith, c.unit_count-number-end.ensures.count)) (ap (λ outcomes. slice_get outcomes c.loop-number.number) (sym c.self.view_is) ∙ c.get.ensures)
    [] c.loop-number.text c.append_outcome.new.text c.loop-number.invariant
    (c.in_ok-append_outcome.ensures ∙ ap (λ ident. c.loop-number.text ++ outcome_lines ident c.get.result.now) c.ident.ensures.ident)

pub returns-then-number-len : goal.returns-then-number-len
returns-then-number-len c =
    report_all c.args.project.now c.args.self.now c.loop-number.number c.loop-number.text (inr (omega (arith, ap length c.self.view_is, c.len.ensures))) c.loop-number.invariant

pub returns : goal.returns
returns c = report_all c.args.project.now c.args.self.now c.loop-number.number c.loop-number.text (inl (omega (arith, c.unit_count-number-end.ensures.count))) c.loop-number.invariant
