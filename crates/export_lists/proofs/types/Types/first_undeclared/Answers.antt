use Rattle.std.proofs.Common.{arith}
use Rattle.export_lists.proofs.Names.{undeclared_more, undeclared_here}
use Rattle.export_lists.proofs.types.Types.first_undeclared.Goals as goal

pub returns-in-Some : goal.returns-in-Some
returns-in-Some c = λ known h.
    undeclared_here c.args.decls.now c.loop-decl.decl-index c.decl-item.result known c.loop-decl.self c.in-Some.line (omega arith) c.decl-item.is (c.loop-decl.invariant known h) (rw c.as_slice.ensures at c.in-Some.ensures)

pub loop-decl-preserved : goal.loop-decl-preserved
loop-decl-preserved c = λ known h.
    undeclared_more c.args.decls.now c.loop-decl.decl-index c.decl-item.result known c.loop-decl.self _ (omega arith) c.decl-item.is (c.loop-decl.invariant known h) (rw c.as_slice.ensures at c.in_default.ensures) (λ other k. (rw c.octets.ensures at (c.in_ok-add_type.ensures other k)))
