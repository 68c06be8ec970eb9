use Rattle.std.proofs.Common.{◌≡◌, sym, subst, ◌∙◌, Ok, Result, IfOk, IfErr}
use Rattle.module_units.specs.declared.faults.Fault.{Fault}
use Rattle.module_lexer.specs.declared.reason.SourceReason.TheVariants.{ExportedImplementation, UnknownType}
use Rattle.export_lists.specs.Lists.{Cmi, imported, brought}
use Rattle.export_lists.specs.Compiling.{types_in, unknown_lines, export_lines, faults_of_lists, interface_of, compiled, TellsFault}
use Rattle.export_lists.specs.Lent.{lent}
use Rattle.export_lists.proofs.Faults.{first_refuses, second_refuses, none_refuses}
use Rattle.export_lists.proofs.compile.compile_over.Goals as goal

pub returns-in-Some-clause-refused : goal.returns-in-Some-clause-refused
returns-in-Some-clause-refused c =
    let cmis = lent c.args.cmis.now in
    let made = interface_of c.args.name.now c.args.unit.now cmis in
    subst (TellsFault (compiled c.args.name.now c.args.unit.now (lent c.args.cmis.now))) (sym c.source_error.ensures)
    (first_refuses ExportedImplementation UnknownType (faults_of_lists made) made (export_lines (imported c.args.unit.now cmis)) (unknown_lines (types_in (brought c.args.unit.now cmis)) c.args.unit.now.decls) c.in-Some.line (sym c.in-Some.ensures))

pub returns-in-Some-2-clause-refused : goal.returns-in-Some-2-clause-refused
returns-in-Some-2-clause-refused c =
    let cmis = lent c.args.cmis.now in
    let made = interface_of c.args.name.now c.args.unit.now cmis in
    subst (TellsFault (compiled c.args.name.now c.args.unit.now (lent c.args.cmis.now))) (sym c.source_error-in-Some-2.ensures)
    (second_refuses ExportedImplementation UnknownType (faults_of_lists made) made (export_lines (imported c.args.unit.now cmis)) (unknown_lines (types_in (brought c.args.unit.now cmis)) c.args.unit.now.decls) c.in-Some-2.line (sym c.in_default.ensures) (sym c.in_ok-line.ensures ∙ c.in-Some-2.is))

pub returns-clause-cmi : goal.returns-clause-cmi
returns-clause-cmi c =
    let cmis = lent c.args.cmis.now in
    let made = interface_of c.args.name.now c.args.unit.now cmis in
    subst (λ (m : Result Cmi Fault). IfOk c.interface_over.result (λ cmi. m ≡ Ok cmi))
    (sym (none_refuses ExportedImplementation UnknownType (faults_of_lists made) made (export_lines (imported c.args.unit.now cmis)) (unknown_lines (types_in (brought c.args.unit.now cmis)) c.args.unit.now.decls) (sym c.in_default.ensures) (sym c.in_ok-line.ensures ∙ c.in_default-2.is)))
    c.interface_over.ensures.cmi

pub returns-clause-refused : goal.returns-clause-refused
returns-clause-refused c =
    let cmis = lent c.args.cmis.now in
    let made = interface_of c.args.name.now c.args.unit.now cmis in
    subst (λ (m : Result Cmi Fault). IfErr c.interface_over.result (TellsFault m))
    (sym (none_refuses ExportedImplementation UnknownType (faults_of_lists made) made (export_lines (imported c.args.unit.now cmis)) (unknown_lines (types_in (brought c.args.unit.now cmis)) c.args.unit.now.decls) (sym c.in_default.ensures) (sym c.in_ok-line.ensures ∙ c.in_default-2.is)))
    c.interface_over.ensures.refused
