use Rattle.mm_outside.specs.Causes.{Rose}
use Rattle.mapper_commands.specs.Endings.{told_by}
use Rattle.mapper_commands.proofs.Reporting.{rose_since, second_refused}
use Rattle.mapper_commands.proofs.Statuses.{keeps_since}
use Rattle.mapper_commands.proofs.sources.read_sources.Goals as goal

pub returns-in-Err-read_trace-clause-found : goal.returns-in-Err-read_trace-clause-found
returns-in-Err-read_trace-clause-found g c =
    let before = g.F.Files.read_faults c.args.files.now in
    let mid = g.F.Files.read_faults c.read_project.new.files in
    let now = g.F.Files.read_faults c.read_trace.new.files in
    second_refused (Rose before mid) (Rose mid now) (Rose before now) c.args.project.now c.args.trace.now _ _ _ (rose_since before mid now c.in-Ok.ensures.read_faults) c.in-Ok.project (told_by c.in-Err-read_trace.ending) c.in-Err-read_trace.ensures.kind c.in-Ok.ensures.content c.in-Err-read_trace.ensures.content

pub returns-in-Err-read_trace-clause-kept : goal.returns-in-Err-read_trace-clause-kept
returns-in-Err-read_trace-clause-kept g c = keeps_since (told_by c.in-Err-read_trace.ending) _ _ _ c.in-Ok.ensures.kept c.in-Err-read_trace.ensures.kept
