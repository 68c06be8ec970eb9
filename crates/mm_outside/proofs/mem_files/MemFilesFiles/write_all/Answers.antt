use Rattle.std.proofs.Common.{ap}
use Rattle.mm_outside.proofs.mem_files.MemFilesFiles.write_all.Goals as goal

pub returns-clause-content : goal.returns-clause-content
returns-clause-content c = record { so = record { stored = tt; others = λ other ne. ap (λ f. f other) c.if-store.ensures.kept } }
