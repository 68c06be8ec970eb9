use Rattle.std.proofs.Common.{refl}
use Rattle.mm_outside.proofs.ToldLemmas.{Told-same}
use Rattle.mapper_commands.specs.Commands.{serve_words}
use Rattle.mapper_commands.specs.Hosting.{refused}
use Rattle.mapper_commands.proofs.Hostings.{serves_at, stops_at}
use Rattle.mapper_commands.proofs.shared.run_serve.Goals as goal

pub returns-in-Ok-clause-stopped : goal.returns-in-Ok-clause-stopped
returns-in-Ok-clause-stopped g c = stops_at _ (serve_words c.args.command.now) c.in-Ok.project c.serve_at.result c.in-Ok.ensures.content c.in-Ok.ensures.kept c.serve_at.ensures.stopped

pub returns-in-Err-clause-stopped : goal.returns-in-Err-clause-stopped
returns-in-Err-clause-stopped g c = refused c.in-Err.ensures.kind c.in-Err.ensures.content c.in-Err.ensures.kept (record { stock = Told-same (λ x. refl); faults = refl })

pub returns-in-Ok-clause-served : goal.returns-in-Ok-clause-served
returns-in-Ok-clause-served g c = serves_at _ (serve_words c.args.command.now) c.in-Ok.project c.serve_at.result _ c.in-Ok.ensures.content c.in-Ok.ensures.kept c.serve_at.ensures.served
