-- How a replay goes on with an entry: working definitions, and no part of what is printed.
use Rattle.std.specs.Prelude.{ℕ, ◌+◌, List, [], length, take, min, flat_map, Option, Some, None}
use Rattle.unit_registry.specs.Projects.{ProjectView}
use Rattle.histories.specs.declared.answer.Answer.{Answer}
use Rattle.trace_text.specs.declared.trace.Trace.{Trace}
use Rattle.registry_core.specs.Ledgers.{LedgerView, reply_at}
use Rattle.mapper_commands.specs.Replays.{found_at, found_text}

-- the line of the reply to the request at a place, if it has come
abbrev pub reply_text : ProjectView → ℕ → Option Answer → List ℕ
reply_text project place (Some answer) = found_text project (found_at place answer)
reply_text project place None = []

-- the lines of the replies to the requests at these places
abbrev pub replies_text : ProjectView → LedgerView → List ℕ → List ℕ
replies_text project ledger places = flat_map (λ place. reply_text project place (reply_at ledger place)) places

-- a limit that is enough for so many entries and the ends that they leave, and no more than the limit
abbrev pub enough_for : ℕ → ℕ → ℕ → ℕ
enough_for count workers limit = min limit (count + count + workers)

-- the history of the entries of a trace before a place
abbrev pub played : ProjectView → Trace → ℕ → LedgerView
played project trace place = record {
  project = project;
  workers = trace.workers;
  limit = enough_for (length trace.entries) trace.workers trace.limit;
  entries = take place trace.entries;
}
