-- A check that has gone over the first entries of a trace.
use Rattle.std.specs.Prelude.{◌≤◌, ℕ, take}
use Rattle.unit_registry.specs.Projects.{ProjectView}
use Rattle.histories.specs.Histories.{noted_of, IsLegal}
use Rattle.trace_text.specs.declared.trace.Trace.{Trace}
use Rattle.trace_text.specs.declared.tally.Tally.{Tally}
use Rattle.trace_text.specs.Tallies.{IsTally}

-- The entries before the place are legal, and the tally is theirs.
pub record Follows (project : ProjectView) (trace : Trace) (tally : Tally) (place : ℕ) : Type 0 where
  pub legal : IsLegal project trace.workers trace.limit (take place trace.entries)
  pub tallied : IsTally tally.table.items tally.counts (noted_of project trace.workers (take place trace.entries))
  pub few_open : tally.counts.open_now ≤ place
  pub few_done : tally.counts.done ≤ place
