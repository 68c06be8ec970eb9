-- What a client keeps, after which octets it stands, and what its calls come to.
use Rattle.std.specs.Prelude.{◌≡◌, ◌≢◌, ℕ, ◌+◌, ◌<◌, ◌≤◌, true, false, List, [], ◌++◌, length, drop, take, filter_map, Option, Some, None, is_some, ⊤}
use Rattle.cody_batches.specs.Blocks.{counted_lines, has_long_block}
use Rattle.cody_batches.specs.Feeding.{Standing as IntakeStanding, StandsAfter as IntakeStandsAfter}
use Rattle.mapper_requests.specs.Asked.{Asked}
use Rattle.mapper_replies.specs.Values.{ReplyValue}
use Rattle.module_units.specs.declared.unit.Unit.{Unit as UnitOf}
use Rattle.module_units.specs.Reading.{SourceReading, Good}
use Rattle.export_lists.specs.declared.cmi.Cmi.{Cmi}
use Rattle.export_lists.specs.Compiling.{compiled}
use Rattle.client_core.specs.declared.stage.Stage.{Stage}
use Rattle.client_core.specs.declared.stage.Stage.TheVariants.{Due, Await, Granted, Over}
use Rattle.client_core.specs.declared.stage.Got.{Got}
use Rattle.client_core.specs.declared.stage.Got.TheVariants as answer
use Rattle.client_core.specs.declared.outcome.ClientOutcome.{ClientOutcome}
use Rattle.client_core.specs.declared.outcome.ClientOutcome.TheVariants.{Compiled}
use Rattle.client_core.specs.declared.heard.Heard.{Heard}
use Rattle.client_core.specs.Scripts.{TaskView, requests_in, lines_in}
use Rattle.client_core.specs.Replies.{AreReplies, Telling, Awaited, All, Faulty, told}
use Rattle.client_core.specs.Outcomes.{Grants, granted, grants_of, path_in, first_error, comes_to, made_of, after_compiling}

-- What a client keeps: what it is for, how it goes on, the intake of the octets that it reads, what it heard of its mapper,
-- and the interface that it made. What it heard is what the replies so far to its block come to, while it awaits more of
-- them.
pub record ClientState : Type 0 where
  pub task : TaskView
  pub stage : Stage
  pub intake : IntakeStanding
  pub heard : Heard
  pub made : Option Cmi

-- the interface that was made, kept apart or in what the client came to
abbrev pub made_in : Option Cmi → Option ClientOutcome → Option Cmi
made_in (Some cmi) came_to = Some cmi
made_in None (Some (Compiled cmi)) = Some cmi
made_in None _ = None

-- ---- what is seen of a client

-- the requests of the block that is due, or whose replies are awaited: the second once the interface is made
abbrev pub requests : ClientState → List Asked
requests client = requests_in (is_some client.made) client.task

-- how many lines of replies stand before those of that block
abbrev pub lines_before : ClientState → ℕ
lines_before client = lines_in (is_some client.made) client.task

-- what the octets of the connection so far tell of that block
abbrev pub telling : ClientState → List ℕ → Telling
telling client got = told (lines_before client) (requests client) got

-- the paths that were granted
abbrev pub grants : ClientState → Grants
grants client = granted client.task.name client.heard.paths

-- what it came to, where it is over
abbrev pub outcome_at : Stage → Option ClientOutcome → Option ClientOutcome
outcome_at Over came_to = came_to
outcome_at _ came_to = None

abbrev pub outcome : ClientState → Option ClientOutcome
outcome client = outcome_at client.stage client.heard.came_to

-- ---- after which octets a client stands

-- The replies so far to the awaited block: fewer than its requests. What the client heard is what they come to.
pub record KeepsReplies (client : ClientState) (got : List ℕ) : Type 0 where
  pub values : List ReplyValue
  pub are : AreReplies (requests client) (drop (lines_before client) (counted_lines got)) values
  pub lines : length (counted_lines got) ≡ lines_before client + length values
  pub count : client.heard.answered ≡ length values
  pub some_missing : length values < length (requests client)
  pub error : client.heard.came_to ≡ first_error (requests client) values
  pub paths : client.made ≡ None → client.heard.paths ≡ filter_map path_in values

-- The block that is due stands after the replies to those before it, and nothing came of these but the paths.
pub record IsDue (client : ClientState) (got : List ℕ) : Type 0 where
  pub lines : length (counted_lines got) ≡ lines_before client
  pub none_heard : client.heard.answered ≡ 0
  pub nothing : client.heard.came_to ≡ None
  pub no_paths : client.made ≡ None → client.heard.paths ≡ []

-- The paths are granted: the replies to the first block were read, and nothing after them.
pub record IsGranted (client : ClientState) (got : List ℕ) : Type 0 where
  pub lines : length (counted_lines got) ≡ lines_in true client.task
  pub nothing : client.heard.came_to ≡ None
  pub none_made : client.made ≡ None

-- what was read in a stage, by a client that goes on
abbrev pub Keeps : Stage → ClientState → List ℕ → Type 0
Keeps Due client got = IsDue client got
Keeps Await client got = KeepsReplies client got
Keeps Granted client got = IsGranted client got
Keeps Over client got = ⊤

-- The client has read these octets, from the first one that came over its connection. Of one that is over this says
-- nothing.
pub record StandsAfter (client : ClientState) (got : List ℕ) : Type 0 where
  pub intake : client.stage ≢ Over → IntakeStandsAfter client.intake got
  pub fits : client.stage ≢ Over → has_long_block got ≡ false
  pub keeps : Keeps client.stage client got

-- ---- what the calls come to

-- a client that has neither sent nor read anything
pub record IsNew (ident name : List ℕ) (reading : SourceReading) (client : ClientState) : Type 0 where
  pub task_is : client.task ≡ record { ident = ident; name = name; reading = reading }
  pub stage_is : client.stage ≡ Due
  pub nothing_made : client.made ≡ None
  pub stands : StandsAfter client []

-- how a client goes on that came to this: it is over, or its paths are granted
abbrev pub stage_after : Option ClientOutcome → Stage
stage_after None = Granted
stage_after (Some how) = Over

-- what a client comes to by all replies to its block
abbrev pub answer_to : ClientState → List ReplyValue → Option ClientOutcome
answer_to client values = comes_to (requests client) client.task.reading client.made values

-- all replies are there: what the client came to by them, with the paths that they grant, and how it goes on
pub record IsAnswered (before : ClientState) (values : List ReplyValue) (after : ClientState) : Type 0 where
  pub task : after.task ≡ before.task
  pub made : after.made ≡ before.made
  pub stage_is : after.stage ≡ stage_after (answer_to before values)
  pub outcome_is : outcome after ≡ answer_to before values
  pub paths : before.made ≡ None → grants after ≡ grants_of before.task.name values

-- The first octets of the piece, so many and no fewer, end the block of replies; the rest is of what comes after it.
pub record EndsReplies (before : ClientState) (got piece : List ℕ) (used : ℕ) (after : ClientState) : Type 0 where
  pub some : 0 < used
  pub within : used ≤ length piece
  pub values : List ReplyValue
  pub told_is : telling before (got ++ take used piece) ≡ All values
  pub none_before : (n : ℕ) → n < used → telling before (got ++ take n piece) ≡ Awaited
  pub answered : IsAnswered before values after
  pub stands : StandsAfter after (got ++ take used piece)

-- a reply is awaited still after the piece
pub record AwaitsMore (before : ClientState) (got piece : List ℕ) (after : ClientState) : Type 0 where
  pub told_is : telling before (got ++ piece) ≡ Awaited
  pub task : after.task ≡ before.task
  pub made : after.made ≡ before.made
  pub stage_is : after.stage ≡ Await
  pub stands : StandsAfter after (got ++ piece)

-- A line of the piece is the first that isn't the reply that is due; lines are counted from 1 over the whole connection.
-- The client is over, and came to nothing.
pub record MeetsFault (before : ClientState) (got piece : List ℕ) (line : ℕ) (after : ClientState) : Type 0 where
  pub place : ℕ
  pub told_is : telling before (got ++ piece) ≡ Faulty place
  pub line_is : line ≡ lines_before before + place
  pub task : after.task ≡ before.task
  pub made : after.made ≡ before.made
  pub stage_is : after.stage ≡ Over
  pub nothing : outcome after ≡ None

-- what a piece comes to, after the octets that were read before
abbrev pub Takes : ClientState → List ℕ → List ℕ → Got → ClientState → Type 0
Takes before got piece answer.More after = AwaitsMore before got piece after
Takes before got piece (answer.Block used) after = EndsReplies before got piece used after
Takes before got piece (answer.NotReplies line) after = MeetsFault before got piece line after

-- how a client goes on that has compiled its unit: it is over where it came to something, and else its report is due
abbrev pub stage_compiled : Option ClientOutcome → Stage
stage_compiled None = Due
stage_compiled (Some how) = Over

-- The unit was compiled over these interfaces: what it compiles to decides the interface that is made, what the client came
-- to, and how it goes on.
pub record Compiles (before : ClientState) (cmis : List Cmi) (after : ClientState) : Type 0 where
  pub unit : UnitOf
  pub reading_is : before.task.reading ≡ Good unit
  pub task : after.task ≡ before.task
  pub paths : grants after ≡ grants before
  pub made_is : after.made ≡ made_of (compiled before.task.name unit cmis)
  pub outcome_is : outcome after ≡ after_compiling before.task.name (compiled before.task.name unit cmis)
  pub stage_is : after.stage ≡ stage_compiled (after_compiling before.task.name (compiled before.task.name unit cmis))
