-- How a client works: working definitions of private functions and of the types' invariants, and no part of what they mean.
use Rattle.std.specs.Prelude.{◌≡◌, ◌≢◌, ℕ, ◌+◌, ◌-◌, ◌<◌, ◌≤◌, Bool, true, false, List, [], ◌∷◌, ◌++◌, length, Option, Some, None, is_some, ⊤}
use Rattle.std.specs.Option.{option_or}
use Rattle.std.specs.List.{AllByRecursion}
use Rattle.header_units.specs.Names.{longest_name}
use Rattle.cody_batches.specs.declared.intake.Step.{Step}
use Rattle.cody_batches.specs.declared.intake.Step.TheVariants as step
use Rattle.mapper_requests.specs.Asked.{Asked}
use Rattle.mapper_replies.specs.Values.{ReplyValue}
use Rattle.mapper_replies.specs.Values as reply
use Rattle.mapper_replies.specs.Working.{reply_of}
use Rattle.module_units.specs.Rules.{most_imports}
use Rattle.module_units.specs.declared.parts.Import.{Import as ImportOf}
use Rattle.module_units.specs.Reading.{SourceReading, Good, Bad}
use Rattle.export_lists.specs.declared.cmi.Cmi.{Cmi}
use Rattle.client_core.specs.declared.stage.Stage.{Stage}
use Rattle.client_core.specs.declared.stage.Stage.TheVariants.{Due, Await, Granted, Over}
use Rattle.client_core.specs.declared.heard.Heard.{Heard}
use Rattle.client_core.specs.declared.client.Line.{Line}
use Rattle.client_core.specs.declared.client.Line.TheVariants as line
use Rattle.client_core.specs.Scripts.{TaskView, imports_in, requests_in, lines_in}
use Rattle.client_core.specs.Replies.{All, allowed}
use Rattle.client_core.specs.Outcomes.{by_error}
use Rattle.client_core.specs.Clients.{ClientState, made_in, telling, IsAnswered, MeetsFault, StandsAfter}

-- the name of an import is short
abbrev pub IsShort : ImportOf → Type 0
IsShort import = length import.name ≤ longest_name

-- a task keeps within the limits of names and of imports
pub record IsSmall (task : TaskView) : Type 0 where
  pub ident : length task.ident ≤ 512
  pub name : length task.name ≤ 512
  pub few : length (imports_in task.reading) ≤ most_imports
  pub names : AllByRecursion IsShort (imports_in task.reading)

-- the source is a unit
abbrev pub IsGoodSource : SourceReading → Type 0
IsGoodSource (Good unit) = ⊤
IsGoodSource (Bad line reason) = ⊥

-- what was heard, with one reply more
abbrev pub noted : Asked → ReplyValue → Heard → Heard
noted request (reply.Pathname path) heard = record heard { answered = heard.answered + 1; paths = heard.paths ++ path ∷ [] }
noted request (reply.Error message) heard = record heard { answered = heard.answered + 1; came_to = option_or heard.came_to (Some (by_error request message)) }
noted request value heard = record heard { answered = heard.answered + 1 }

-- the reply to a request that a line is, by what its end brought, where more of its block is to follow or not
abbrev pub reply_by : Asked → Bool → Step → List (List ℕ) → Option ReplyValue
reply_by request true (step.Message false) words = allowed request (reply_of words)
reply_by request false (step.Message true) words = allowed request (reply_of words)
reply_by request more answer words = None

-- What a client keeps in its fields agrees.
pub record IsFit (task : TaskView) (stage : Stage) (heard : Heard) (made : Option Cmi) : Type 0 where
  pub going : stage ≢ Over → made_in made heard.came_to ≡ made
  pub few : stage ≢ Over → length heard.paths ≤ lines_in (is_some made) task + heard.answered
  pub missing : stage ≡ Await → heard.answered < length (requests_in (is_some made) task)
  pub each_path : stage ≡ Await → heard.came_to ≡ None → made ≡ None → length heard.paths ≡ heard.answered - 1
  pub due : stage ≡ Due → heard.answered ≡ 0
  pub all_granted : stage ≡ Granted → length heard.paths + 1 ≡ length (requests_in false task)
  pub none_made : stage ≡ Granted → made ≡ None
  pub is_good : stage ≡ Granted → IsGoodSource task.reading
  pub no_error : stage ≡ Granted → heard.came_to ≡ None

-- octets were taken, and more replies are awaited
pub record GoesOn (before : ClientState) (got piece : List ℕ) (after : ClientState) : Type 0 where
  pub task : after.task ≡ before.task
  pub made : after.made ≡ before.made
  pub stage_is : after.stage ≡ Await
  pub stands : StandsAfter after (got ++ piece)

-- a line was taken with which its block ended
pub record EndsBlock (before : ClientState) (got piece : List ℕ) (after : ClientState) : Type 0 where
  pub values : List ReplyValue
  pub told_is : telling before (got ++ piece) ≡ All values
  pub answered : IsAnswered before values after
  pub stands : StandsAfter after (got ++ piece)

-- what the octets of a line come to
abbrev pub TakesLine : ClientState → List ℕ → List ℕ → Line → ClientState → Type 0
TakesLine before got piece line.More after = GoesOn before got piece after
TakesLine before got piece line.Block after = EndsBlock before got piece after
TakesLine before got piece (line.Fault at) after = MeetsFault before got piece at after
