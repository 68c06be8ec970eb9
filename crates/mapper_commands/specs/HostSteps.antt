-- What the steps of the command that serves come to: working definitions, and no part of what it means.
use Rattle.std.specs.Prelude.{◌≡◌, ℕ, List, length, Option}
use Rattle.mm_outside.specs.Causes.{Rose}
use Rattle.mm_outside.specs.Hall.{Links}
use Rattle.mm_outside.specs.House.{Stock, TakesBack, note_bind}
use Rattle.mm_outside.specs.Octets.{Octets}
use Rattle.mm_outside.specs.Told.{Told}
use Rattle.unit_registry.specs.Projects.{ProjectView}
use Rattle.registry_core.specs.Ledgers.{LedgerView}
use Rattle.mapper_server.specs.Complete.{NothingHinders}
use Rattle.mapper_server.specs.Headline.{IsOf, Serves}
use Rattle.mapper_server.specs.Statuses.{IsServingStatus}
use Rattle.mapper_commands.specs.Commands.{ServeWords, AsksToServe}
use Rattle.mapper_commands.specs.Endings.{Ended, CannotOpen, OutOfMemory, Output}
use Rattle.mapper_commands.specs.Hosting.{HandsBack, Hosts, request_of}

-- some words ask for this
pub record IsAsked (serve : ServeWords) : Type 0 where
  pub words : List (List ℕ)
  pub asks : AsksToServe words serve

-- The links of these halls were served over one history of the project, and the house took back the same halls.
pub record ServesHalls {H L C : Type 0} (links : H → Option (Links L)) (hall_faults : H → ℕ) (octets : L → Option Octets) (read_faults write_faults : L → ℕ)
    (project : ProjectView) (entries : ℕ) (halls : List H) (output : Output) (status : ℕ) (before now : Option (Stock H C)) : Type 0 where
  pub back : List H
  pub history : LedgerView
  pub history_is : IsOf project (length halls) entries (length history.entries) history
  pub serves : Serves links hall_faults octets read_faults write_faults history halls back status output.faults_before output.faults_now output.before output.now
  pub complete : NothingHinders links hall_faults octets read_faults write_faults project (length halls) entries halls back output.faults_before output.faults_now → status ≡ 0
  pub taken_back : Told (TakesBack back) before now

-- The house gave halls for what the words ask for, their links were served to this status, and the halls went back.
pub record ServesAt {H L C : Type 0} (links : H → Option (Links L)) (hall_faults : H → ℕ) (octets : L → Option Octets) (read_faults write_faults : L → ℕ)
    (project : ProjectView) (serve : ServeWords) (output : Output) (status : ℕ) (before now : Option (Stock H C)) (faults_before faults_now : ℕ) : Type 0 where
  pub status_is : IsServingStatus status
  pub faults_kept : faults_now ≡ faults_before
  pub hosts : Hosts links hall_faults octets read_faults write_faults project serve output status before now

-- No link was accepted: the house gave no hall, by a fault, or memory was wanted.
pub data OpensNone {H C : Type 0} (serve : ServeWords) (ended : Ended) (before now : Option (Stock H C)) (faults_before faults_now : ℕ) : Type 0 where
  unopened : Told (λ old new. new ≡ note_bind (request_of serve) old) before now → Rose faults_before faults_now → ended ≡ CannotOpen serve.address → OpensNone serve ended before now faults_before faults_now
  no_memory : Told HandsBack before now → ended ≡ OutOfMemory → OpensNone serve ended before now faults_before faults_now
