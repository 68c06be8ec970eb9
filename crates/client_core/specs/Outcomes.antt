-- What a client comes to, by the replies that it reads and by the interfaces of its imports.
use Rattle.std.specs.Prelude.{ℕ, if◌then◌else◌, List, [], ◌∷◌, drop, get_or, filter_map, Option, Some, None, Result, Ok, Err}
use Rattle.std.specs.Option.{option_or}
use Rattle.mapper_requests.specs.Asked.{Asked}
use Rattle.mapper_requests.specs.Asked as asked
use Rattle.mapper_replies.specs.Values.{ReplyValue}
use Rattle.mapper_replies.specs.Values as reply
use Rattle.module_units.specs.declared.faults.Fault.{Fault}
use Rattle.module_units.specs.Reading.{SourceReading, Good, Bad}
use Rattle.export_lists.specs.declared.cmi.Cmi.{Cmi}
use Rattle.export_lists.specs.declared.outcome.Verdict.TheVariants as verdicts
use Rattle.client_core.specs.declared.outcome.ClientOutcome.{ClientOutcome}
use Rattle.client_core.specs.declared.outcome.ClientOutcome.TheVariants.{Compiled, Failed, Refused}
use Rattle.client_core.specs.Scripts.{is_nameless}

-- ---- errors

-- what an error to a request makes of the unit: of an import, it fails with that; of another request, the mapper refused
-- it with this message
abbrev pub by_error : Asked → List ℕ → ClientOutcome
by_error (asked.Import name flags) message = Failed (verdicts.Import name)
by_error _ message = Refused message

-- the outcome by the first error, in the order of the requests, if there is one
abbrev pub first_error : List Asked → List ReplyValue → Option ClientOutcome
first_error [] values = None
first_error (request ∷ rest) [] = None
first_error (request ∷ rest) (reply.Error message ∷ values) = Some (by_error request message)
first_error (request ∷ rest) (value ∷ values) = first_error rest values

-- ---- paths

-- The paths that replies to a first block grant: that of the repository, where the unit's own interface goes, which is
-- empty where it has no name, and where the interfaces of its imports are, in their order.
pub record Grants : Type 0 where
  pub repo : List ℕ
  pub export : List ℕ
  pub imports : List (List ℕ)

-- the path of a reply, if it is one
abbrev pub path_in : ReplyValue → Option (List ℕ)
path_in (reply.Pathname path) = Some path
path_in _ = None

-- the paths in replies to a first block without an error: first that of the repository, then, where the unit has a name,
-- that of its own interface, and then those of its imports
abbrev pub granted : List ℕ → List (List ℕ) → Grants
granted name paths = record {
  repo = get_or paths 0 [];
  export = if is_nameless name then [] else get_or paths 1 [];
  imports = drop (if is_nameless name then 1 else 2) paths;
}

-- the paths that replies to the first block of a unit of this name grant
abbrev pub grants_of : List ℕ → List ReplyValue → Grants
grants_of name values = granted name (filter_map path_in values)

-- ---- the outcome

-- What a client comes to whose block was answered without an error, by what its source reads as and by the interface
-- that it made, if it has made one by then. It isn't over where a good source has its paths and no interface yet.
abbrev pub without_error : SourceReading → Option Cmi → Option ClientOutcome
without_error (Bad line reason) made = Some (Failed (verdicts.Source line reason))
without_error (Good unit) None = None
without_error (Good unit) (Some cmi) = Some (Compiled cmi)

-- what a client comes to by the replies to a block of these requests
abbrev pub comes_to : List Asked → SourceReading → Option Cmi → List ReplyValue → Option ClientOutcome
comes_to requests reading made values = option_or (first_error requests values) (without_error reading made)

-- the interface that was made of a unit
abbrev pub made_of : Result Cmi Fault → Option Cmi
made_of (Ok cmi) = Some cmi
made_of (Err fault) = None

-- what a client comes to when its unit was compiled: a named one has still to report it
abbrev pub after_compiling : List ℕ → Result Cmi Fault → Option ClientOutcome
after_compiling name (Err fault) = Some (Failed (verdicts.Source fault.line fault.reason))
after_compiling name (Ok cmi) = if is_nameless name then Some (Compiled cmi) else None
