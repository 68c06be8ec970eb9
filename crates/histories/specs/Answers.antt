-- The registry's answers, as a table: the rows of an act are tried from the top.
use Rattle.std.specs.Prelude.{ℕ, Bool, true, false, not, ◌||◌, List, Option, Some, None, is_some, if◌then◌else◌, ◌==◌, IsTrue, IsFalse}
use Rattle.std.specs.Option.{option_map_or}
use Rattle.mapper_requests.specs.declared.request.Bad.{Bad as Badness}
use Rattle.mapper_requests.specs.declared.request.Bad.TheVariants.{UnknownVerb, WrongWords as WordsAreWrong, BadNumber as NumberIsBad}
use Rattle.unit_registry.specs.declared.act.Act.{Act}
use Rattle.unit_registry.specs.declared.act.Act.TheVariants.{Open, Hello, Repo, Export, Import, Compiled, Translate, Bad, Pause, Left, Lost, Done}
use Rattle.mapper_replies.specs.declared.refusal.Refusal.{Refusal}
use Rattle.mapper_replies.specs.declared.refusal.Refusal.TheVariants.{NotConnected, AlreadyConnected, Version, UnitTaken, UnknownRequest, WrongWords, BadNumber, UnknownUnit, NotYourUnit, AlreadyExported, NotExported, AlreadyCompiled, UnitFailed, ImportCycle}
use Rattle.histories.specs.declared.answer.Answer.TheVariants.{Hello as Greeting, Repo as Repository, Path, Done as Accepted, Bool as Truth, Refused}
use Rattle.histories.specs.declared.answer.Said.{Said}
use Rattle.histories.specs.declared.answer.Said.TheVariants.{Reply, Waits, Nothing}
use Rattle.histories.specs.declared.standing.Who.{Who}
use Rattle.histories.specs.declared.standing.Who.TheVariants.{Nobody, Holder}
use Rattle.histories.specs.declared.standing.Fate.{Fate}
use Rattle.histories.specs.declared.standing.Fate.TheVariants.{Compiled as HasCompiled, Failed as HasFailed}
use Rattle.wait_graph.specs.Walks.{leads}
use Rattle.unit_registry.specs.Projects.{ProjectView, is_built}
use Rattle.histories.specs.declared.answered.Answered.{Answered}
use Rattle.histories.specs.Answered.{who, holder, is_exported, is_reported}
use Rattle.histories.specs.Noted.{Noted, answered_of, is_given_up, fate, waits}

-- what is said of a request that is refused
abbrev pub refused : Refusal → Said
refused refusal = Reply (Refused refusal)

-- whether no Hello of it was accepted
abbrev pub is_nobody : Who → Bool
is_nobody Nobody = true
is_nobody _ = false

-- whether the connection has an accepted Hello
abbrev pub is_connected : List Answered → ℕ → Bool
is_connected answered conn = not (is_nobody (who answered conn))

-- whether it holds this unit
abbrev pub is_holder_of : Who → ℕ → Bool
is_holder_of (Holder held) unit = held == unit
is_holder_of _ unit = false

-- whether the connection holds the unit
abbrev pub holds : List Answered → ℕ → ℕ → Bool
holds answered conn unit = is_holder_of (who answered conn) unit

-- whether the unit can't be taken by a Hello any more
abbrev pub is_taken : ProjectView → List Noted → ℕ → Bool
is_taken project noted unit =
    is_built project unit || is_given_up noted unit || is_some (holder (answered_of noted) unit)

-- whether a walk leads from the unit to the one held
abbrev pub leads_to_held : List (ℕ × ℕ) → ℕ → Who → Bool
leads_to_held pairs unit (Holder held) = leads pairs unit held
leads_to_held pairs unit _ = false

-- whether the connection holds a unit to which a walk leads from the imported one
abbrev pub closes_cycle : ProjectView → List Noted → ℕ → ℕ → Bool
closes_cycle project noted conn unit = leads_to_held (waits project noted) unit (who (answered_of noted) conn)

-- the refusal of words that are no request
abbrev pub refusal_of : Badness → Refusal
refusal_of UnknownVerb = UnknownRequest
refusal_of WordsAreWrong = WrongWords
refusal_of NumberIsBad = BadNumber

-- what is said to a Hello
abbrev pub to_hello : ProjectView → List Noted → ℕ → ℕ → Option ℕ → Said
to_hello project noted conn version unit =
    if is_connected (answered_of noted) conn then refused AlreadyConnected
    else (if not (version == 1) then refused Version
    else (if option_map_or (is_taken project noted) unit false then refused UnitTaken
    else Reply Greeting))

-- what is said to an Export of a connection that has an accepted Hello
abbrev pub to_export : List Answered → ℕ → Option ℕ → Said
to_export answered conn None = refused UnknownUnit
to_export answered conn (Some unit) =
    if not (holds answered conn unit) then refused NotYourUnit
    else (if is_exported answered unit then refused AlreadyExported
    else Reply (Path unit))

-- what is said to a Compiled of such a connection
abbrev pub to_compiled : List Answered → ℕ → Option ℕ → Said
to_compiled answered conn None = refused UnknownUnit
to_compiled answered conn (Some unit) =
    if not (holds answered conn unit) then refused NotYourUnit
    else (if is_reported answered unit then refused AlreadyCompiled
    else (if not (is_exported answered unit) then refused NotExported
    else Reply Accepted))

-- the path or the failure of a unit that has ended, and otherwise this
abbrev pub by_fate : Option Fate → ℕ → Said → Said
by_fate (Some HasCompiled) unit otherwise = Reply (Path unit)
by_fate (Some HasFailed) unit otherwise = refused UnitFailed
by_fate None unit otherwise = otherwise

-- what is said to an Import of such a connection
abbrev pub to_import : ProjectView → List Noted → ℕ → Option ℕ → Bool → Said
to_import project noted conn None name_only = refused UnknownUnit
to_import project noted conn (Some unit) name_only =
    if name_only then Reply (Path unit)
    else (by_fate (fate project noted unit) unit
    (if closes_cycle project noted conn unit then refused ImportCycle
    else Waits unit))

-- what is said to a request that needs an accepted Hello
abbrev pub once_connected : List Answered → ℕ → Said → Said
once_connected answered conn said = if is_connected answered conn then said else refused NotConnected

-- what is said at once to the act of the connection, after the noted entries
abbrev pub at_once : ProjectView → List Noted → ℕ → Act → Said
at_once project noted conn (Hello version unit) = to_hello project noted conn version unit
at_once project noted conn (Bad why) = refused (refusal_of why)
at_once project noted conn Repo = once_connected (answered_of noted) conn (Reply Repository)
at_once project noted conn (Export unit) =
    once_connected (answered_of noted) conn (to_export (answered_of noted) conn unit)
at_once project noted conn (Compiled unit stored) =
    once_connected (answered_of noted) conn (to_compiled (answered_of noted) conn unit)
at_once project noted conn (Translate header) = once_connected (answered_of noted) conn (Reply (Truth header))
at_once project noted conn (Import unit name_only) =
    once_connected (answered_of noted) conn (to_import project noted conn unit name_only)
at_once project noted conn Open = Nothing
at_once project noted conn Pause = Nothing
at_once project noted conn Left = Nothing
at_once project noted conn Lost = Nothing
at_once project noted conn Done = Nothing

-- What an accepted Compiled finds: its connection holds the unit, an Export of it was accepted, no Compiled of it was
-- accepted before, and it wasn't built.
pub record IsFirstReport (project : ProjectView) (answered : List Answered) (conn unit : ℕ) : Type 0 where
  pub is_held : IsTrue (holds answered conn unit)
  pub was_exported : IsTrue (is_exported answered unit)
  pub not_reported : IsFalse (is_reported answered unit)
  pub not_built : IsFalse (is_built project unit)
