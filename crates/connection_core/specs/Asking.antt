-- What the lines of blocks ask, and the acts that blocks enter.
use Rattle.std.specs.Prelude.{ℕ, ◌==◌, Bool, true, false, if◌then◌else◌, List, [], ◌∷◌, ◌++◌, map, filter_map, Option, Some, None}
use Rattle.std.specs.List.{flat_map, list_any}
use Rattle.cody_words.specs.Lines.{Meaning, Blank, Words, Malformed as MalformedLine}
use Rattle.cody_words.specs.Meanings.{meaning}
use Rattle.mapper_requests.specs.declared.request.Bad.TheVariants.{UnknownVerb}
use Rattle.mapper_requests.specs.Requests.{request}
use Rattle.unit_registry.specs.declared.act.Act.{Act as Acts}
use Rattle.unit_registry.specs.declared.act.Act.TheVariants as act
use Rattle.unit_registry.specs.Acts.{act as act_by}
use Rattle.unit_registry.specs.Projects.{ProjectView}
use Rattle.connection_core.specs.declared.asked.Asked.{Asked}
use Rattle.connection_core.specs.declared.asked.Asked.TheVariants.{Act, Malformed}

-- a block, as the list of its lines
abbrev pub Block : Type 0
Block = List (List ℕ)

-- what is asked by a line that says this (no line of a block is blank)
abbrev pub asked_in : ProjectView → Meaning → Asked
asked_in project Blank = Act (act.Bad UnknownVerb)
asked_in project (Words words) = Act (act_by project (request words) false)
asked_in project (MalformedLine place reason) = Malformed reason

-- what a line asks: an act, or nothing where it is malformed
abbrev pub asked_by : ProjectView → List ℕ → Asked
asked_by project line = asked_in project (meaning line)

-- what the lines of a block ask
abbrev pub asked_of : ProjectView → Block → List Asked
asked_of project block = map (asked_by project) block

-- whether a line is malformed
abbrev pub is_malformed : Asked → Bool
is_malformed (Act asked) = false
is_malformed (Malformed reason) = true

-- whether a block is refused: some line of it is malformed
abbrev pub is_refused : List Asked → Bool
is_refused lines = list_any is_malformed lines

-- the act that a line asks, if it is well-formed
abbrev pub act_in : Asked → Option Acts
act_in (Act asked) = Some asked
act_in (Malformed reason) = None

-- the requests of lines, as acts
abbrev pub requests_of : List Asked → List Acts
requests_of lines = filter_map act_in lines

-- the acts that a block enters: its requests in order and then a Pause, or nothing where it is refused
abbrev pub entered_by : List Asked → List Acts
entered_by lines = if is_refused lines then [] else requests_of lines ++ act.Pause ∷ []

-- the same of a block
abbrev pub block_acts : ProjectView → Block → List Acts
block_acts project block = entered_by (asked_of project block)

-- the acts that blocks enter
abbrev pub acts : ProjectView → List Block → List Acts
acts project blocks = flat_map (block_acts project) blocks

-- whether the act reports that the unit is compiled
abbrev pub reports : ℕ → Acts → Bool
reports unit (act.Compiled (Some named) stored) = named == unit
reports unit _ = false

-- the acts with the first report of the unit marked as one with which an item is handed in
abbrev pub with_item : ℕ → List Acts → List Acts
with_item unit [] = []
with_item unit (asked ∷ rest) = if reports unit asked then act.Compiled (Some unit) true ∷ rest else asked ∷ with_item unit rest

-- the acts, where an item is kept for this unit, if for one
abbrev pub stored_for : Option ℕ → List Acts → List Acts
stored_for None asked = asked
stored_for (Some unit) asked = with_item unit asked
