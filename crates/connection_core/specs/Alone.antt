-- The history of a connection that is served alone.
use Rattle.std.specs.Prelude.{ℕ, ◌-◌, ◌&&◌, ◌==◌, Bool, false, nat_le, nat_lt, if◌then◌else◌, List, [], ◌∷◌, ◌++◌, length, map, take, Option}
use Rattle.std.specs.Option.{option_map_or}
use Rattle.cody_batches.specs.Blocks.{taken}
use Rattle.unit_registry.specs.declared.act.Act.{Act as Acts}
use Rattle.unit_registry.specs.declared.act.Act.TheVariants.{Open, Left, Lost, Done}
use Rattle.unit_registry.specs.Projects.{ProjectView}
use Rattle.histories.specs.declared.entry.Entry.{Entry}
use Rattle.histories.specs.Entries.{no_connection}
use Rattle.connection_core.specs.Asking.{Block, acts}
use Rattle.connection_core.specs.Answers.{answers}

-- the entries of connection 0
abbrev pub alone : List Acts → List Entry
alone = map (λ act. record { conn = 0; act = act })

-- whether there is a text, and it is longer than this one
abbrev pub is_longer : Option (List ℕ) → List ℕ → Bool
is_longer text written = option_map_or (λ octets. nat_lt (length written) (length octets)) text false

-- the answers to blocks that connection 0 alone entered
abbrev pub own_answers : ProjectView → List Block → Option (List ℕ)
own_answers project entered = answers project 1 (alone (Open ∷ acts project entered)) 0 entered

-- The first blocks, as many as it takes for their answers to be longer than what was written: these blocks, and as many
-- of the next ones.
abbrev pub stopped_behind : ProjectView → List ℕ → List Block → List Block → List Block
stopped_behind project written before [] = before
stopped_behind project written before (block ∷ rest) =
    if is_longer (own_answers project before) written then before else stopped_behind project written (before ++ block ∷ []) rest

-- the blocks that were entered, by the octets read and written and the status: where a write failed, not all
abbrev pub entered_blocks : ProjectView → List ℕ → List ℕ → ℕ → List Block
entered_blocks project read written status =
    if status == 5 then stopped_behind project written [] (taken read) else taken read

-- how the connection goes: at the end of its input, with room for all its acts, it has left
abbrev pub goes_by : ℕ → Bool → Acts
goes_by status fits = if status == 0 && fits then Left else Lost

-- as many of the acts as there is room for beside the Open, the going and the Done
abbrev pub solo_by : ℕ → ℕ → List Acts → List Entry
solo_by limit status asked =
    alone (Open ∷ take (limit - 3) asked ++ goes_by status (nat_le (length asked) (limit - 3)) ∷ [])
    ++ record { conn = no_connection; act = Done } ∷ []

-- the history of a connection that is served alone, by the octets read and written and the status
abbrev pub solo : ProjectView → ℕ → List ℕ → List ℕ → ℕ → List Entry
solo project limit read written status = solo_by limit status (acts project (entered_blocks project read written status))
