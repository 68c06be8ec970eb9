-- A reader of a unit: what it has read, the first fault so far, and the names that are declared.
use Rattle.std.specs.Prelude.{◌≡◌, ℕ, ◌+◌, ◌≤◌, false, length, take, drop, List, [], Option, Some, None, Result, Ok, Err}
use Rattle.module_units.specs.Terminals.{Terminal}
use Rattle.module_units.specs.Unit.{UnitOf}
use Rattle.module_units.specs.Machine.{AtHead, ItemPlace, InType, AfterName, AfterOpen, WantsEnd, Place, Between, Exported, InModule, InPartition, InItem, Parser, step, run, start}
use Rattle.module_units.specs.Rules.{Fault}
use Rattle.module_units.specs.FaultRuns.{behind, behind_at, fault_step, fault_run, first_fault, or_first, names_of}
use Rattle.module_units.specs.Reading.{seen_all}
use Rattle.module_lexer.specs.declared.token.Token.{Token}
use Rattle.module_lexer.specs.declared.reason.SourceReason.TheVariants.{Syntax}
use Rattle.module_units.specs.declared.unit.SourceError.{SourceError}
use Rattle.module_units.specs.declared.unit.SourceError.TheVariants as refused
use Rattle.module_units.specs.declared.reader.Reader.{Reader}
use Rattle.module_units.specs.declared.places.StepError.{StepError}
use Rattle.module_units.specs.declared.places.StepError.TheVariants as errors

-- nothing is declared where a module declaration may stand
abbrev pub NoDecls : UnitOf → Place → Type 0
NoDecls unit (Between AtHead) = unit.decls ≡ []
NoDecls unit (Exported AtHead line) = unit.decls ≡ []
NoDecls unit (InModule export line name_place) = unit.decls ≡ []
NoDecls unit (InPartition export line module_name name_place) = unit.decls ≡ []
NoDecls unit place = Unit {0}

-- until the first fault, the names are those of the declarations
pub record IsReader (reader : Reader) : Type 0 where
  pub names : reader.fault ≡ None → reader.names ≡ names_of reader.parser.unit
  pub head : NoDecls reader.parser.unit reader.parser.place

-- a terminal takes one reader to the other
pub record Takes (reader : Reader) (terminal : Terminal) (next : Reader) : Type 0 where
  pub stepped : step reader.parser.unit reader.parser.place terminal ≡ Some next.parser
  pub behind_is : next.behind ≡ behind reader.behind reader.parser.place terminal
  pub fault_is : next.fault ≡ or_first reader.fault (fault_step next.behind reader.parser.unit reader.parser.place terminal)

-- what a reader answers to a terminal
abbrev pub TakesOrStops : Reader → Terminal → Result Reader StepError → Type 0
TakesOrStops reader terminal (Ok next) = Takes reader terminal next × IsReader next
TakesOrStops reader terminal (Err errors.Syntax) = step reader.parser.unit reader.parser.place terminal ≡ None
TakesOrStops reader terminal (Err errors.Memory) = Unit {0}

-- what a reader answers to the terminal of a token on a line
abbrev pub TakesOnLine : Reader → Terminal → ℕ → Result Reader SourceError → Type 0
TakesOnLine reader terminal line (Ok next) = Takes reader terminal next × IsReader next
TakesOnLine reader terminal line (Err (refused.Text fault_line reason)) = (step reader.parser.unit reader.parser.place terminal ≡ None) × (fault_line ≡ line) × (reason ≡ Syntax)
TakesOnLine reader terminal line (Err refused.Memory) = Unit {0}

-- what a reader answers at the end of a text, which is on a line
abbrev pub finished : Place → Option Fault → UnitOf → ℕ → Result UnitOf SourceError
finished (Between stage) None unit line = Ok unit
finished (Between stage) (Some found) unit line = Err (refused.Text found.line found.reason)
finished place fault unit line = Err (refused.Text line Syntax)

-- what a reader holds: imports, declarations and the types of the item that it is in
abbrev pub held_in : ItemPlace → ℕ
held_in (InType owner types type_place) = length types
held_in (AfterName types identifier) = length types
held_in (AfterOpen types identifier) = length types
held_in (WantsEnd kind identifier types) = length types
held_in place = 0

-- a place holds what its item holds
abbrev pub held_at : Place → ℕ
held_at (InItem context item_place) = held_in item_place
held_at place = 0

-- all that a reader holds
abbrev pub held : Parser → ℕ
held parser = length parser.unit.imports + length parser.unit.decls + held_at parser.place

-- the reader has read so many tokens of the text
pub record HasRead (text : List ℕ) (tokens : List Token) (count : ℕ) (so_far : Reader) : Type 0 where
  pub reads : run (Some start) (take count (seen_all text tokens)) ≡ Some so_far.parser
  pub faults : or_first so_far.fault (fault_run so_far.behind (Some so_far.parser) (drop count (seen_all text tokens))) ≡ first_fault (fault_run (behind_at 0 false) (Some start) (seen_all text tokens))
  pub reader : IsReader so_far
  pub small : held so_far.parser ≤ count
