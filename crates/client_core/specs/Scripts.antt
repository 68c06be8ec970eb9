-- What a client asks: the requests of its two blocks, and the octets that it sends.
use Rattle.std.specs.Prelude.{ℕ, Bool, true, false, not, ◌==◌, if◌then◌else◌, List, [], ◌∷◌, ◌++◌, length, map, codes, ⊤}
use Rattle.cody_words.specs.Canonical.{canonical_line, canonical_text}
use Rattle.mapper_requests.specs.Asked.{Asked, Hello, Repo, Export, Import, Compiled}
use Rattle.mapper_requests.specs.Writing.{request_words}
use Rattle.module_units.specs.declared.parts.Import.{Import as ImportOf}
use Rattle.module_units.specs.Reading.{SourceReading, Good, Bad, ReadsUnit}
use Rattle.client_core.specs.declared.script.Script.{Script}
use Rattle.client_core.specs.declared.script.Script.TheVariants as scripts

-- ---- what a client is for

-- what a script's source reads as
abbrev pub reading_of : Script → SourceReading
reading_of (scripts.Good unit) = Good unit
reading_of (scripts.Broken line reason) = Bad line reason

-- a source with a fault, or a unit that some text reads as
abbrev pub CanBeRead : Script → Type 0
CanBeRead (scripts.Good unit) = (text : List ℕ) × ReadsUnit text unit
CanBeRead (scripts.Broken line reason) = ⊤

-- What a client is for: the word by which it says who it is, the name of its unit, which is empty where the unit has none,
-- and what its source reads as.
pub record TaskView : Type 0 where
  pub ident : List ℕ
  pub name : List ℕ
  pub reading : SourceReading

-- the imports of a source, in order; one with a fault has none
abbrev pub imports_in : SourceReading → List ImportOf
imports_in (Good unit) = unit.imports
imports_in (Bad line reason) = []

-- whether a unit has no name
abbrev pub is_nameless : List ℕ → Bool
is_nameless name = length name == 0

-- ---- what it asks

-- who the client is: version 1 of the protocol, this program, and its ident
abbrev pub greeting : List ℕ → Asked
greeting ident = Hello 1 (codes "modmap") ident

-- where the unit's interface goes, which one without a name has not
abbrev pub export_request : List ℕ → List Asked
export_request name = if is_nameless name then [] else Export name 0 ∷ []

-- where the interface is that an import names
abbrev pub import_request : ImportOf → Asked
import_request import = Import import.name 0

-- what is asked for a source: where its interface goes, and for each import in order, repeats too, where that one's is;
-- nothing for a source with a fault
abbrev pub unit_requests : List ℕ → SourceReading → List Asked
unit_requests name (Good unit) = export_request name ++ map import_request unit.imports
unit_requests name (Bad line reason) = []

-- the requests of the first block
abbrev pub first_requests : List ℕ → List ℕ → SourceReading → List Asked
first_requests ident name reading = greeting ident ∷ Repo ∷ unit_requests name reading

-- the request of the second block: that the unit of this name is compiled
abbrev pub second_requests : List ℕ → List Asked
second_requests name = Compiled name 0 ∷ []

-- the requests of either block: of the second where that is meant
abbrev pub requests_in : Bool → TaskView → List Asked
requests_in false task = first_requests task.ident task.name task.reading
requests_in true task = second_requests task.name

-- how many lines of replies stand before those to either block
abbrev pub lines_in : Bool → TaskView → ℕ
lines_in false task = 0
lines_in true task = length (first_requests task.ident task.name task.reading)

-- ---- what it sends

-- the octets of a block: the canonical lines of its requests, with the mark on all but the last
abbrev pub block_text : List Asked → List ℕ
block_text [] = []
block_text (request ∷ rest) = canonical_line (request_words request) (not (length rest == 0)) ++ block_text rest

-- the lines of a block
abbrev pub block_lines : List Asked → List (List ℕ)
block_lines [] = []
block_lines (request ∷ rest) = canonical_text (request_words request) (not (length rest == 0)) ∷ block_lines rest

-- the octets of the first block, followed by those of the second where it is sent
abbrev pub script_text : List ℕ → List ℕ → SourceReading → Bool → List ℕ
script_text ident name reading false = block_text (first_requests ident name reading)
script_text ident name reading true = block_text (first_requests ident name reading) ++ block_text (second_requests name)
