-- The text of a trace: its lines, and the words of each.
use Rattle.std.specs.Prelude.{ℕ, ◌≤◌, Bool, true, false, if◌then◌else◌, List, [], ◌∷◌, ◌++◌, length, map, flat_map, All, Option, Some, None, IfSome, codes, decimal}
use Rattle.std.specs.List.{join_with_byte}
use Rattle.cody_words.specs.Octets.{newline, space}
use Rattle.mapper_requests.specs.Numbers.{IsNumber}
use Rattle.mapper_requests.specs.declared.request.Bad.{Bad as Cause}
use Rattle.mapper_requests.specs.declared.request.Bad.TheVariants.{UnknownVerb, WrongWords, BadNumber}
use Rattle.unit_registry.specs.declared.act.Act.{Act}
use Rattle.unit_registry.specs.declared.act.Act.TheVariants.{Open, Hello, Repo, Export, Import, Compiled, Translate, Bad, Pause, Left, Lost, Done}
use Rattle.unit_registry.specs.Acts.{is_done}
use Rattle.histories.specs.declared.entry.Entry.{Entry}
use Rattle.histories.specs.Entries.{IsTraceEntry}

-- ---- words

-- a unit by its number, or this word for none
abbrev pub unit_word : List ℕ → Option ℕ → List ℕ
unit_word none (Some unit) = decimal unit
unit_word none None = none

-- the unit whose name was sent, or `?` for a name that isn't declared
abbrev pub name_word : Option ℕ → List ℕ
name_word unit = unit_word (codes "?") unit

-- the unit whose ident was sent, or `guest` for an ident that isn't declared
abbrev pub ident_word : Option ℕ → List ℕ
ident_word unit = unit_word (codes "guest") unit

-- an import: `name` where only the name is wanted
abbrev pub import_word : Bool → List ℕ
import_word true = codes "name"
import_word false = codes "import"

-- a report that a unit is compiled: `stored` with an item
abbrev pub compiled_word : Bool → List ℕ
compiled_word true = codes "stored"
compiled_word false = codes "compiled"

-- whether the name is that of a header unit
abbrev pub header_word : Bool → List ℕ
header_word true = codes "yes"
header_word false = codes "no"

-- why words are no request
abbrev pub cause_word : Cause → List ℕ
cause_word UnknownVerb = codes "verb"
cause_word WrongWords = codes "words"
cause_word BadNumber = codes "number"

-- the words of an act
abbrev pub act_words : Act → List (List ℕ)
act_words Open = codes "open" ∷ []
act_words (Hello version unit) = codes "hello" ∷ decimal version ∷ ident_word unit ∷ []
act_words Repo = codes "repo" ∷ []
act_words (Export unit) = codes "export" ∷ name_word unit ∷ []
act_words (Import unit name_only) = import_word name_only ∷ name_word unit ∷ []
act_words (Compiled unit stored) = compiled_word stored ∷ name_word unit ∷ []
act_words (Translate header) = codes "translate" ∷ header_word header ∷ []
act_words (Bad why) = codes "bad" ∷ cause_word why ∷ []
act_words Pause = codes "pause" ∷ []
act_words Left = codes "left" ∷ []
act_words Lost = codes "lost" ∷ []
act_words Done = codes "done" ∷ []

-- the connection, or `-` for a Done, which is of none
abbrev pub conn_word : Entry → List ℕ
conn_word entry = if is_done entry.act then codes "-" else decimal entry.conn

-- the words of an entry
abbrev pub entry_words : Entry → List (List ℕ)
entry_words entry = conn_word entry ∷ act_words entry.act

-- the words of the first line
abbrev pub head_words : ℕ → ℕ → List (List ℕ)
head_words workers limit = codes "modmap-trace" ∷ codes "1" ∷ decimal workers ∷ decimal limit ∷ []

-- the words of the last line
abbrev pub end_words : ℕ → List (List ℕ)
end_words count = codes "end" ∷ decimal count ∷ []

-- ---- lines

-- words with one space between them
abbrev pub spaced : List (List ℕ) → List ℕ
spaced words = join_with_byte space words

-- a line with its NEWLINE
abbrev pub ended : List ℕ → List ℕ
ended line = line ++ newline ∷ []

-- the line of an entry
abbrev pub entry_line : Entry → List ℕ
entry_line entry = spaced (entry_words entry)

-- the first line, of the number of workers and the limit
abbrev pub head_line : ℕ → ℕ → List ℕ
head_line workers limit = spaced (head_words workers limit)

-- the last line, of the number of entries
abbrev pub end_line : ℕ → List ℕ
end_line count = spaced (end_words count)

-- the lines of a trace before its last
abbrev pub first_lines : ℕ → ℕ → List Entry → List (List ℕ)
first_lines workers limit entries = head_line workers limit ∷ map entry_line entries

-- the lines of a trace
abbrev pub trace_lines : ℕ → ℕ → List Entry → List (List ℕ)
trace_lines workers limit entries = first_lines workers limit entries ++ end_line (length entries) ∷ []

-- the text of the lines of a trace before its last
abbrev pub first_text : ℕ → ℕ → List Entry → List ℕ
first_text workers limit entries = flat_map ended (first_lines workers limit entries)

-- the text of a history, with the number of its workers and its limit
abbrev pub trace : ℕ → ℕ → List Entry → List ℕ
trace workers limit entries = flat_map ended (trace_lines workers limit entries)

-- ---- what may be written

-- the most workers
abbrev pub most_workers : ℕ
most_workers = 16384

-- the greatest limit
abbrev pub greatest_limit : ℕ
greatest_limit = 67108864

-- the number of workers and the limit of a trace
pub record IsHead (workers limit : ℕ) : Type 0 where
  pub some : 1 ≤ workers
  pub few : workers ≤ most_workers
  pub room : workers ≤ limit
  pub bound : limit ≤ greatest_limit

-- What has a trace of its own: numbers of one, and entries of one.
pub record HasTrace (workers limit : ℕ) (entries : List Entry) : Type 0 where
  pub few : IsNumber workers
  pub bound : IsNumber limit
  pub each : All IsTraceEntry entries
  pub count : IsNumber (length entries)
