-- Working definitions: how the text of an interface is read, line by line.
use Rattle.std.specs.Prelude.{◌≡◌, ◌≢◌, ◌≤◌, ℕ, Bool, true, false, not, ◌&&◌, ◌==◌, nat_lt, if◌then◌else◌, List, [], ◌∷◌, ◌++◌, length, find, Option, Some, None, is_some, Result, Ok, Err, codes}
use Rattle.std.specs.List.{list_any}
use Rattle.std.specs.Option.{option_map}
use Rattle.std.specs.Str.{bytes_eq}
use Rattle.mm_outside.specs.declared.errors.Memory.{Memory}
use Rattle.cody_words.specs.Octets.{newline}
use Rattle.cody_words.specs.Lines.{longest_line}
use Rattle.cody_words.specs.Canonical.{canonical_text}
use Rattle.header_units.specs.Names.{name_kind}
use Rattle.mapper_requests.specs.Requests.{word_at}
use Rattle.unit_registry.specs.Lines.{is_word}
use Rattle.module_units.specs.declared.parts.DeclKind.{DeclKind}
use Rattle.module_units.specs.declared.parts.DeclKind.TheVariants.{Struct, Class, Alias, Variable, Function}
use Rattle.export_lists.specs.Entries.{Listed, is_same}
use Rattle.export_lists.specs.Lists.{Cmi}
use Rattle.export_lists.specs.Compiling.{most_names}
use Rattle.export_lists.specs.Words.{Row, kind_word, line_of}
use Rattle.export_lists.specs.CmiTexts.{role_word, is_good_entry}
use Rattle.export_lists.specs.declared.cmi_error.CmiError.{CmiError}
use Rattle.export_lists.specs.declared.cmi_error.CmiError.TheVariants as errors
use Rattle.export_lists.specs.declared.distinct.LineError.{LineError}
use Rattle.export_lists.specs.declared.distinct.LineError.TheVariants as faults
use Rattle.export_lists.specs.declared.draft.Lists.{Lists}
use Rattle.export_lists.specs.declared.draft.Draft.{Draft}
use Rattle.export_lists.specs.declared.draft.Draft.TheVariants.{Start, Headed, Listing, Over}

-- ---- the words of lines

-- The words stand on a line that isn't too long.
pub record IsRow (words : Row) : Type 0 where
  pub some : words ≢ []
  pub short : length (canonical_text words false) ≤ longest_line

-- The line is the canonical one of these words.
pub record IsLine (line : List ℕ) (words : Row) : Type 0 where
  pub row : IsRow words
  pub same : line ++ newline ∷ [] ≡ line_of words

-- ---- one line more

-- whether an entry may follow these: it may be read, they aren't too many, and none of them is equal to it
abbrev pub may_follow : List Listed → Listed → Bool
may_follow before entry = is_good_entry entry.name entry.owner && (nat_lt (length before) most_names && not (list_any (is_same entry) before))

-- the kind of declaration that a word stands for
abbrev pub kind_in : List ℕ → Option DeclKind
kind_in word = find (λ kind. bytes_eq word (kind_word kind)) (Struct ∷ Class ∷ Alias ∷ Variable ∷ Function ∷ [])

-- whether a unit is an interface, by the word for it
abbrev pub role_in : List ℕ → Option Bool
role_in word = find (λ interface. bytes_eq word (role_word interface)) (true ∷ false ∷ [])

-- the interface of lists
abbrev pub cmi_of : Lists → Cmi
cmi_of lists = record { unit = lists.unit; interface = lists.interface; exports = lists.exports; view = lists.view }

-- the draft behind the first line
abbrev pub headed : Row → Option Draft
headed words =
    if length words == 2 && is_word words 0 (codes "modmap-cmi") && is_word words 1 (codes "1") then Some Headed else None

-- lists with no entries yet
abbrev pub blank : List ℕ → Bool → Lists
blank name interface = record { unit = name; interface = interface; exports = []; view = [] }

-- the draft behind the line of a unit of this name
abbrev pub with_role : List ℕ → Option Bool → Option Draft
with_role name (Some interface) = if is_some (name_kind name) then Some (Listing (blank name interface)) else None
with_role name None = None

-- the draft behind the line of the unit
abbrev pub begun : Row → Option Draft
begun words =
    if length words == 3 && is_word words 0 (codes "unit") then with_role (word_at words 1) (role_in (word_at words 2)) else None

-- entries with one more, where it may follow them
abbrev pub added : List Listed → Listed → Option (List Listed)
added entries entry = if may_follow entries entry then Some (entries ++ entry ∷ []) else None

-- lists with these exports
abbrev pub with_exports : Lists → List Listed → Draft
with_exports lists entries = Listing (record { unit = lists.unit; interface = lists.interface; exports = entries; view = lists.view })

-- lists with this view
abbrev pub with_view : Lists → List Listed → Draft
with_view lists entries = Listing (record { unit = lists.unit; interface = lists.interface; exports = lists.exports; view = entries })

-- the draft with one entry of the exports more, where none of the view was read
abbrev pub exported : Lists → Listed → Option Draft
exported lists entry = if length lists.view == 0 then option_map (with_exports lists) (added lists.exports entry) else None

-- the draft with one entry of the view more
abbrev pub seen : Lists → Listed → Option Draft
seen lists entry = option_map (with_view lists) (added lists.view entry)

-- the draft behind an entry's line that begins with this word
abbrev pub with_entry_line : Lists → List ℕ → Listed → Option Draft
with_entry_line lists first entry =
    if bytes_eq first (codes "export") then exported lists entry
    else if bytes_eq first (codes "inner") then seen lists entry
    else None

-- the draft behind a line of four words
abbrev pub with_kind : Lists → List ℕ → Option DeclKind → List ℕ → List ℕ → Option Draft
with_kind lists first (Some kind) name owner = with_entry_line lists first (record { kind = kind; name = name; owner = owner })
with_kind lists first None name owner = None

-- the draft behind a line of an entry, or the last
abbrev pub lists_next : Lists → Row → Option Draft
lists_next lists words =
    if length words == 4 then with_kind lists (word_at words 0) (kind_in (word_at words 1)) (word_at words 2) (word_at words 3)
    else if length words == 1 && is_word words 0 (codes "end") then Some (Over (cmi_of lists))
    else None

-- the draft behind a line of these words, if there is one
abbrev pub next : Draft → Row → Option Draft
next Start words = headed words
next Headed words = begun words
next (Listing lists) words = lists_next lists words
next (Over cmi) words = None

-- ---- what calls answer

-- the answer is what was found, or that there is nothing, unless memory ran out
abbrev pub Takes : {X : Type 0} → Option X → Result X LineError → Type 0
Takes found (Ok x) = found ≡ Some x
Takes found (Err faults.Fault) = found ≡ None
Takes found (Err faults.Memory) = Unit {0}

-- the words of which the line is the canonical one, or none where there are none
abbrev pub HasWords : Option Row → List ℕ → Type 0
HasWords (Some words) line = IsLine line words
HasWords None line = (words : Row) → IsLine line words → ⊥

-- the same, unless memory ran out
abbrev pub ReadsWords : Result (Option Row) Memory → List ℕ → Type 0
ReadsWords (Ok words) line = HasWords words line
ReadsWords (Err _) line = Unit {0}

-- the draft behind a line, or that there is none, unless memory ran out
abbrev pub TakesLine : Result Draft LineError → Draft → List ℕ → Type 0
TakesLine (Ok after) draft line = (words : Row) × IsLine line words × (next draft words ≡ Some after)
TakesLine (Err faults.Fault) draft line = (words : Row) → IsLine line words → next draft words ≡ None
TakesLine (Err faults.Memory) draft line = Unit {0}

-- the rest of a text holds no line more
abbrev pub EndsSo : Draft → ℕ → List ℕ → Result Cmi CmiError → Type 0
EndsSo draft number rest (Ok cmi) = (draft ≡ Over cmi) × (rest ≡ [])
EndsSo draft number rest (Err (errors.Text line)) = (line ≡ number) × ((cmi : Cmi) → draft ≡ Over cmi → rest ≢ [])
EndsSo draft number rest (Err errors.Memory) = Unit {0}
