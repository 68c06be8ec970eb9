-- Working definitions: how the private functions of this crate write and read a line, word by word.
use Rattle.std.specs.Prelude.{◌≡◌, ℕ, ◌≤◌, Bool, true, false, ◌&&◌, ◌==◌, nat_lt, nat_le, if◌then◌else◌, List, [], ◌∷◌, ◌++◌, length, Option, Some, None, codes, decimal}
use Rattle.std.specs.List.{slice_split}
use Rattle.std.specs.Option.{option_map}
use Rattle.std.specs.Str.{bytes_eq}
use Rattle.cody_words.specs.Octets.{space}
use Rattle.mapper_requests.specs.declared.request.Bad.{Bad as Cause}
use Rattle.mapper_requests.specs.declared.request.Bad.TheVariants.{UnknownVerb, WrongWords, BadNumber}
use Rattle.mapper_requests.specs.Numbers.{number_of}
use Rattle.unit_registry.specs.declared.act.Act.{Act}
use Rattle.unit_registry.specs.declared.act.Act.TheVariants.{Open, Hello, Repo, Export, Import, Compiled, Translate, Bad, Pause, Left, Lost, Done}
use Rattle.histories.specs.declared.entry.Entry.{Entry}
use Rattle.histories.specs.Entries.{no_connection}
use Rattle.trace_text.specs.declared.words.LineWords.{LineWords}
use Rattle.trace_text.specs.declared.words.LineWords.TheVariants.{One, Two, Three, Four, More}
use Rattle.trace_text.specs.declared.lines.Head.{Head}
use Rattle.trace_text.specs.declared.lines.BodyLine.{BodyLine}
use Rattle.trace_text.specs.declared.lines.BodyLine.TheVariants as body
use Rattle.trace_text.specs.Texts.{most_workers, greatest_limit}

-- words, each behind a space
abbrev pub behind : List (List ℕ) → List ℕ
behind [] = []
behind (word ∷ words) = (space ∷ word) ++ behind words

-- ---- the words of a line

-- whether an octet is this one
abbrev pub is_octet : ℕ → ℕ → Bool
is_octet mark octet = octet == mark

-- what stands between the spaces of a line
abbrev pub words_in : List ℕ → List (List ℕ)
words_in line = slice_split (is_octet space) line

-- The words are these, by how many there are.
abbrev pub HasWords : LineWords → List (List ℕ) → Type 0
HasWords (One first) words = words ≡ first.now ∷ []
HasWords (Two first second) words = words ≡ first.now ∷ second.now ∷ []
HasWords (Three first second third) words = words ≡ first.now ∷ second.now ∷ third.now ∷ []
HasWords (Four first second third fourth) words = words ≡ first.now ∷ second.now ∷ third.now ∷ fourth.now ∷ []
HasWords More words = 5 ≤ length words

-- ---- numbers

-- a number that is spelled as it is written
abbrev pub as_written : Option ℕ → List ℕ → Option ℕ
as_written (Some number) word = if bytes_eq (decimal number) word then Some number else None
as_written None word = None

-- the number that a word is
unfoldable pub number_in : List ℕ → Option ℕ
number_in word = as_written (number_of word) word

-- the unit that a word is, where this word stands for none
abbrev pub unit_in : List ℕ → List ℕ → Option (Option ℕ)
unit_in none word = if bytes_eq word none then Some None else option_map Some (number_in word)

-- a number that is one of a connection
abbrev pub if_conn : Option ℕ → Option ℕ
if_conn (Some number) = if nat_lt number no_connection then Some number else None
if_conn None = None

-- ---- acts

-- what a word says of a header unit
abbrev pub header_in : List ℕ → Option Bool
header_in word =
    if bytes_eq word (codes "yes") then Some true
    else if bytes_eq word (codes "no") then Some false
    else None

-- the cause that a word is
abbrev pub cause_in : List ℕ → Option Cause
cause_in word =
    if bytes_eq word (codes "verb") then Some UnknownVerb
    else if bytes_eq word (codes "words") then Some WrongWords
    else if bytes_eq word (codes "number") then Some BadNumber
    else None

-- A verb, and the act that it is with a word.
pub record Row : Type 0 where
  pub verb : List ℕ
  pub act : List ℕ → Option Act

-- a row by its columns
abbrev pub row : List ℕ → (List ℕ → Option Act) → Row
row verb act = record { verb = verb; act = act }

-- the act of the first row with the verb
abbrev pub act_by : List Row → List ℕ → List ℕ → Option Act
act_by [] verb word = None
act_by (first ∷ rows) verb word = if bytes_eq verb first.verb then first.act word else act_by rows verb word

-- verbs without a word
abbrev pub LONE : List Row
LONE =
    row (codes "open") (λ _. Some Open)
    ∷ row (codes "repo") (λ _. Some Repo)
    ∷ row (codes "pause") (λ _. Some Pause)
    ∷ row (codes "left") (λ _. Some Left)
    ∷ row (codes "lost") (λ _. Some Lost)
    ∷ []

-- verbs with one word
abbrev pub PAIRED : List Row
PAIRED =
    row (codes "export") (λ word. option_map Export (unit_in (codes "?") word))
    ∷ row (codes "import") (λ word. option_map (λ unit. Import unit false) (unit_in (codes "?") word))
    ∷ row (codes "name") (λ word. option_map (λ unit. Import unit true) (unit_in (codes "?") word))
    ∷ row (codes "compiled") (λ word. option_map (λ unit. Compiled unit false) (unit_in (codes "?") word))
    ∷ row (codes "stored") (λ word. option_map (λ unit. Compiled (Some unit) true) (number_in word))
    ∷ row (codes "translate") (λ word. option_map Translate (header_in word))
    ∷ row (codes "bad") (λ word. option_map Bad (cause_in word))
    ∷ []

-- the act that a verb is
abbrev pub lone_act : List ℕ → Option Act
lone_act verb = act_by LONE verb []

-- the act that a verb and a word are
abbrev pub paired_act : List ℕ → List ℕ → Option Act
paired_act verb word = act_by PAIRED verb word

-- the act of a version and a unit
abbrev pub hello_by : Option ℕ → Option (Option ℕ) → Option Act
hello_by (Some version) (Some unit) = Some (Hello version unit)
hello_by (Some version) None = None
hello_by None unit = None

-- the act that a verb and two words are
abbrev pub hello_act : List ℕ → List ℕ → List ℕ → Option Act
hello_act verb version unit =
    if bytes_eq verb (codes "hello") then hello_by (number_in version) (unit_in (codes "guest") unit) else None

-- ---- lines

-- the entry of a connection and an act
abbrev pub entry_by : Option ℕ → Option Act → Option Entry
entry_by (Some conn) (Some act) = Some (record { conn = conn; act = act })
entry_by (Some conn) None = None
entry_by None act = None

-- the entry of a Done
abbrev pub done_entry : Entry
done_entry = record { conn = no_connection; act = Done }

-- the entry that a word and a verb are
abbrev pub short_entry : List ℕ → List ℕ → Option Entry
short_entry who verb =
    if bytes_eq who (codes "-") then (if bytes_eq verb (codes "done") then Some done_entry else None)
    else entry_by (if_conn (number_in who)) (lone_act verb)

-- an entry's line
abbrev pub as_entry : Option Entry → Option BodyLine
as_entry entry = option_map body.Item entry

-- the line that two words are
abbrev pub short_line : List ℕ → List ℕ → Option BodyLine
short_line first second =
    if bytes_eq first (codes "end") then option_map body.End (number_in second) else as_entry (short_entry first second)

-- the line behind the head that words are
abbrev pub body_line : List (List ℕ) → Option BodyLine
body_line (who ∷ verb ∷ []) = short_line who verb
body_line (who ∷ verb ∷ word ∷ []) = as_entry (entry_by (if_conn (number_in who)) (paired_act verb word))
body_line (who ∷ verb ∷ word ∷ other ∷ []) = as_entry (entry_by (if_conn (number_in who)) (hello_act verb word other))
body_line words = None

-- whether these are the number of workers and the limit of a trace
abbrev pub is_head : ℕ → ℕ → Bool
is_head workers limit =
    nat_le 1 workers && nat_le workers most_workers && nat_le workers limit && nat_le limit greatest_limit

-- the head of these numbers
abbrev pub head_by : Option ℕ → Option ℕ → Option Head
head_by (Some workers) (Some limit) = if is_head workers limit then Some (record { workers = workers; limit = limit }) else None
head_by (Some workers) None = None
head_by None limit = None

-- the head that words are
abbrev pub head_of : List (List ℕ) → Option Head
head_of (mark ∷ version ∷ workers ∷ limit ∷ []) =
    if bytes_eq mark (codes "modmap-trace") && bytes_eq version (codes "1") then head_by (number_in workers) (number_in limit) else None
head_of words = None
