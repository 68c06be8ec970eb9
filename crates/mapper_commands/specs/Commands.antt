-- The commands, as words of the command line.
use Rattle.std.specs.Prelude.{◌≡◌, ℕ, true, List, [], ◌∷◌, map, String, string_bytes, codes}
use Rattle.std.specs.declared.alloc.Global.{Global}
use Rattle.mapper_server.specs.Limits.{fewest_entries, most_entries, most_halls}
use Rattle.mapper_commands.specs.Addresses.{IsAddress}
use Rattle.mapper_commands.specs.Askings.{IsNumberWithin, greatest_seed, is_folder, most_links, most_units, usual_entries}
use Rattle.mapper_commands.specs.declared.command.Command.{Command}
use Rattle.mapper_commands.specs.declared.command.Command.TheVariants as command
use Rattle.mapper_commands.specs.declared.serve_words.ServeCommand.{ServeCommand}
use Rattle.mapper_commands.specs.declared.verb.Verb.{Verb}
use Rattle.mapper_commands.specs.declared.verb.Verb.TheVariants as verb

-- what is to be done: serve one connection over this project file, in a history of at most so many entries; check a
-- trace against a project, or replay one; compile the units of a project one by one and report on them; or write a
-- generated project of so many units into a folder
pub data Task : Type 0 where
  Pipe : (project : List ℕ) → (entries : ℕ) → Task
  Check : (project trace : List ℕ) → Task
  Replay : (project trace : List ℕ) → Task
  ListUnits : (project : List ℕ) → Task
  Generate : (folder : List ℕ) → (units seed : ℕ) → Task

-- what a command asks for, its texts as lists of octets
abbrev pub task_of : Command → Task
task_of (command.Pipe project entries) = Pipe project.now entries
task_of (command.Check project trace) = Check project.now trace.now
task_of (command.Replay project trace) = Replay project.now trace.now
task_of (command.List project) = ListUnits project.now
task_of (command.Gen folder units seed) = Generate folder.now units seed

-- the words behind `pipe`: PROJECT [ENTRIES], where ENTRIES is else 65,536
pub data AsksPipe (words : List (List ℕ)) (task : Task) : Type 0 where
  usual : (project : List ℕ) → words ≡ project ∷ [] → task ≡ Pipe project usual_entries → AsksPipe words task
  counted : (project word : List ℕ) (entries : ℕ) → words ≡ project ∷ word ∷ [] → IsNumberWithin fewest_entries most_entries word entries → task ≡ Pipe project entries → AsksPipe words task

-- the words are PROJECT TRACE, of this task
pub record AsksOfTrace (asks : List ℕ → List ℕ → Task) (words : List (List ℕ)) (task : Task) : Type 0 where
  pub project : List ℕ
  pub trace : List ℕ
  pub words_are : words ≡ project ∷ trace ∷ []
  pub task_is : task ≡ asks project trace

-- the words are PROJECT, of the task to report on its units
pub record AsksToList (words : List (List ℕ)) (task : Task) : Type 0 where
  pub project : List ℕ
  pub words_are : words ≡ project ∷ []
  pub task_is : task ≡ ListUnits project

-- the words are FOLDER UNITS SEED, with UNITS from 1 to 2,000 and SEED up to 2,147,483,647, of the task to generate so
pub record AsksToGenerate (words : List (List ℕ)) (task : Task) : Type 0 where
  pub folder : List ℕ
  pub units_word : List ℕ
  pub seed_word : List ℕ
  pub units : ℕ
  pub seed : ℕ
  pub words_are : words ≡ folder ∷ units_word ∷ seed_word ∷ []
  pub folder_is : is_folder folder ≡ true
  pub units_are : IsNumberWithin 1 most_units units_word units
  pub seed_is : IsNumberWithin 0 greatest_seed seed_word seed
  pub task_is : task ≡ Generate folder units seed

-- the word of a verb
abbrev pub verb_text : Verb → List ℕ
verb_text verb.Pipe = codes "pipe"
verb_text verb.Check = codes "check"
verb_text verb.Replay = codes "replay"
verb_text verb.List = codes "list"
verb_text verb.Gen = codes "gen"

-- what the words behind a verb ask for
abbrev pub AsksAs : Verb → List (List ℕ) → Task → Type 0
AsksAs verb.Pipe words task = AsksPipe words task
AsksAs verb.Check words task = AsksOfTrace Check words task
AsksAs verb.Replay words task = AsksOfTrace Replay words task
AsksAs verb.List words task = AsksToList words task
AsksAs verb.Gen words task = AsksToGenerate words task

-- the words ask for this: a verb, and what it needs behind it
pub record AsksFor (words : List (List ℕ)) (task : Task) : Type 0 where
  pub first : Verb
  pub rest : List (List ℕ)
  pub words_are : words ≡ verb_text first ∷ rest
  pub asked : AsksAs first rest task

-- the words ask for nothing that the program does
abbrev pub AsksNothing : List (String Global) → Type 0
AsksNothing words = (task : Task) → AsksFor (map string_bytes words) task → ⊥

-- the first word is `pipe`
abbrev pub BeginsWithPipe : List (String Global) → Type 0
BeginsWithPipe words = (rest : List (List ℕ)) × (map string_bytes words ≡ codes "pipe" ∷ rest)

-- ---- serving many connections

-- what the words of `serve` ask for: the project file, the address of the halls, how many workers serve, the most links
-- that the hall of each gives, and the most entries of their history
pub record ServeWords : Type 0 where
  pub project : List ℕ
  pub address : List ℕ
  pub workers : ℕ
  pub links : ℕ
  pub entries : ℕ

-- what a command asks for, its texts as lists of octets
abbrev pub serve_words : ServeCommand → ServeWords
serve_words command = record { project = command.project.now; address = command.address.now; workers = command.workers; links = command.links; entries = command.entries }

-- the words are `serve PROJECT ADDRESS WORKERS LINKS ENTRIES` and ask for this, with WORKERS from 1 to 64, LINKS from 1 to
-- 65,536 and ENTRIES from WORKERS to 1,048,576
pub record AsksToServe (words : List (List ℕ)) (serve : ServeWords) : Type 0 where
  pub workers_word : List ℕ
  pub links_word : List ℕ
  pub entries_word : List ℕ
  pub words_are : words ≡ codes "serve" ∷ serve.project ∷ serve.address ∷ workers_word ∷ links_word ∷ entries_word ∷ []
  pub address_is : IsAddress serve.address
  pub workers_are : IsNumberWithin 1 most_halls workers_word serve.workers
  pub links_are : IsNumberWithin 1 most_links links_word serve.links
  pub entries_are : IsNumberWithin serve.workers most_entries entries_word serve.entries

-- the words aren't of that form
abbrev pub AsksNotToServe : List (String Global) → Type 0
AsksNotToServe words = (serve : ServeWords) → AsksToServe (map string_bytes words) serve → ⊥

-- the first word is `serve`
abbrev pub BeginsWithServe : List (String Global) → Type 0
BeginsWithServe words = (rest : List (List ℕ)) × (map string_bytes words ≡ codes "serve" ∷ rest)
