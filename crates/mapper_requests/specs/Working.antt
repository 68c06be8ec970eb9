-- How the code goes over the table, and no part of what a request is.
use Rattle.std.specs.Prelude.{ℕ, List, [], ◌∷◌, ◌++◌}
use Rattle.cody_words.specs.Octets.{space}
use Rattle.cody_words.specs.Canonical.{quote}
use Rattle.mapper_requests.specs.declared.verb.Verb.{Verb}
use Rattle.mapper_requests.specs.declared.verb.Verb.TheVariants as verb
use Rattle.mapper_requests.specs.Requests.{Row, hello_row, repo_row, export_row, import_row, compiled_row, translate_row}

-- the row of the table that is meant by a verb
abbrev pub row_of : Verb → Row
row_of verb.Hello = hello_row
row_of verb.Repo = repo_row
row_of verb.Export = export_row
row_of verb.Import = import_row
row_of verb.Compiled = compiled_row
row_of verb.Translate = translate_row

-- words behind another one, each behind a space
abbrev pub behind : List (List ℕ) → List ℕ
behind [] = []
behind (word ∷ words) = space ∷ quote word ++ behind words
