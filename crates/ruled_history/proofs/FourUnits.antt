-- The project file of the worked examples declares four units.
use Rattle.std.proofs.Common.{◌≡◌, ℕ, List, [], ◌∷◌, ◌++◌, refl, sym, ◌∙◌}
use Rattle.std.specs.Prelude.{codes, Ok, Result}
use Rattle.cody_words.specs.Meanings as meanings
use Rattle.header_units.specs.Octets as octets
use Rattle.header_units.specs.Names as names
use Rattle.unit_registry.specs.Projects as projects
use Rattle.unit_registry.specs.Projects.{ProjectView}
use Rattle.unit_registry.specs.Drafts as drafts
use Rattle.unit_registry.specs.Readings as readings
use Rattle.unit_registry.specs.Readings.{Declares, Fault}
use Rattle.unit_registry.proofs.Grammars.{declared_reaches}
use Rattle.unit_registry.proofs.Outcomes.{reading_reaches}
use Rattle.ruled_history.specs.Examples.{four_units}

-- the file's octets
abbrev pub project_text : List ℕ
project_text =
    codes "modmap-project 1" ++ 10
    ∷ (codes "repo gcm.cache" ++ 10
    ∷ (codes "module a a.cc" ++ 10
    ∷ (codes "module b b.cc" ++ 10
    ∷ (codes "header ./x.h x.h" ++ 10
    ∷ (codes "plain main.cc" ++ 10
    ∷ (codes "end" ++ 10 ∷ []))))))

read_text : readings.reading project_text ≡ Ok four_units
unfolding readings.reading drafts.with_line meanings.meaning meanings.is_marked meanings.marked_body projects.find_by names.name_kind octets.is_letter octets.is_letter_or_digit
read_text = refl

same_project : (project other : ProjectView) → (let r : Result ProjectView Fault = Ok project in r) ≡ Ok other → project ≡ other
same_project project other e = cc

pub declares_four : (project : ProjectView) → Declares project_text project → project ≡ four_units
declares_four project d = same_project project four_units (sym (reading_reaches project_text project (declared_reaches project_text project d)) ∙ read_text)
