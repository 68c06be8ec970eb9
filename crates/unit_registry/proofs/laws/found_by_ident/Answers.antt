use Rattle.std.proofs.Common.{[], Option, ap, ◌∙◌}
use Rattle.std.specs.Option.{option_map_or}
use Rattle.unit_registry.specs.declared.unit.Declared.{Declared}
use Rattle.unit_registry.specs.Projects.{own_ident}
use Rattle.unit_registry.proofs.Found.{find_by-within, find_by_at, find_by-none, find_by-empty, has_word-same}
use Rattle.unit_registry.proofs.laws.found_by_ident.Goals as goal

pub returns-clause-unit : goal.returns-clause-unit
returns-clause-unit c = λ project ident unit e. find_by-within own_ident project.units ident unit e

pub returns-clause-ident : goal.returns-clause-ident
returns-clause-ident c = λ project ident unit e.
    let found = find_by_at own_ident project.units ident unit e in
    ap (λ (r : Option Declared). option_map_or (λ (d : Declared). d.ident) r []) found.at ∙ has_word-same own_ident ident found.unit found.passes

pub returns-clause-none : goal.returns-clause-none
returns-clause-none c = λ project ident some none unit within. find_by-none own_ident project.units ident some none unit

pub returns-clause-empty : goal.returns-clause-empty
returns-clause-empty c = λ project. find_by-empty own_ident project.units
