-- A worked project (a module with partitions, modules above it, a ring of two): what its units come to, and its report.
use Rattle.std.proofs.Common.{◌≡◌, ℕ, true, false, List, [], ◌∷◌, ◌++◌, map, codes, refl}
use Rattle.std.specs.Prelude.{filter_map}
use Rattle.std.specs.Fmt.{digits}
use Rattle.unit_registry.specs.Projects as projects
use Rattle.cody_words.specs.Canonical as canonical
use Rattle.export_lists.specs.Reports.{report}
use Rattle.std.specs.List.{flat_map}
use Rattle.module_units.specs.declared.unit.Unit.{Unit as UnitOf}
use Rattle.module_units.specs.Reading.{Good}
use Rattle.module_units.specs.declared.parts.DeclKind.TheVariants as kinds
use Rattle.module_units.specs.declared.parts.UnitKind.TheVariants as units
use Rattle.unit_registry.specs.declared.kind.Kind.TheVariants as declared
use Rattle.unit_registry.specs.Projects.{ProjectView}
use Rattle.export_lists.specs.Outcomes.{Origin, FromSource, outcome}

-- the project
abbrev project : ProjectView
project = record {
  repo = codes "gcm.cache";
  units =
      record { kind = declared.Module; name = codes "m"; ident = codes "m.cc"; built = false }
      ∷ record { kind = declared.Module; name = codes "m:p"; ident = codes "p.cc"; built = false }
      ∷ record { kind = declared.Module; name = codes "m:q"; ident = codes "q.cc"; built = false }
      ∷ record { kind = declared.Header; name = codes "./h.h"; ident = codes "h.h"; built = false }
      ∷ record { kind = declared.Module; name = codes "n"; ident = codes "n.cc"; built = false }
      ∷ record { kind = declared.Module; name = codes "o"; ident = codes "o.cc"; built = false }
      ∷ record { kind = declared.Plain; name = []; ident = codes "mi.cc"; built = false }
      ∷ record { kind = declared.Module; name = codes "r"; ident = codes "r.cc"; built = false }
      ∷ record { kind = declared.Module; name = codes "s"; ident = codes "s.cc"; built = false }
      ∷ [];
}

-- what its sources read as
abbrev units_read : List UnitOf
units_read =
    record { kind = units.Interface; «module» = codes "m"; partition = []; module_line = 1; imports = record { exported = true; name = codes "m:p"; line = 1 } ∷ record { exported = false; name = codes "m:q"; line = 1 } ∷ record { exported = false; name = codes "./h.h"; line = 1 } ∷ []; decls = record { exported = true; kind = kinds.Function; name = codes "make"; line = 1; types = record { name = codes "P"; line = 1 } ∷ record { name = codes "H"; line = 1 } ∷ [] } ∷ [] }
    ∷ record { kind = units.PartitionInterface; «module» = codes "m"; partition = codes "p"; module_line = 1; imports = []; decls = record { exported = true; kind = kinds.Struct; name = codes "P"; line = 1; types = [] } ∷ record { exported = false; kind = kinds.Struct; name = codes "Hidden"; line = 1; types = [] } ∷ [] }
    ∷ record { kind = units.PartitionImplementation; «module» = codes "m"; partition = codes "q"; module_line = 1; imports = []; decls = record { exported = false; kind = kinds.Struct; name = codes "Q"; line = 1; types = [] } ∷ [] }
    ∷ record { kind = units.Plain; «module» = []; partition = []; module_line = 1; imports = []; decls = record { exported = false; kind = kinds.Struct; name = codes "H"; line = 1; types = [] } ∷ [] }
    ∷ record { kind = units.Interface; «module» = codes "n"; partition = []; module_line = 1; imports = record { exported = true; name = codes "m"; line = 1 } ∷ []; decls = record { exported = true; kind = kinds.Alias; name = codes "N"; line = 1; types = record { name = codes "P"; line = 1 } ∷ [] } ∷ [] }
    ∷ record { kind = units.Interface; «module» = codes "o"; partition = []; module_line = 1; imports = record { exported = true; name = codes "n"; line = 1 } ∷ []; decls = record { exported = true; kind = kinds.Function; name = codes "f"; line = 1; types = record { name = codes "N"; line = 1 } ∷ record { name = codes "P"; line = 1 } ∷ [] } ∷ [] }
    ∷ record { kind = units.Implementation; «module» = codes "m"; partition = []; module_line = 1; imports = record { exported = false; name = codes "m"; line = 1 } ∷ []; decls = record { exported = false; kind = kinds.Function; name = codes "helper"; line = 1; types = record { name = codes "Q"; line = 1 } ∷ record { name = codes "Hidden"; line = 1 } ∷ [] } ∷ [] }
    ∷ record { kind = units.Interface; «module» = codes "r"; partition = []; module_line = 1; imports = record { exported = false; name = codes "s"; line = 1 } ∷ []; decls = [] }
    ∷ record { kind = units.Interface; «module» = codes "s"; partition = []; module_line = 1; imports = record { exported = false; name = codes "r"; line = 1 } ∷ record { exported = false; name = codes "m"; line = 1 } ∷ []; decls = [] }
    ∷ []

-- its units are made of these
abbrev origins : List Origin
origins = map (λ unit. FromSource (Good unit)) units_read

-- the lines of its report
abbrev lines : List (List ℕ)
lines =
    codes "ok m.cc 2"
    ∷ codes "name function make m"
    ∷ codes "name struct P m"
    ∷ codes "ok p.cc 1"
    ∷ codes "name struct P m"
    ∷ codes "ok q.cc 0"
    ∷ codes "ok h.h 1"
    ∷ codes "name struct H ./h.h"
    ∷ codes "ok n.cc 3"
    ∷ codes "name alias N n"
    ∷ codes "name function make m"
    ∷ codes "name struct P m"
    ∷ codes "ok o.cc 4"
    ∷ codes "name function f o"
    ∷ codes "name alias N n"
    ∷ codes "name function make m"
    ∷ codes "name struct P m"
    ∷ codes "ok mi.cc 0"
    ∷ codes "failed r.cc import s"
    ∷ codes "failed s.cc import r"
    ∷ []

-- its report
abbrev expected : List ℕ
expected = flat_map (λ line. line ++ 10 ∷ []) lines

abbrev numbers : List ℕ
numbers = 0 ∷ 1 ∷ 2 ∷ 3 ∷ 4 ∷ 5 ∷ 6 ∷ 7 ∷ 8 ∷ []

pub row : report project (filter_map (outcome project origins) numbers) ≡ expected
unfolding digits projects.find_by canonical.is_bare_letter canonical.quoted_octet
row = refl
