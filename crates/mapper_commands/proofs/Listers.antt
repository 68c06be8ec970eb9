-- What a run of `list` comes to.
use Rattle.std.proofs.Common.{◌≡◌, ◌⊎◌, inl, inr, ℕ, List, Option, Ok, Err, subst, ◌∙◌}
use Rattle.mm_outside.specs.Files.{Lookup}
use Rattle.mm_outside.specs.Told.{Told}
use Rattle.mm_outside.proofs.ToldLemmas.{Told-map, Told-then}
use Rattle.unit_registry.specs.Projects.{ProjectView, unit_count}
use Rattle.export_lists.specs.declared.cmi.Cmi.{Cmi}
use Rattle.mapper_commands.specs.declared.unit_files.Stop.{Stop}
use Rattle.mapper_commands.specs.declared.unit_files.Fault.{Fault}
use Rattle.mapper_commands.specs.declared.unit_files.Fault.TheVariants as faults
use Rattle.mapper_commands.specs.Endings.{Ended, OutOfMemory, Output, Ends, Tells}
use Rattle.mapper_commands.specs.ProjectFiles.{FindsProject, IsOfFile}
use Rattle.mapper_commands.specs.FileReadings.{Stay}
use Rattle.mapper_commands.specs.ListRuns.{HoldUnits, HoldsProject, RefusesFile, no_memory, unreadable, too_long, RefusesUnit, as_file, as_cmi, StopsAt, RefusesList, ReportsOn, ListsSo, reported, refused, ended_at, ended_by}
use Rattle.mapper_commands.proofs.Gatherings.{Stay-map}
use Rattle.mapper_commands.proofs.PrintLemmas.{ends_as, ends_map}

-- a fault brings the ending of a file
of_fault : (name : List ℕ) (found : Fault) → IsOfFile (ended_at name found)
of_fault name faults.Unreadable = tt
of_fault name faults.TooLong = tt
of_fault name (faults.NotCmi line) = tt
of_fault name faults.OtherUnit = tt
of_fault name faults.Memory = tt

-- a stop does
pub of_stop : (project : ProjectView) (stop : Stop) → IsOfFile (ended_by project stop)
of_stop project stop = of_fault _ stop.fault

-- memory was wanted in place of what was due
pub out_in_place : (due : Ended) (output : Output) (status : ℕ) → Tells OutOfMemory output status → Tells due output status
out_in_place due output status tells = ends_map (λ ended which. inr (by ended which)) tells
  where
    by : (ended : Ended) → (ended ≡ OutOfMemory) ⊎ (ended ≡ OutOfMemory) → ended ≡ OutOfMemory
    by ended (inl is) = is
    by ended (inr is) = is

-- ---- a later count

later_file : (late since : Type 0) → (late → since) → (name : List ℕ) (most : ℕ) (content : Lookup) (ended : Ended) → RefusesFile late name most content ended → RefusesFile since name most content ended
later_file late since so name most content ended (no_memory is) = no_memory is
later_file late since so name most content ended (unreadable is (inl none)) = unreadable is (inl none)
later_file late since so name most content ended (unreadable is (inr failed)) = unreadable is (inr (so failed))
later_file late since so name most content ended (too_long text is held above) = too_long text is held above

later_unit : (late since : Type 0) → (late → since) → (project : ProjectView) (unit : ℕ) (content : Lookup) (ended : Ended) → RefusesUnit late project unit content ended → RefusesUnit since project unit content ended
later_unit late since so project unit content ended (as_file refuses) = as_file (later_file late since so _ _ content ended refuses)
later_unit late since so project unit content ended (as_cmi text is holds bad) = as_cmi text is holds bad

later_stop : (late since : Type 0) → (late → since) → (project : ProjectView) (content : Lookup) (ended : Ended) → StopsAt late project content ended → StopsAt since project content ended
later_stop late since so project content ended stop = record { unit = stop.unit; declared = stop.declared; sources = stop.sources; built = stop.built; before = stop.before; refused = later_unit late since so project stop.unit content ended stop.refused }

-- ---- the files

-- a unit's file isn't taken
pub unit_stops : (early late since : Type 0) → (late → since) → (name : List ℕ) (project : ProjectView) (ended : Ended) (a b c : Option Lookup) → Told (FindsProject early name (Ok project)) a b → Told (Stay (λ content. StopsAt late project content ended)) b c → Told (Stay (RefusesList since name ended)) a c
unit_stops early late since so name project ended a b c = Told-then {R = FindsProject early name (Ok project)} {S = Stay (λ content. StopsAt late project content ended)} {Q = Stay (RefusesList since name ended)} (λ x y z found stay. record {
  same = stay.same ∙ found.same;
  so = inr (project, found.so, later_stop late since so project x ended (subst (λ content. StopsAt late project content ended) found.same stay.so));
})

-- all files are taken
pub all_taken : (early : Type 0) (name : List ℕ) (project : ProjectView) (sources : List (List ℕ)) (built : List Cmi) (a b c : Option Lookup) → Told (FindsProject early name (Ok project)) a b → Told (Stay (λ content. HoldUnits project content (unit_count project) sources built)) b c → Told (Stay (HoldsProject name project sources built)) a c
all_taken early name project sources built a b c = Told-then {R = FindsProject early name (Ok project)} {S = Stay (λ content. HoldUnits project content (unit_count project) sources built)} {Q = Stay (HoldsProject name project sources built)} (λ x y z found stay. record {
  same = stay.same ∙ found.same;
  so = record { declares = found.so; holds = subst (λ content. HoldUnits project content (unit_count project) sources built) found.same stay.so };
})

-- ---- the run

module _ (failed : Type 0) (a b : Option Lookup) (name : List ℕ) (output : Output) (status : ℕ) where
  out_of : (R : Lookup → Type 0) → Told (Stay R) a b → Told (Stay (RefusesList failed name OutOfMemory)) a b
  out_of R told = Stay-map {R = R} {S = RefusesList failed name OutOfMemory} (λ content so. inl tt) told

  -- the message was printed
  pub told_run : (due : Ended) → IsOfFile due → Tells due output status → Told (Stay (RefusesList failed name due)) a b → Ends (ListsSo failed a b name) output status
  told_run due kind tells refuses = ends_as due (refused kind refuses) (refused tt (out_of (RefusesList failed name due) refuses)) tells

  -- memory was wanted
  pub out_run : (R : Lookup → Type 0) → Told (Stay R) a b → Tells OutOfMemory output status → Ends (ListsSo failed a b name) output status
  out_run R told tells = told_run OutOfMemory tt tells (out_of R told)

  -- the report was printed, or a part of it
  pub reported_run : (project : ProjectView) (sources : List (List ℕ)) (built : List Cmi) → Told (Stay (HoldsProject name project sources built)) a b → ReportsOn project sources built output status → Ends (ListsSo failed a b name) output status
  reported_run project sources built told on = ends_map (λ ended ends. reported project sources built on.outcomes told on.listing ends) on.issued

-- the project file isn't taken
pub file_refused : (failed : Type 0) (name : List ℕ) (ended : Ended) (a b : Option Lookup) → Told (FindsProject failed name (Err ended)) a b → Told (Stay (RefusesList failed name ended)) a b
file_refused failed name ended a b = Told-map {R = FindsProject failed name (Err ended)} {S = Stay (RefusesList failed name ended)} (λ x y found. record { same = found.same; so = inl found.so })
