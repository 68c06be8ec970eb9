-- What holds of a report on the units of a project, by its ending.
use Rattle.std.proofs.Common.{◌≡◌, ◌≢◌, ◌⊎◌, inl, inr, ℕ, ◌<◌, Bool, true, false, List, length, map, Option, Some, None, Err, refl, sym, ap, subst, ◌∙◌, arith}
use Rattle.std.proofs.lemmas.Option.{none-some}
use Rattle.std.specs.Prelude.{IsSomeAnd, String, string_bytes}
use Rattle.std.specs.declared.alloc.Global.{Global}
use Rattle.mm_outside.specs.Causes.{Rose}
use Rattle.mm_outside.specs.Files.{Lookup}
use Rattle.mm_outside.specs.Told.{Told}
use Rattle.mm_outside.proofs.ToldLemmas.{Told-map}
use Rattle.unit_registry.specs.Projects.{ProjectView, unit_count, is_built, name_of}
use Rattle.export_lists.specs.declared.cmi.Cmi.{Cmi}
use Rattle.export_lists.specs.CmiFaults.{IsCmiText}
use Rattle.export_lists.proofs.CmiLaws.{no_fault, one_cmi}
use Rattle.mapper_commands.specs.Commands.{ListUnits, AsksFor}
use Rattle.mapper_commands.specs.Endings.{Ended, BadWords, OutOfMemory, CannotRead, FileTooLong, Refused, CannotOpen, Served, Reported, Cut, WriteFailed, HasSinkCause, status_of}
use Rattle.mapper_commands.specs.ProjectFiles.{DeclaresProject, IsReadAs}
use Rattle.mapper_commands.specs.FileReadings.{Stay}
use Rattle.mapper_commands.specs.ListRuns.{HoldsWithin, HoldUnits, HoldsAll, IsNoCmiOf, StopsAt, ListsSo, reported, refused, no_memory, unreadable, too_long, RefusesList, RefusesUnit, as_file, as_cmi, not_a_cmi, other_unit, file_by, most_by, unit_file, most_cmi_octets}
use Rattle.mapper_commands.specs.Running.{LacksFile}
use Rattle.mapper_commands.proofs.FileLemmas.{same_project}
use Rattle.mapper_commands.proofs.FileLemmas.{beyond, project_taken, same_some}
use Rattle.mapper_commands.proofs.Statuses.{differ, file_never, report_cut, report_never, report_whole}

module _ (failed : Type 0) (before now : Option Lookup) (name : List ℕ) where
  -- it never ends as words of no form do
  pub list_two : (ended : Ended) → ListsSo failed before now name ended → status_of ended ≢ 2
  list_two ended (reported project sources built outcomes told listing ends) two = report_never _ ended 2 ends (λ e. omega (arith, e)) (λ e. omega (arith, e)) (λ e. omega (arith, e)) two
  list_two ended (refused kind told) two = file_never ended 2 kind (λ e. omega (arith, e)) (λ e. omega (arith, e)) (λ e. omega (arith, e)) two

  -- why it ends with 5
  pub list_five : (ended : Ended) (b n : ℕ) → ListsSo failed before now name ended → HasSinkCause ended b n → status_of ended ≡ 5 → Rose b n
  list_five ended b n (reported project sources built outcomes told listing ends) cause five = report_cut _ ended b n ends cause five
  list_five ended b n (refused kind told) cause five = absurd (file_never ended 5 kind (λ e. omega (arith, e)) (λ e. omega (arith, e)) (λ e. omega (arith, e)) five)

  -- no file changes
  pub list_stays : (ended : Ended) → ListsSo failed before now name ended → Told (λ (old new : Lookup). new ≡ old) before now
  list_stays ended (reported project sources built outcomes told listing ends) = Told-map (λ x y stay. stay.same) told
  list_stays ended (refused kind told) = Told-map (λ x y stay. stay.same) told

  -- ---- a file that can't be read

  no_project : (ended : Ended) (content : Lookup) → status_of ended ≡ 4 → IsReadAs failed name (Err ended) (content name) → (content name ≡ None) ⊎ failed
  no_project BadWords content four read = absurd read
  no_project OutOfMemory content four read = absurd (omega (arith, four))
  no_project (CannotRead named) content four read = read.cause
  no_project (FileTooLong named) content four read = absurd (omega (arith, four))
  no_project (Refused named line reason) content four read = absurd (omega (arith, four))
  no_project (CannotOpen address) content four read = absurd read
  no_project (Served how) content four read = absurd read
  no_project (Reported report) content four read = absurd read
  no_project (Cut report) content four read = absurd read
  no_project WriteFailed content four read = absurd read

  no_unit : (project : ProjectView) (unit : ℕ) (content : Lookup) (ended : Ended) → status_of ended ≡ 4 → RefusesUnit failed project unit content ended → (content (unit_file project unit) ≡ None) ⊎ failed
  no_unit project unit content ended four (as_file (no_memory is)) = absurd (differ (status_of ended) 3 4 (λ d. omega (arith, d)) (ap status_of is) four)
  no_unit project unit content ended four (as_file (unreadable is cause)) = cause
  no_unit project unit content ended four (as_file (too_long text is held above)) = absurd (differ (status_of ended) 6 4 (λ d. omega (arith, d)) (ap status_of is) four)
  no_unit project unit content ended four (as_cmi text is within (not_a_cmi line e faulty)) = absurd (differ (status_of ended) 6 4 (λ d. omega (arith, d)) (ap status_of e) four)
  no_unit project unit content ended four (as_cmi text is within (other_unit cmi e reads differs)) = absurd (differ (status_of ended) 6 4 (λ d. omega (arith, d)) (ap status_of e) four)

  -- why it ends with 4
  pub list_four : (words : List (String Global)) (ended : Ended) → AsksFor (map string_bytes words) (ListUnits name) → ListsSo failed before now name ended → status_of ended ≡ 4 → LacksFile words before ⊎ failed
  list_four words ended asks (reported project sources built outcomes told listing ends) four = absurd (report_never _ ended 4 ends (λ e. omega (arith, e)) (λ e. omega (arith, e)) (λ e. omega (arith, e)) four)
  list_four words ended asks (refused kind told) four = by before now told
    where
      project_lacks : (content : Lookup) → (content name ≡ None) ⊎ failed → LacksFile words (Some content) ⊎ failed
      project_lacks content (inl absent) = inl (record { task = ListUnits name; asks = asks; name = name; is_read = inl refl; absent = absent })
      project_lacks content (inr fault) = inr fault

      unit_lacks : (content : Lookup) (project : ProjectView) (unit : ℕ) → DeclaresProject (content name) project → unit < unit_count project → (content (unit_file project unit) ≡ None) ⊎ failed → LacksFile words (Some content) ⊎ failed
      unit_lacks content project unit declares lt (inl absent) = inl (record {
        task = ListUnits name;
        asks = asks;
        name = unit_file project unit;
        is_read = inr (record { project = project; declares = declares; unit = unit; declared = lt; name_is = refl });
        absent = absent;
      })
      unit_lacks content project unit declares lt (inr fault) = inr fault

      files : (content : Lookup) → RefusesList failed name ended content → LacksFile words (Some content) ⊎ failed
      files content (inl read) = project_lacks content (no_project ended content four read)
      files content (inr stop) = unit_lacks content stop.0 stop.2.unit stop.1 stop.2.declared (no_unit stop.0 stop.2.unit content ended four stop.2.refused)

      by : (a b : Option Lookup) → Told (Stay (RefusesList failed name ended)) a b → LacksFile words a ⊎ failed
      by None b told = inl (record { task = ListUnits name; asks = asks; name = name; is_read = inl refl; absent = tt })
      by (Some content) None told = absurd told.so
      by (Some content) (Some new) told = files content told.so.so

-- ---- files that are there

module _ (failed : Type 0) (none : failed → ⊥) where
  module _ (project : ProjectView) (content : Lookup) (sources : List (List ℕ)) (built : List Cmi) (holds : HoldUnits project content (unit_count project) sources built) (unit : ℕ) (lt : unit < unit_count project) where
    -- the text of a unit's file
    file_there : (so : Bool) → is_built project unit ≡ so → (text : List ℕ) × HoldsWithin content (file_by so project unit) (most_by so) text
    file_there true is = let i = holds.interface unit lt is in (i.holds.text, i.holds.holds)
    file_there false is = let s = holds.source unit lt is in (s.text, s.holds)

    -- it's that of an interface which is the unit's own
    own_cmi : (text : List ℕ) (ended : Ended) → is_built project unit ≡ true → HoldsWithin content (unit_file project unit) most_cmi_octets text → IsNoCmiOf (unit_file project unit) (name_of project unit) text ended → ⊥
    own_cmi text ended is within bad =
        let i = holds.interface unit lt is in
        let same : i.holds.text ≡ text = same_some i.holds.text text (sym i.holds.holds.held ∙ sym (ap (λ (so : Bool). content (file_by so project unit)) is) ∙ within.held) in
        by i.cmi (subst (λ t. IsCmiText t i.cmi) same i.holds.reads) i.holds.named bad
      where
        by : (cmi : Cmi) → IsCmiText text cmi → cmi.unit ≡ name_of project unit → IsNoCmiOf (unit_file project unit) (name_of project unit) text ended → ⊥
        by cmi reads named (not_a_cmi line e faulty) = no_fault text cmi line reads faulty
        by cmi reads named (other_unit other e others differs) = differs (ap (λ (c : Cmi). c.unit) (one_cmi text other cmi others reads) ∙ named)

    -- a unit's file that is there is taken, unless memory runs out
    unit_taken : (ended : Ended) → RefusesUnit failed project unit content ended → ended ≡ OutOfMemory
    unit_taken ended (as_file (no_memory is)) = is
    unit_taken ended (as_file (unreadable is (inl absent))) = let there = file_there (is_built project unit) refl in absurd (none-some there.0 (sym absent ∙ there.1.held))
    unit_taken ended (as_file (unreadable is (inr fault))) = absurd (none fault)
    unit_taken ended (as_file (too_long text is held above)) =
        let there = file_there (is_built project unit) refl in
        absurd (beyond (most_by (is_built project unit)) (length there.0) (length text) (ap length (same_some there.0 text (sym there.1.held ∙ held))) there.1.within above)
    unit_taken ended (as_cmi text is within bad) = absurd (own_cmi text ended is within bad)

  all_taken : (name : List ℕ) (content : Lookup) (ended : Ended) → HoldsAll name content → RefusesList failed name ended content → ended ≡ OutOfMemory
  all_taken name content ended known (inl read) = project_taken failed none name known.project ended (content name) known.holds.declares read
  all_taken name content ended known (inr stop) =
      let same : stop.0 ≡ known.project = same_project (content name) stop.0 known.project stop.1 known.holds.declares in
      let stops : StopsAt failed known.project content ended = subst (λ p. StopsAt failed p content ended) same stop.2 in
      unit_taken known.project content known.sources known.built known.holds.holds stops.unit stops.declared ended stops.refused

  told_taken : (name : List ℕ) (ended : Ended) (a b : Option Lookup) → IsSomeAnd a (HoldsAll name) → Told (Stay (RefusesList failed name ended)) a b → ended ≡ OutOfMemory
  told_taken name ended None b known told = absurd known
  told_taken name ended (Some content) None known told = absurd told.so
  told_taken name ended (Some content) (Some new) known told = all_taken name content ended known told.so.so

  -- where all files are there and are taken, and no write fails, the report is printed whole
  pub list_whole : (name : List ℕ) (before now : Option Lookup) (ended : Ended) (b n : ℕ) → (Rose b n → ⊥) → HasSinkCause ended b n → IsSomeAnd before (HoldsAll name) → ListsSo failed before now name ended
      → (status_of ended ≡ 0) ⊎ ((status_of ended ≡ 1) ⊎ (status_of ended ≡ 3))
  list_whole name before now ended b n stood cause known (reported project sources built outcomes told listing ends) = report_whole _ ended b n ends cause stood
  list_whole name before now ended b n stood cause known (refused kind told) = inr (inr (ap status_of (told_taken name ended before now known told)))
