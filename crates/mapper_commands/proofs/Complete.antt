-- What is all there is served to its end, where nothing fails; and why a read is at fault.
use Rattle.std.proofs.Common.{◌≡◌, ◌⊎◌, inl, inr, ℕ, List, map, Option, Some, None, Err, IfSome, refl, sym, ap, subst, ◌∙◌, arith}
use Rattle.std.specs.Prelude.{IsSomeAnd, String, string_bytes}
use Rattle.std.specs.declared.alloc.Global.{Global}
use Rattle.mm_outside.specs.Causes.{Rose}
use Rattle.mm_outside.specs.Files.{Lookup}
use Rattle.mm_outside.specs.Told.{Told}
use Rattle.unit_registry.specs.Projects.{ProjectView}
use Rattle.connection_core.specs.declared.conn_end.ConnEnd.TheVariants.{Closed, ReadFault}
use Rattle.connection_core.specs.Ends.{status_of as conn_status}
use Rattle.mapper_commands.specs.Commands.{Pipe, AsksFor}
use Rattle.mapper_commands.specs.Endings.{Ended, CannotRead, Served, status_of}
use Rattle.mapper_commands.specs.ProjectFiles.{DeclaresProject, FindsProject}
use Rattle.mapper_commands.specs.Running.{Outside, ReadsProject, Pipes, served, refused, no_memory, HasStood, LacksFile}
use Rattle.mapper_commands.proofs.FileLemmas.{told_project, told_project_taken}
use Rattle.mapper_commands.proofs.Runnings.{conn_fault}
use Rattle.mapper_server.specs.Complete.{FitsAlone}
use Rattle.mapper_server.proofs.Unhindered.{told_closed}
use Rattle.mapper_commands.proofs.Statuses.{differ, file_four}

-- ---- one ending

module _ {L : Type 0} (outside : Outside L) (words : List (String Global)) (name : List ℕ) (entries : ℕ) (asks : AsksFor (map string_bytes words) (Pipe name entries)) where
  not_taken : (project : ProjectView) (ended : Ended) → IsSomeAnd outside.files_before (λ content. DeclaresProject (content name) project) → HasStood outside.file_reads_before outside.file_reads_now → ReadsProject outside name (Err ended) → status_of ended ≡ 3
  not_taken project ended file no_file reads = ap status_of (told_project_taken (Rose outside.file_reads_before outside.file_reads_now) no_file name project ended outside.files_before outside.files_now file reads)

  -- a run of which all is there ends with 0, or wants memory
  pub all_served : (project : ProjectView) (ended : Ended) → IsSomeAnd outside.files_before (λ content. DeclaresProject (content name) project) → IsSomeAnd (outside.octets outside.link_before) (FitsAlone project entries)
      → HasStood outside.file_reads_before outside.file_reads_now → HasStood outside.link_reads_before outside.link_reads_now → HasStood outside.link_writes_before outside.link_writes_now
      → Pipes outside name entries ended → (status_of ended ≡ 0) ⊎ (status_of ended ≡ 3)
  all_served project ended file input no_file no_read no_write (served how serves is) =
      let same : project ≡ serves.project = sym (told_project (Rose outside.file_reads_before outside.file_reads_now) name project serves.project outside.files_before outside.files_now file serves.reads) in
      let closed : how ≡ Closed = told_closed serves.project entries how (outside.octets outside.link_before) (outside.octets outside.link_now) (subst (λ some. IsSomeAnd (outside.octets outside.link_before) (FitsAlone some entries)) same input) (λ e. no_read (serves.causes.read e)) (λ e. no_write (serves.causes.write e)) serves.serves in
      inl (ap status_of is ∙ ap conn_status closed)
  all_served project ended file input no_file no_read no_write (refused kind reads keeps link) = inr (not_taken project ended file no_file reads)
  all_served project ended file input no_file no_read no_write (no_memory aside is) = inr (ap status_of is)

  lacks : (named : List ℕ) (before now : Option Lookup) → Told (FindsProject (Rose outside.file_reads_before outside.file_reads_now) name (Err (CannotRead named))) before now → IfSome before (λ content. content name ≡ None) ⊎ Rose outside.file_reads_before outside.file_reads_now
  lacks named None now told = inl tt
  lacks named (Some before) None told = absurd told.so
  lacks named (Some before) (Some now) told = told.so.so.cause

  -- why a run ends with 4
  pub fault_of_read : (ended : Ended) → Pipes outside name entries ended → status_of ended ≡ 4
      → LacksFile words outside.files_before ⊎ (Rose outside.file_reads_before outside.file_reads_now ⊎ Rose outside.link_reads_before outside.link_reads_now)
  fault_of_read ended (served how serves is) four =
      let so : status_of (Served how) ≡ 4 = sym (ap status_of is) ∙ four in
      inr (inr (serves.causes.read (conn_fault (λ end status. status ≡ 4 → end ≡ ReadFault) (λ e. refl) (λ e. absurd (omega (arith, e))) how (omega (arith, so)) (omega (arith, so)) so)))
  fault_of_read ended (refused kind reads keeps link) four = let named = file_four ended kind four in by (lacks named.0 outside.files_before outside.files_now (subst (λ e. ReadsProject outside name (Err e)) named.1 reads))
    where
      by : IfSome outside.files_before (λ content. content name ≡ None) ⊎ Rose outside.file_reads_before outside.file_reads_now → LacksFile words outside.files_before ⊎ (Rose outside.file_reads_before outside.file_reads_now ⊎ Rose outside.link_reads_before outside.link_reads_now)
      by (inl absent) = inl (record { task = Pipe name entries; asks = asks; name = name; is_read = refl; absent = absent })
      by (inr rose) = inr (inl rose)
  fault_of_read ended (no_memory aside is) four = absurd (differ (status_of ended) 3 4 (λ e. omega (arith, e)) (ap status_of is) four)
