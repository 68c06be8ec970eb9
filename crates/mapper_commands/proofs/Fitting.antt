-- What was read isn't too much for the history, where that isn't full and no write has failed.
use Rattle.std.proofs.Common.{◌≡◌, ◌≢◌, ℕ, ◌+◌, ◌-◌, ◌≤◌, List, [], ◌∷◌, ◌++◌, length, map, take, refl, sym, ap, subst, ◌∙◌, arith}
use Rattle.std.proofs.lemmas.List.{append-nil, length-append, length-take}
use Rattle.std.specs.Prelude.{IsSomeAnd, String, nat_le, string_bytes}
use Rattle.std.specs.declared.alloc.Global.{Global}
use Rattle.mm_outside.specs.Causes.{Rose}
use Rattle.mm_outside.specs.Octets.{Octets}
use Rattle.mm_outside.specs.Told.{Told}
use Rattle.mm_outside.proofs.ToldLemmas.{Told-map, Told-same}
use Rattle.cody_batches.specs.Blocks.{taken}
use Rattle.unit_registry.specs.declared.act.Act.{Act as Acts}
use Rattle.unit_registry.specs.declared.act.Act.TheVariants as act
use Rattle.unit_registry.specs.Projects.{ProjectView}
use Rattle.connection_core.specs.declared.conn_end.ConnEnd.{ConnEnd}
use Rattle.connection_core.specs.declared.conn_end.ConnEnd.TheVariants.{Closed, Truncated, ReadFault, WriteFault, TooLong, BatchTooLong, HistoryFull}
use Rattle.connection_core.specs.Asking.{acts}
use Rattle.connection_core.specs.Alone.{goes_by}
use Rattle.connection_core.specs.Answers.{acts_of}
use Rattle.connection_core.specs.Ends.{whole_course}
use Rattle.mapper_server.specs.Limits.{fewest_entries}
use Rattle.mapper_commands.specs.Commands.{Task, Pipe, AsksFor}
use Rattle.mapper_commands.specs.Endings.{Ended, Served, status_of}
use Rattle.mapper_commands.specs.Meanings.{FitsHistory, ReadsWithin}
use Rattle.mapper_commands.specs.ProjectFiles.{DeclaresProject}
use Rattle.mapper_commands.specs.Running.{Outside, DoesTask, Pipes, served, refused, no_memory}
use Rattle.connection_core.specs.Serving.{ServesAlone}
use Rattle.mapper_commands.proofs.FileLemmas.{told_project}
use Rattle.mapper_commands.proofs.Forms.{one_task}
use Rattle.mapper_server.proofs.Alone.{gone, gone_course}
use Rattle.mapper_commands.proofs.Tasks.{pipe_bounds}

courses_long : (asked other : List Acts) (going last : Acts) → whole_course asked going ≡ whole_course other last → length asked ≡ length other
courses_long asked other going last e = omega (arith, ap length e, length-append asked (going ∷ []), length-append other (last ∷ []))

-- acts that stand in the history whole are no more than it has room for
fits : (asked : List Acts) (limit : ℕ) (going last : Acts) → fewest_entries ≤ limit → acts_of 0 (gone (take (limit - 3) asked) going) ≡ whole_course asked last → length asked + 3 ≤ limit
fits asked limit going last few e =
    let same : length (take (limit - 3) asked) ≡ length asked = courses_long (take (limit - 3) asked) asked going last (sym (gone_course (take (limit - 3) asked) going) ∙ e) in
    omega (arith, few, same, length-take (limit - 3) asked)

-- how the only connection goes, by the status
abbrev going : ProjectView → ℕ → List ℕ → ℕ → Acts
going project entries read status = goes_by status (nat_le (length (acts project (taken read))) (entries - 3))

module _ (project : ProjectView) (entries : ℕ) (few : fewest_entries ≤ entries) where
  -- the blocks that were read stand in the history whole
  whole_within : (status : ℕ) (last : Acts) (x y : Octets) (read : List ℕ) → y.read ≡ x.read ++ read → acts_of 0 (gone (take (entries - 3) (acts project (taken read))) (going project entries read status)) ≡ whole_course (acts project (taken read)) last → ReadsWithin project entries x y
  whole_within status last x y read read_are stand = record { read = read; read_are = read_are; so = fits (acts project (taken read)) entries (going project entries read status) last few stand }

  within_at : (how : ConnEnd) → status_of (Served how) ≢ 9 → status_of (Served how) ≢ 5 → (x y : Octets) → ServesAlone project entries how x y → ReadsWithin project entries x y
  within_at Closed nine five x y s = whole_within 0 act.Left x y s.read s.moves.read_are s.served.ends.0.entries
  within_at (Truncated lines) nine five x y s = whole_within 7 act.Lost x y s.read s.moves.read_are s.served.ends.0.entries
  within_at ReadFault nine five x y s = whole_within 4 act.Lost x y s.read s.moves.read_are s.served.ends.entries
  within_at WriteFault nine five x y s = absurd (five refl)
  within_at TooLong nine five x y s = whole_within 8 act.Lost x y s.read s.moves.read_are s.served.ends.0.entries
  within_at BatchTooLong nine five x y s = whole_within 8 act.Lost x y s.read s.moves.read_are s.served.ends.0.entries
  within_at (HistoryFull m n) nine five x y s = absurd (nine refl)

module _ {L : Type 0} (outside : Outside L) where
  -- the link is read within the history
  abbrev IsRead : ProjectView → ℕ → Type 0
  IsRead project entries = Told (ReadsWithin project entries) (outside.octets outside.link_before) (outside.octets outside.link_now)

  nothing_read : (project : ProjectView) (entries : ℕ) → fewest_entries ≤ entries → outside.link_now ≡ outside.link_before → IsRead project entries
  nothing_read project entries few link =
      subst (λ now. Told (ReadsWithin project entries) (outside.octets outside.link_before) (outside.octets now)) (sym link)
      (Told-same {R = ReadsWithin project entries} (λ x. record { read = []; read_are = sym (append-nil x.read); so = few }))

  pipe_fits : (name : List ℕ) (entries : ℕ) (project : ProjectView) (ended : Ended) → fewest_entries ≤ entries → IsSomeAnd outside.files_before (λ content. DeclaresProject (content name) project) → Pipes outside name entries ended → status_of ended ≢ 9 → status_of ended ≢ 5 → IsRead project entries
  pipe_fits name entries project ended few known (served how serves is) nine five =
      subst (λ some. IsRead some entries) (told_project (Rose outside.file_reads_before outside.file_reads_now) name project serves.project outside.files_before outside.files_now known serves.reads)
      (Told-map {R = ServesAlone serves.project entries how} {S = ReadsWithin serves.project entries} (λ x y s. within_at serves.project entries few how (λ e. nine (ap status_of is ∙ e)) (λ e. five (ap status_of is ∙ e)) x y s) serves.serves)
  pipe_fits name entries project ended few known (refused kind reads keeps link) nine five = nothing_read project entries few link
  pipe_fits name entries project ended few known (no_memory aside is) nine five = nothing_read project entries few aside.link

  pub task_fits : (words : List (String Global)) (task : Task) (ended : Ended) → AsksFor (map string_bytes words) task → DoesTask outside task ended → status_of ended ≢ 9 → status_of ended ≢ 5 → FitsHistory outside words
  task_fits words task ended asks h nine five name entries project pipe known =
      let is : task ≡ Pipe name entries = one_task (map string_bytes words) task (Pipe name entries) asks pipe in
      pipe_fits name entries project ended (pipe_bounds (map string_bytes words) name entries pipe) known (subst (λ some. DoesTask outside some ended) is h) nine five
