-- A file that holds what its kind takes is taken, unless memory runs out.
use Rattle.std.proofs.Common.{◌≡◌, ◌⊎◌, inl, inr, ℕ, ◌≤◌, ◌<◌, List, length, Option, Some, None, Ok, Err, IfSome, refl, sym, ap, subst, ◌∙◌, arith}
use Rattle.std.proofs.lemmas.Option.{none-some}
use Rattle.std.specs.Prelude.{IsSomeAnd}
use Rattle.mm_outside.specs.Files.{Lookup}
use Rattle.mm_outside.specs.Told.{Told}
use Rattle.unit_registry.specs.Projects.{ProjectView}
use Rattle.unit_registry.specs.Readings.{Declares}
use Rattle.unit_registry.proofs.Grammars.{declared_reaches}
use Rattle.unit_registry.proofs.Outcomes.{never_both as never_both_project, one_project}
use Rattle.trace_text.specs.declared.trace.Trace.{Trace}
use Rattle.trace_text.proofs.Outcomes.{never_both as never_both_trace}
use Rattle.mapper_commands.specs.Endings.{Ended, BadWords, OutOfMemory, CannotRead, FileTooLong, Refused, CannotOpen, Served, Reported, Cut, WriteFailed}
use Rattle.mapper_commands.specs.FileReadings.{Holds, IsFileReadAs, Stay}
use Rattle.mapper_commands.specs.ProjectFiles.{DeclaresProject, FindsProject, HasFault, IsReadAs, most_project_octets}
use Rattle.mapper_commands.specs.TraceFiles.{FindsTrace, HasTraceFault, HoldsTrace, IsTextOf, most_trace_octets}

pub same_some : (a b : List ℕ) → Some a ≡ Some b → a ≡ b
same_some a b e = cc

-- one number is within a limit, and the same one isn't
pub beyond : (most m n : ℕ) → m ≡ n → m ≤ most → most < n → ⊥
beyond most m n e le lt = omega (arith, e, le, lt)

module _ {A : Type 0} (most : ℕ) (Says : List ℕ → A → Type 0) (Refuses : List ℕ → ℕ → List ℕ → Type 0) (apart : (text : List ℕ) (value : A) (line : ℕ) (reason : List ℕ) → Says text value → Refuses text line reason → ⊥) (failed : Type 0) (none : failed → ⊥) (name : List ℕ) (value : A) where
  file_taken : (ended : Ended) (held : Option (List ℕ)) → Holds most Says held value → IsFileReadAs most Says Refuses failed name (Err ended) held → ended ≡ OutOfMemory
  file_taken BadWords held known read = absurd read
  file_taken OutOfMemory held known read = refl
  file_taken (CannotRead named) held known read = absurd (by read.cause)
    where
      by : (held ≡ None) ⊎ failed → ⊥
      by (inl absent) = none-some known.text (sym absent ∙ known.held_is)
      by (inr fault) = none fault
  file_taken (FileTooLong named) held known read =
      let texts : known.text ≡ read.text = same_some known.text read.text (sym known.held_is ∙ read.held_is) in
      absurd (beyond most (length known.text) (length read.text) (ap length texts) known.within read.above)
  file_taken (Refused named line reason) held known read =
      let texts : known.text ≡ read.text = same_some known.text read.text (sym known.held_is ∙ read.held_is) in
      absurd (apart read.text value line reason (subst (λ text. Says text value) texts known.says) read.refuses)
  file_taken (CannotOpen address) held known read = absurd read
  file_taken (Served how) held known read = absurd read
  file_taken (Reported report) held known read = absurd read
  file_taken (Cut report) held known read = absurd read
  file_taken WriteFailed held known read = absurd read

  told_taken : (ended : Ended) (before now : Option Lookup) → IsSomeAnd before (λ content. Holds most Says (content name) value) → Told (Stay (λ content. IsFileReadAs most Says Refuses failed name (Err ended) (content name))) before now → ended ≡ OutOfMemory
  told_taken ended None now known told = absurd known
  told_taken ended (Some before) None known told = absurd told.so
  told_taken ended (Some before) (Some now) known told = file_taken ended (before name) known told.so.so

-- a project file's text that declares a project has no fault
project_apart : (text : List ℕ) (project : ProjectView) (line : ℕ) (reason : List ℕ) → Declares text project → HasFault text line reason → ⊥
project_apart text project line reason declares fault = never_both_project text project line fault.cause (declared_reaches text project declares) fault.fault

-- a trace's text has no fault
trace_apart : (text : List ℕ) (trace : Trace) (line : ℕ) (reason : List ℕ) → IsTextOf text trace → HasTraceFault text line reason → ⊥
trace_apart text trace line reason said fault = never_both_trace text trace.workers trace.limit trace.entries line fault.cause said fault.fault

module _ (failed : Type 0) (none : failed → ⊥) (name : List ℕ) where
  pub project_taken : (project : ProjectView) (ended : Ended) (held : Option (List ℕ)) → DeclaresProject held project → IsReadAs failed name (Err ended) held → ended ≡ OutOfMemory
  project_taken = file_taken most_project_octets Declares HasFault project_apart failed none name

  pub told_project_taken : (project : ProjectView) (ended : Ended) (before now : Option Lookup) → IsSomeAnd before (λ content. DeclaresProject (content name) project) → Told (FindsProject failed name (Err ended)) before now → ended ≡ OutOfMemory
  told_project_taken = told_taken most_project_octets Declares HasFault project_apart failed none name

  pub told_trace_taken : (trace : Trace) (ended : Ended) (before now : Option Lookup) → IsSomeAnd before (λ content. HoldsTrace (content name) trace) → Told (FindsTrace failed name (Err ended)) before now → ended ≡ OutOfMemory
  told_trace_taken = told_taken most_trace_octets IsTextOf HasTraceFault trace_apart failed none name

-- ---- one project

pub same_project : (content : Option (List ℕ)) (project other : ProjectView) → DeclaresProject content project → DeclaresProject content other → project ≡ other
same_project content project other p q =
    let texts : p.text ≡ q.text = same_some p.text q.text (sym p.held_is ∙ q.held_is) in
    one_project q.text project other (declared_reaches q.text project (subst (λ t. Declares t project) texts p.says)) (declared_reaches q.text other q.says)

-- the project that was read is the one that the file declares
pub told_project : (failed : Type 0) (name : List ℕ) (project other : ProjectView) (before now : Option Lookup) → IsSomeAnd before (λ content. DeclaresProject (content name) project) → Told (FindsProject failed name (Ok other)) before now → other ≡ project
told_project failed name project other None now known told = absurd known
told_project failed name project other (Some before) None known told = absurd told.so
told_project failed name project other (Some before) (Some now) known told = same_project (before name) other project told.so.so known

-- ---- what was told

-- what is so of what was told before a call
pub told_before : {A : Type 0} {R : A → A → Type 0} (P : A → Type 0) → ((x y : A) → R x y → P x) → (a b : Option A) → Told R a b → IfSome a P
told_before P step None b told = tt
told_before P step (Some x) None told = absurd told.so
told_before P step (Some x) (Some y) told = step x y told.so
