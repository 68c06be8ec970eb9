-- What the status of an ending tells of it.
use Rattle.std.proofs.Common.{◌≡◌, ◌≢◌, ◌⊎◌, inl, inr, ℕ, ◌<◌, Bool, true, false, List, refl, sym, ap, subst, ◌∙◌, arith}
use Rattle.std.specs.Prelude.{if◌then◌else◌}
use Rattle.mm_outside.specs.Causes.{Rose}
use Rattle.connection_core.specs.declared.conn_end.ConnEnd.TheVariants.{Closed, Truncated, ReadFault, WriteFault, TooLong, BatchTooLong, HistoryFull}
use Rattle.mapper_commands.specs.Endings.{Report, Ended, BadWords, OutOfMemory, CannotRead, FileTooLong, Refused, CannotOpen, Served, Reported, Cut, WriteFailed, EndsIn, HasSinkCause, Output, Ends, Tells, status_of}
use Rattle.mapper_commands.specs.ProjectFiles.{IsOfFile, KeepsReads, none_failed, at_file, for_memory}

-- one number isn't two
pub differ : (n a b : ℕ) → (a ≡ b → ⊥) → n ≡ a → n ≡ b → ⊥
differ n a b apart e d = apart (sym e ∙ d)

-- ---- a report

-- the status of a report
abbrev pub status_by : Bool → ℕ
status_by good = if good then 0 else 1

report_status : (good : Bool) → (status_by good ≡ 0) ⊎ (status_by good ≡ 1)
report_status true = inl refl
report_status false = inr refl

-- an ending with a report has status 0, 1 or 5, the last where it was cut short
pub in_report : (report : Report) (ended : Ended) → EndsIn report ended → (status_of ended ≡ 0) ⊎ ((status_of ended ≡ 1) ⊎ ((status_of ended ≡ 5) × (ended ≡ Cut report)))
in_report report ended (inl e) = by (report_status report.good)
  where
    by : (status_of (Reported report) ≡ 0) ⊎ (status_of (Reported report) ≡ 1) → (status_of ended ≡ 0) ⊎ ((status_of ended ≡ 1) ⊎ ((status_of ended ≡ 5) × (ended ≡ Cut report)))
    by (inl zero_is) = inl (ap status_of e ∙ zero_is)
    by (inr one) = inr (inl (ap status_of e ∙ one))
in_report report ended (inr e) = inr (inr (ap status_of e, e))

-- and no other
pub report_never : (report : Report) (ended : Ended) (status : ℕ) → EndsIn report ended → (0 ≡ status → ⊥) → (1 ≡ status → ⊥) → (5 ≡ status → ⊥) → status_of ended ≢ status
report_never report ended status ends zero_not one_not five_not is = by (in_report report ended ends)
  where
    by : (status_of ended ≡ 0) ⊎ ((status_of ended ≡ 1) ⊎ ((status_of ended ≡ 5) × (ended ≡ Cut report))) → ⊥
    by (inl e) = differ (status_of ended) 0 status zero_not e is
    by (inr (inl e)) = differ (status_of ended) 1 status one_not e is
    by (inr (inr both)) = differ (status_of ended) 5 status five_not both.0 is

-- why it has status 5
pub report_cut : (report : Report) (ended : Ended) (b n : ℕ) → EndsIn report ended → HasSinkCause ended b n → status_of ended ≡ 5 → Rose b n
report_cut report ended b n ends cause five = by (in_report report ended ends)
  where
    by : (status_of ended ≡ 0) ⊎ ((status_of ended ≡ 1) ⊎ ((status_of ended ≡ 5) × (ended ≡ Cut report))) → Rose b n
    by (inl e) = absurd (differ (status_of ended) 0 5 (λ d. omega (arith, d)) e five)
    by (inr (inl e)) = absurd (differ (status_of ended) 1 5 (λ d. omega (arith, d)) e five)
    by (inr (inr both)) = subst (λ e. HasSinkCause e b n) both.1 cause

-- where no write fails, it's whole
pub report_whole : (report : Report) (ended : Ended) (b n : ℕ) → EndsIn report ended → HasSinkCause ended b n → (Rose b n → ⊥) → (status_of ended ≡ 0) ⊎ ((status_of ended ≡ 1) ⊎ (status_of ended ≡ 3))
report_whole report ended b n ends cause stood = by (in_report report ended ends)
  where
    by : (status_of ended ≡ 0) ⊎ ((status_of ended ≡ 1) ⊎ ((status_of ended ≡ 5) × (ended ≡ Cut report))) → (status_of ended ≡ 0) ⊎ ((status_of ended ≡ 1) ⊎ (status_of ended ≡ 3))
    by (inl e) = inl e
    by (inr (inl e)) = inr (inl e)
    by (inr (inr both)) = absurd (stood (subst (λ e. HasSinkCause e b n) both.1 cause))

-- ---- a file

-- an ending that a file brings has status 3, 4 or 6
pub of_file : (ended : Ended) → IsOfFile ended → (status_of ended ≡ 3) ⊎ ((status_of ended ≡ 4) ⊎ (status_of ended ≡ 6))
of_file BadWords kind = absurd kind
of_file OutOfMemory kind = inl refl
of_file (CannotRead named) kind = inr (inl refl)
of_file (FileTooLong named) kind = inr (inr refl)
of_file (Refused named line reason) kind = inr (inr refl)
of_file (CannotOpen address) kind = absurd kind
of_file (Served how) kind = absurd kind
of_file (Reported report) kind = absurd kind
of_file (Cut report) kind = absurd kind
of_file WriteFailed kind = absurd kind

-- and no other
pub file_never : (ended : Ended) (status : ℕ) → IsOfFile ended → (3 ≡ status → ⊥) → (4 ≡ status → ⊥) → (6 ≡ status → ⊥) → status_of ended ≢ status
file_never ended status kind three_not four_not six_not is = by (of_file ended kind)
  where
    by : (status_of ended ≡ 3) ⊎ ((status_of ended ≡ 4) ⊎ (status_of ended ≡ 6)) → ⊥
    by (inl e) = differ (status_of ended) 3 status three_not e is
    by (inr (inl e)) = differ (status_of ended) 4 status four_not e is
    by (inr (inr e)) = differ (status_of ended) 6 status six_not e is

-- status 4 is that of a file that can't be read
pub file_four : (ended : Ended) → IsOfFile ended → status_of ended ≡ 4 → (named : List ℕ) × (ended ≡ CannotRead named)
file_four BadWords kind four = absurd kind
file_four OutOfMemory kind four = absurd (omega (arith, four))
file_four (CannotRead named) kind four = (named, refl)
file_four (FileTooLong named) kind four = absurd (omega (arith, four))
file_four (Refused named line reason) kind four = absurd (omega (arith, four))
file_four (CannotOpen address) kind four = absurd kind
file_four (Served how) kind four = absurd kind
file_four (Reported report) kind four = absurd kind
file_four (Cut report) kind four = absurd kind
file_four WriteFailed kind four = absurd kind

-- ---- reads that failed

-- no read failed before
pub keeps_since : (ended : Ended) (b mid n : ℕ) → mid ≡ b → KeepsReads ended mid n → KeepsReads ended b n
keeps_since ended b mid n same keeps = subst (λ (before : ℕ). KeepsReads ended before n) same keeps

-- a status that is neither that of a file that can't be read nor of want of memory
pub reads_kept : (ended : Ended) (b n : ℕ) → KeepsReads ended b n → status_of ended ≢ 3 → status_of ended ≢ 4 → n ≡ b
reads_kept ended b n (none_failed kept) three four = kept
reads_kept ended b n (at_file named is) three four = absurd (four (ap status_of is))
reads_kept ended b n (for_memory is) three four = absurd (three (ap status_of is))

-- the same of a run that tells of its ending
pub kept_told : (due : Ended) (output : Output) (status : ℕ) (b n : ℕ) → KeepsReads due b n → Tells due output status → status ≢ 3 → status ≢ 4 → n ≡ b
kept_told due output status b n keeps tells three four = by tells.so
  where
    by : (tells.ending ≡ due) ⊎ (tells.ending ≡ OutOfMemory) → n ≡ b
    by (inl e) = reads_kept due b n keeps (λ k. three (tells.status_is ∙ ap status_of e ∙ k)) (λ k. four (tells.status_is ∙ ap status_of e ∙ k))
    by (inr e) = absurd (three (tells.status_is ∙ ap status_of e))

-- ---- the sink

-- what is done has no fault of the sink behind it
sink_well : (ended : Ended) (b n : ℕ) → HasSinkCause ended b n → status_of ended < 2 → n ≡ b
sink_well BadWords b n cause done = absurd (omega (arith, done))
sink_well OutOfMemory b n cause done = absurd (omega (arith, done))
sink_well (CannotRead named) b n cause done = absurd (omega (arith, done))
sink_well (FileTooLong named) b n cause done = absurd (omega (arith, done))
sink_well (Refused named line reason) b n cause done = absurd (omega (arith, done))
sink_well (CannotOpen address) b n cause done = absurd (omega (arith, done))
sink_well (Served Closed) b n (inl kept) done = kept
sink_well (Served Closed) b n (inr rose) done = absurd (omega (arith, rose.0))
sink_well (Served (Truncated lines)) b n cause done = absurd (omega (arith, done))
sink_well (Served ReadFault) b n cause done = absurd (omega (arith, done))
sink_well (Served WriteFault) b n cause done = absurd (omega (arith, done))
sink_well (Served TooLong) b n cause done = absurd (omega (arith, done))
sink_well (Served BatchTooLong) b n cause done = absurd (omega (arith, done))
sink_well (Served (HistoryFull entries room)) b n cause done = absurd (omega (arith, done))
sink_well (Reported report) b n cause done = cause
sink_well (Cut report) b n cause done = absurd (omega (arith, done))
sink_well WriteFailed b n cause done = absurd (omega (arith, done))

pub ends_well : {IsSo : Ended → Type 0} {output : Output} {status : ℕ} → Ends IsSo output status → (status ≡ 0) ⊎ (status ≡ 1) → output.faults_now ≡ output.faults_before
ends_well {output} run (inl done) = sink_well run.ending output.faults_before output.faults_now run.cause (omega (arith, run.status_is, done))
ends_well {output} run (inr done) = sink_well run.ending output.faults_before output.faults_now run.cause (omega (arith, run.status_is, done))
