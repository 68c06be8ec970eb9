-- What is printed at an ending.
use Rattle.std.proofs.Common.{◌≡◌, ◌⊎◌, ℕ, List, refl, sym, subst, Option, inl, inr, arith}
use Rattle.mm_outside.specs.Told.{Told}
use Rattle.mapper_commands.specs.declared.ending.Ending.{Ending}
use Rattle.mapper_commands.specs.declared.ending.Ending.TheVariants as endings
use Rattle.mapper_server.specs.Printing.{Prints}
use Rattle.mapper_commands.specs.Endings.{Ended, BadWords, OutOfMemory, CannotRead, FileTooLong, Refused, CannotOpen, Served, Reported, Cut, WriteFailed, RisesOnlyOver, Speaks, HasSinkCause, Output, Ends, Tells, message_of, status_of, told_by}
use Rattle.mapper_commands.proofs.Statuses.{report_never}

-- what is so of the ending may be told in another way
pub ends_map : {P Q : Ended → Type 0} {output : Output} {status : ℕ} → ((ended : Ended) → P ended → Q ended) → Ends P output status → Ends Q output status
ends_map f run = record { ending = run.ending; status_is = run.status_is; spoken = run.spoken; cause = run.cause; so = f run.ending run.so }

-- a run that tells of an ending ended so, or by want of memory
pub ends_as : {IsSo : Ended → Type 0} {output : Output} {status : ℕ} (due : Ended) → IsSo due → IsSo OutOfMemory → Tells due output status → Ends IsSo output status
ends_as {IsSo} due so out tells = ends_map by tells
  where
    by : (ended : Ended) → (ended ≡ due) ⊎ (ended ≡ OutOfMemory) → IsSo ended
    by ended (inl e) = subst IsSo (sym e) so
    by ended (inr e) = subst IsSo (sym e) out

-- at an ending with a message, the message is what is printed
message_spoken : (ending : Ending) (before now : ℕ) (x y : Option (List ℕ)) → Told (Prints (message_of (told_by ending)) before now) x y → Told (Speaks (told_by ending) before now) x y
message_spoken endings.BadWords before now x y told = told
message_spoken endings.OutOfMemory before now x y told = told
message_spoken (endings.CannotRead name) before now x y told = told
message_spoken (endings.FileTooLong name) before now x y told = told
message_spoken (endings.Refused name line reason) before now x y told = told
message_spoken (endings.CannotOpen address) before now x y told = told
message_spoken (endings.Served how) before now x y told = told

message_caused : (ending : Ending) (before now : ℕ) → RisesOnlyOver (message_of (told_by ending)) before now → HasSinkCause (told_by ending) before now
message_caused endings.BadWords before now cause = cause
message_caused endings.OutOfMemory before now cause = cause
message_caused (endings.CannotRead name) before now cause = cause
message_caused (endings.FileTooLong name) before now cause = cause
message_caused (endings.Refused name line reason) before now cause = cause
message_caused (endings.CannotOpen address) before now cause = cause
message_caused (endings.Served how) before now cause = cause

-- so a run ends whose message was printed
pub ends_told : {IsSo : Ended → Type 0} {status : ℕ} (ending : Ending) (output : Output) → status ≡ status_of (told_by ending) → Told (Prints (message_of (told_by ending)) output.faults_before output.faults_now) output.before output.now → RisesOnlyOver (message_of (told_by ending)) output.faults_before output.faults_now → IsSo (told_by ending) → Ends IsSo output status
ends_told ending output is told cause so = record {
  ending = told_by ending;
  status_is = is;
  spoken = message_spoken ending output.faults_before output.faults_now output.before output.now told;
  cause = message_caused ending output.faults_before output.faults_now cause;
  so = so;
}

-- with status 6 a message is printed
pub six_speaks : (ended : Ended) → status_of ended ≡ 6 → (b n : ℕ) (x y : Option (List ℕ)) → Told (Speaks ended b n) x y → Told (Prints (message_of ended) b n) x y
six_speaks BadWords six b n x y told = told
six_speaks OutOfMemory six b n x y told = told
six_speaks (CannotRead named) six b n x y told = told
six_speaks (FileTooLong named) six b n x y told = told
six_speaks (Refused named line reason) six b n x y told = told
six_speaks (CannotOpen address) six b n x y told = told
six_speaks (Served how) six b n x y told = told
six_speaks (Reported report) six b n x y told = absurd (report_never report (Reported report) 6 (inl refl) (λ e. omega (arith, e)) (λ e. omega (arith, e)) (λ e. omega (arith, e)) six)
six_speaks (Cut report) six b n x y told = absurd (omega (arith, six))
six_speaks WriteFailed six b n x y told = told
