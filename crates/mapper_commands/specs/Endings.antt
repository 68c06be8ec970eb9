-- The statuses and messages that the program ends with.
use Rattle.std.specs.Prelude.{◌≡◌, ℕ, ◌+◌, ◌<◌, Bool, if◌then◌else◌, List, [], ◌++◌, length, Option, codes, decimal, ◌⊎◌}
use Rattle.mm_outside.specs.Causes.{Rose}
use Rattle.mm_outside.specs.Told.{Told}
use Rattle.cody_words.specs.Canonical.{quote, word_room}
use Rattle.connection_core.specs.declared.conn_end.ConnEnd.{ConnEnd}
use Rattle.connection_core.specs.declared.conn_end.ConnEnd.TheVariants.{Closed, Truncated, ReadFault, WriteFault, TooLong, BatchTooLong, HistoryFull}
use Rattle.connection_core.specs.Ends.{status_of as conn_status}
use Rattle.mapper_server.specs.Printing.{IsCut, Prints}
use Rattle.mapper_commands.specs.declared.ending.Ending.{Ending}
use Rattle.mapper_commands.specs.declared.ending.Ending.TheVariants as ending

-- a report: its text, and whether all that it tells of is well
pub record Report : Type 0 where
  pub text : List ℕ
  pub good : Bool

-- how a run of the program ends: by a message, by a report that was printed whole, or by one that was cut short;
-- `CannotOpen` says that no hall was given at an address, `WriteFailed` that a file couldn't be written
pub data Ended : Type 0 where
  BadWords : Ended
  OutOfMemory : Ended
  CannotRead : (name : List ℕ) → Ended
  FileTooLong : (name : List ℕ) → Ended
  Refused : (name : List ℕ) → (line : ℕ) → (reason : List ℕ) → Ended
  CannotOpen : (address : List ℕ) → Ended
  Served : (how : ConnEnd) → Ended
  Reported : (report : Report) → Ended
  Cut : (report : Report) → Ended
  WriteFailed : Ended

-- what an ending tells, its texts as lists of octets
abbrev pub told_by : Ending → Ended
told_by ending.BadWords = BadWords
told_by ending.OutOfMemory = OutOfMemory
told_by (ending.CannotRead name) = CannotRead name.now
told_by (ending.FileTooLong name) = FileTooLong name.now
told_by (ending.Refused name line reason) = Refused name.now line reason.now
told_by (ending.CannotOpen address) = CannotOpen address.now
told_by (ending.Served how) = Served how

-- the status of an ending
abbrev pub status_of : Ended → ℕ
status_of BadWords = 2
status_of OutOfMemory = 3
status_of (CannotRead name) = 4
status_of (FileTooLong name) = 6
status_of (Refused name line reason) = 6
status_of (CannotOpen address) = 4
status_of (Served how) = conn_status how
status_of (Reported report) = if report.good then 0 else 1
status_of (Cut report) = 5
status_of WriteFailed = 5

-- what is said of an input that ended while so many lines were held
abbrev pub truncated_text : ℕ → List ℕ
truncated_text lines = codes "modmap: input ended inside a block of " ++ decimal lines ++ codes " lines\n"

-- what is said of a connection's end; nothing where all was done
abbrev pub conn_message : ConnEnd → List ℕ
conn_message Closed = []
conn_message ReadFault = codes "modmap: link read failed\n"
conn_message WriteFault = codes "modmap: write failed\n"
conn_message (Truncated lines) = truncated_text lines
conn_message TooLong = codes "modmap: input too long\n"
conn_message BatchTooLong = codes "modmap: block too long\n"
conn_message (HistoryFull entries kept) = codes "modmap: history full\n"

-- what is said of a file that can't be read
abbrev pub cannot_read_text : List ℕ → List ℕ
cannot_read_text name = codes "modmap: cannot read " ++ quote name ++ codes "\n"

-- what is said of a file above its limit
abbrev pub too_long_text : List ℕ → List ℕ
too_long_text name = codes "modmap: " ++ quote name ++ codes ": file too long\n"

-- what is said of a file whose text is refused at a line
abbrev pub refused_text : List ℕ → ℕ → List ℕ → List ℕ
refused_text name line reason = codes "modmap: " ++ quote name ++ codes ":" ++ decimal line ++ codes ": " ++ reason ++ codes "\n"

-- what is said of an address at which no hall was given; it is written as the words spell it
abbrev pub cannot_open_text : List ℕ → List ℕ
cannot_open_text address = codes "modmap: cannot open " ++ address ++ codes "\n"

-- the message of an ending, a line; there is none where all was done, nor behind a report
abbrev pub message_of : Ended → List ℕ
message_of BadWords = codes "modmap: bad words\n"
message_of OutOfMemory = codes "modmap: out of memory\n"
message_of (CannotRead name) = cannot_read_text name
message_of (FileTooLong name) = too_long_text name
message_of (Refused name line reason) = refused_text name line reason
message_of (CannotOpen address) = cannot_open_text address
message_of (Served how) = conn_message how
message_of (Reported report) = []
message_of (Cut report) = []
message_of WriteFailed = codes "modmap: write failed\n"

-- the octets beside a name and a reason that a message has at most
abbrev pub frame_room : ℕ
frame_room = 60

-- the octets that the reason of a project file's first fault has at most
abbrev pub reason_room : ℕ
reason_room = 20

-- the most octets of a name, and of a reason, of which a message is made
abbrev pub longest_name : ℕ
longest_name = 1000000000

abbrev pub longest_reason : ℕ
longest_reason = 1000

-- room enough for the message of an ending
abbrev pub message_room : Ended → ℕ
message_room BadWords = frame_room
message_room OutOfMemory = frame_room
message_room (CannotRead name) = word_room name + frame_room
message_room (FileTooLong name) = word_room name + frame_room
message_room (Refused name line reason) = word_room name + length reason + frame_room
message_room (CannotOpen address) = word_room address + frame_room
message_room (Served how) = frame_room
message_room (Reported report) = frame_room
message_room (Cut report) = frame_room
message_room WriteFailed = frame_room

-- What is printed at an ending: the whole report, or a proper part of one; else the message, or a proper part of it
-- where a write failed.
abbrev pub Speaks : Ended → ℕ → ℕ → List ℕ → List ℕ → Type 0
Speaks (Reported report) faults_before faults_now old new = new ≡ old ++ report.text
Speaks (Cut report) faults_before faults_now old new = IsCut report.text old new
Speaks ended faults_before faults_now old new = Prints (message_of ended) faults_before faults_now old new

-- the count of faults is as it was; or it rose, and there was something to print
abbrev pub RisesOnlyOver : List ℕ → ℕ → ℕ → Type 0
RisesOnlyOver text faults_before faults_now = (faults_now ≡ faults_before) ⊎ ((0 < length text) × Rose faults_before faults_now)

-- A report is cut short only where a write failed, and stands whole only where none did. Where there is no message, no
-- write fails.
abbrev pub HasSinkCause : Ended → ℕ → ℕ → Type 0
HasSinkCause (Reported report) faults_before faults_now = faults_now ≡ faults_before
HasSinkCause (Cut report) faults_before faults_now = Rose faults_before faults_now
HasSinkCause ended faults_before faults_now = RisesOnlyOver (message_of ended) faults_before faults_now

-- what a sink tells before and after a call, and how often its writes have failed
pub record Output : Type 0 where
  pub before : Option (List ℕ)
  pub now : Option (List ℕ)
  pub faults_before : ℕ
  pub faults_now : ℕ

-- what a sink tells and how often its writes have failed, as it was before a call and as it is behind it
abbrev pub output_of : {K : Type 0} → (K → Option (List ℕ)) → (K → ℕ) → K → K → Output
output_of written faults old new = record { before = written old; now = written new; faults_before = faults old; faults_now = faults new }

-- a call ended with this status and printed what belongs to its ending, of which this is so
pub record Ends (IsSo : Ended → Type 0) (output : Output) (status : ℕ) : Type 0 where
  pub ending : Ended
  pub status_is : status ≡ status_of ending
  pub spoken : Told (Speaks ending output.faults_before output.faults_now) output.before output.now
  pub cause : HasSinkCause ending output.faults_before output.faults_now
  pub so : IsSo ending

-- The message of the ending was printed, unless memory ran out before it could be, which ends the run in another way.
abbrev pub Tells : Ended → Output → ℕ → Type 0
Tells ended output status = Ends (λ ending. (ending ≡ ended) ⊎ (ending ≡ OutOfMemory)) output status

-- an ending with a report, printed whole or cut short
abbrev pub EndsIn : Report → Ended → Type 0
EndsIn report ended = (ended ≡ Reported report) ⊎ (ended ≡ Cut report)

-- The report was printed, whole or up to a write that failed.
abbrev pub Issues : Report → Output → ℕ → Type 0
Issues report output status = Ends (EndsIn report) output status
