-- Links and sinks over readers and writers, and the files of the machine.
use Rattle.std.specs.Prelude.{◌≡◌, ◌⊎◌, ℕ, List, Option, Some, Result, Err, IfSome, IsErr}
use Rattle.std.specs.Io.KnownBytes.{ReadConsumes}
use Rattle.mm_outside.specs.declared.files.ReadAllError.{ReadAllError}
use Rattle.mm_outside.specs.declared.files.ReadAllError.TheVariants.{Absent, Failed}
use Rattle.mm_outside.specs.Files.{Reports}
use Rattle.mm_outside.specs.Octets.{Appends}
use Rattle.mm_outside.specs.Sending.{AppendsAll}
use Rattle.mm_outside.specs.Told.{Told}
use Rattle.modmap.specs.declared.adapters.Pipe.{Pipe}
use Rattle.modmap.specs.declared.adapters.WriterSink.{WriterSink}
use Rattle.modmap.specs.declared.disk.DiskFiles.{DiskFiles}

-- the link is over this reader and this writer, and nothing failed yet
pub record IsOver {R W : Type 0} (reader : R) (writer : W) (pipe : Pipe R W) : Type 0 where
  pub reader_is : pipe.reader ≡ reader
  pub writer_is : pipe.writer ≡ writer
  pub no_read_faults : pipe.read_faults ≡ 0
  pub no_write_faults : pipe.write_faults ≡ 0

-- how often the link's reads, and its writes, have failed
abbrev pub read_faults_of : {R W : Type 0} → Pipe R W → ℕ
read_faults_of pipe = pipe.read_faults

abbrev pub write_faults_of : {R W : Type 0} → Pipe R W → ℕ
write_faults_of pipe = pipe.write_faults

-- A read took from the link's reader what it put to the front of the room, none only at the end; a failed one took
-- nothing. The writer stays.
pub record ReadsFrom {R W E : Type 0} (remaining : R → Option (List ℕ)) (result : Result ℕ E) (room : List ℕ) (old new : Pipe R W) : Type 0 where
  pub taken : ReadConsumes (remaining old.reader) (remaining new.reader) result room
  pub writer : new.writer ≡ old.writer

-- A write gave the octets at the front of the piece to the link's writer; a failed one gave none. The reader stays.
pub record WritesTo {R W E : Type 0} (contents : W → Option (List ℕ)) (result : Result ℕ E) (piece : List ℕ) (old new : Pipe R W) : Type 0 where
  pub given : Told (Appends result piece) (contents old.writer) (contents new.writer)
  pub reader : new.reader ≡ old.reader

-- the sink is over this writer, and nothing failed yet
pub record IsSinkOver {W : Type 0} (writer : W) (sink : WriterSink W) : Type 0 where
  pub writer_is : sink.writer ≡ writer
  pub no_faults : sink.faults ≡ 0

-- these are the files that the runtime value reaches, and nothing failed yet
pub record IsOnDisk {R : Type 0} (rt : R) (files : DiskFiles R) : Type 0 where
  pub rt_is : files.rt ≡ rt
  pub no_read_faults : files.read_faults ≡ 0
  pub no_write_faults : files.write_faults ≡ 0

-- how often reads of the files, and writes, have failed
abbrev pub reads_failed : {R : Type 0} → DiskFiles R → ℕ
reads_failed files = files.read_faults

abbrev pub writes_failed : {R : Type 0} → DiskFiles R → ℕ
writes_failed files = files.write_faults

-- This was answered of a file that was opened, which held what is told so; or no file was opened.
pub data ReadsFile {F : Type 0} (remaining : F → Option (List ℕ)) (result : Result (List ℕ) ReadAllError) (most : ℕ) : Type 0 where
  opened : (file : F) → IfSome (remaining file) (λ held. Reports result (Some held) most) → ReadsFile remaining result most
  not_opened : (result ≡ Err Absent) ⊎ (result ≡ Err Failed) → ReadsFile remaining result most

-- The octets were written to a file that was made, whole unless a write failed; or no file was made.
pub data WritesFile {F T E : Type 0} (contents : F → Option (List ℕ)) (result : Result T E) (octets : List ℕ) : Type 0 where
  made : (before now : F) → Told (AppendsAll result octets) (contents before) (contents now) → WritesFile contents result octets
  not_made : IsErr result → WritesFile contents result octets
