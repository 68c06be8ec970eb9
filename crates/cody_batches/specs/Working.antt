-- How the intake works on what it keeps: working definitions of private functions, and no part of what it means.
use Rattle.std.specs.Prelude.{◌≡◌, ℕ, ◌+◌, Bool, true, false, not, ◌==◌, ◌&&◌, nat_lt, if◌then◌else◌, List, [], ◌∷◌, length}
use Rattle.std.specs.Bool.{MatchBool}
use Rattle.cody_words.specs.declared.reason.Reason.TheVariants.{LineTooLong}
use Rattle.cody_words.specs.declared.reader.Reading.{Reading}
use Rattle.cody_words.specs.declared.reader.Reading.TheVariants as reading
use Rattle.cody_words.specs.Octets.{semicolon}
use Rattle.cody_words.specs.Lines.{longest_line}
use Rattle.cody_words.specs.Scan.{Scan, is_white, start, verdict, step as scan_step}
use Rattle.cody_words.specs.Reading.{told, more_of}
use Rattle.cody_batches.specs.declared.intake.Step.{Step}
use Rattle.cody_batches.specs.declared.intake.Step.TheVariants as step
use Rattle.cody_batches.specs.declared.intake.Tail.{Tail}
use Rattle.cody_batches.specs.declared.intake.Tail.TheVariants as tail
use Rattle.cody_batches.specs.Blocks.{most_lines}
use Rattle.cody_batches.specs.Feeding.{Standing}

-- the most octets of a line that are scanned while its last two wait
abbrev pub most_scanned : ℕ
most_scanned = 8190

-- the octets of a tail
abbrev pub tail_octets : Tail → List ℕ
tail_octets tail.Nothing = []
tail_octets (tail.One last) = last ∷ []
tail_octets (tail.Two before last) = before ∷ last ∷ []

-- with one octet more of the begun line, whose last octets are these
abbrev pub kept_behind : Standing → List ℕ → ℕ → Standing
kept_behind standing [] octet = record standing { scan = start; tail = octet ∷ [] }
kept_behind standing (last ∷ []) octet = record standing { tail = last ∷ octet ∷ [] }
kept_behind standing (before ∷ last ∷ rest) octet =
    if nat_lt standing.scan.at most_scanned then record standing { scan = scan_step standing.scan before; tail = last ∷ octet ∷ [] }
    else record standing { too_long = true; tail = last ∷ octet ∷ [] }

-- with one octet more of the begun line
abbrev pub kept : Standing → ℕ → Standing
kept standing octet = kept_behind standing standing.tail octet

-- the scan of a begun line but for these last octets: a new one where there is none
abbrev pub begun_scan : Scan → List ℕ → Scan
begun_scan scan [] = start
begun_scan scan (last ∷ rest) = scan

-- how many octets of the begun line were scanned or wait
abbrev pub line_len : Standing → ℕ
line_len standing = (begun_scan standing.scan standing.tail).at + length standing.tail

-- the mark of these two octets
abbrev pub ends_marked : ℕ → ℕ → Bool
ends_marked before last = is_white before && last == semicolon

-- the mark of a line that ends in these octets
abbrev pub tail_marked : List ℕ → Bool
tail_marked [] = false
tail_marked (last ∷ []) = last == semicolon
tail_marked (before ∷ last ∷ rest) = ends_marked before last

-- what this scan says was read
pub record ReadsScan (scan : Scan) (words : List (List ℕ)) (found : Reading) (more : Bool) : Type 0 where
  pub meaning : told words found ≡ verdict scan
  pub mark : more_of found ≡ more

-- what was read of a line that isn't too long
abbrev pub ReadsTail : Scan → List ℕ → List (List ℕ) → Reading → Type 0
ReadsTail scan [] words found = found ≡ reading.Blank false
ReadsTail scan (last ∷ []) words found =
    MatchBool (last == semicolon) (ReadsScan scan words found true) (ReadsScan (scan_step scan last) words found false)
ReadsTail scan (before ∷ last ∷ rest) words found =
    MatchBool (ends_marked before last) (ReadsScan scan words found true) (ReadsScan (scan_step (scan_step scan before) last) words found false)

-- what was read of the line that was kept
abbrev pub ReadsKept : Standing → List (List ℕ) → Reading → Type 0
ReadsKept standing words found =
    MatchBool standing.too_long (found ≡ reading.Malformed longest_line LineTooLong (tail_marked standing.tail))
    (ReadsTail standing.scan standing.tail words found)

-- a line is over
abbrev pub line_ended : Standing → Scan → Standing
line_ended standing scan = record standing { scan = scan; tail = []; too_long = false }

-- one line more of the block, which ends here or not
abbrev pub counted_line : Standing → Bool → Standing
counted_line standing more =
    if standing.lines == most_lines then record standing { over = true }
    else record standing { lines = if more then standing.lines + 1 else 0 }

-- a line that was read is counted, unless it is blank
abbrev pub counted : Standing → Reading → Standing
counted standing (reading.Blank more) = standing
counted standing (reading.Words more) = counted_line standing more
counted standing (reading.Malformed at reason more) = counted_line standing more

-- what the end of such a line brings
abbrev pub step_of : Standing → Reading → Step
step_of standing (reading.Blank more) = step.More
step_of standing (reading.Words more) = if standing.lines == most_lines then step.BatchTooLong else step.Message (not more)
step_of standing (reading.Malformed at reason more) = if standing.lines == most_lines then step.BatchTooLong else step.Malformed at reason (not more)
