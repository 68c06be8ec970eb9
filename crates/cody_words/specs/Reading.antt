-- What a reader of lines answers.
use Rattle.std.specs.Prelude.{Bool, ℕ, List, Result, Ok, Err}
use Rattle.cody_words.specs.declared.reader.Line.{Line}
use Rattle.cody_words.specs.declared.reader.Line.TheVariants as line
use Rattle.cody_words.specs.declared.reader.LexError.{LexError}
use Rattle.cody_words.specs.declared.reader.LexError.TheVariants as error
use Rattle.cody_words.specs.declared.reader.Reading.{Reading}
use Rattle.cody_words.specs.declared.reader.Reading.TheVariants as reading
use Rattle.cody_words.specs.Lines.{Meaning, Blank, Words, Malformed, Says}

-- The answer is what the line says, unless memory ran out.
abbrev pub Answers : List ℕ → Result Line LexError → Type 0
Answers raw (Ok (line.Blank more)) = Says raw Blank more
Answers raw (Ok (line.Words words more)) = Says raw (Words words) more
Answers raw (Err (error.Malformed at reason more)) = Says raw (Malformed at reason) more
Answers raw (Err error.Memory) = Unit {0}

-- what a reading tells, with these words
abbrev pub told : List (List ℕ) → Reading → Meaning
told words (reading.Blank more) = Blank
told words (reading.Words more) = Words words
told words (reading.Malformed at reason more) = Malformed at reason

-- whether a reading tells that more of the block follows
abbrev pub more_of : Reading → Bool
more_of (reading.Blank more) = more
more_of (reading.Words more) = more
more_of (reading.Malformed at reason more) = more
