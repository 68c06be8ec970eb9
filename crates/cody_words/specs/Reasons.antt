-- The texts of the reasons for which a line is malformed.
use Rattle.std.specs.Prelude.{ℕ, List, codes}
use Rattle.cody_words.specs.declared.reason.Reason.{Reason}
use Rattle.cody_words.specs.declared.reason.Reason.TheVariants.{ControlOctet, BackslashOutside, UnknownEscape, StraySemicolon, UnclosedQuote, LineTooLong}

-- the text of a reason
abbrev pub reason_text : Reason → List ℕ
reason_text ControlOctet = codes "control octet"
reason_text BackslashOutside = codes "backslash outside quotes"
reason_text UnknownEscape = codes "unknown escape"
reason_text StraySemicolon = codes "stray semicolon"
reason_text UnclosedQuote = codes "unclosed quote"
reason_text LineTooLong = codes "line too long"
