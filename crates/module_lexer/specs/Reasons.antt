-- The texts of the reasons for which a source is refused.
use Rattle.std.specs.Prelude.{List, ℕ, codes}
use Rattle.module_lexer.specs.declared.reason.SourceReason.{SourceReason}
use Rattle.module_lexer.specs.declared.reason.SourceReason.TheVariants.{OctetOutside, UnclosedComment, UnclosedString, IdentifierTooLong, Syntax, ExportOutside, PartitionOutside, BadHeaderName, NameTooLong, TooManyImports, DuplicateName, UnitDiffers, ImportInHeader, ExportedImplementation, UnknownType, TooManyNames}

-- the text of a reason
abbrev pub reason_text : SourceReason → List ℕ
reason_text OctetOutside = codes "octet outside the subset"
reason_text UnclosedComment = codes "unclosed comment"
reason_text UnclosedString = codes "unclosed string"
reason_text IdentifierTooLong = codes "identifier too long"
reason_text Syntax = codes "syntax"
reason_text ExportOutside = codes "export outside an interface"
reason_text PartitionOutside = codes "partition outside a module"
reason_text BadHeaderName = codes "bad header name"
reason_text NameTooLong = codes "name too long"
reason_text TooManyImports = codes "too many imports"
reason_text DuplicateName = codes "duplicate name"
reason_text UnitDiffers = codes "unit differs from project"
reason_text ImportInHeader = codes "import in a header unit"
reason_text ExportedImplementation = codes "exported implementation unit"
reason_text UnknownType = codes "unknown type"
reason_text TooManyNames = codes "too many names"
