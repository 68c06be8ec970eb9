-- The texts of the reasons for which a project file is refused.
use Rattle.std.specs.Prelude.{ℕ, List, codes}
use Rattle.unit_registry.specs.declared.reason.ProjectReason.{ProjectReason}
use Rattle.unit_registry.specs.declared.reason.ProjectReason.TheVariants.{Words, Syntax, BadText, BadName, TwiceName, TwiceIdent, TooMany, NoEnd}

-- the text of a reason
abbrev pub reason_text : ProjectReason → List ℕ
reason_text Words = codes "malformed line"
reason_text Syntax = codes "syntax"
reason_text BadText = codes "bad text"
reason_text BadName = codes "bad name"
reason_text TwiceName = codes "name declared twice"
reason_text TwiceIdent = codes "ident declared twice"
reason_text TooMany = codes "too many units"
reason_text NoEnd = codes "no end"
