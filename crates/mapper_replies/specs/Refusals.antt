-- The texts of the refusals.
use Rattle.std.specs.Prelude.{ℕ, List, codes}
use Rattle.mapper_replies.specs.declared.refusal.Refusal.{Refusal}
use Rattle.mapper_replies.specs.declared.refusal.Refusal.TheVariants.{NotConnected, AlreadyConnected, Version, UnitTaken, UnknownRequest, WrongWords, BadNumber, UnknownUnit, NotYourUnit, AlreadyExported, NotExported, AlreadyCompiled, UnitFailed, ImportCycle}

-- the most octets of the text of a refusal
abbrev pub longest_refusal : ℕ
longest_refusal = 21

-- the text of a refusal
abbrev pub refusal_text : Refusal → List ℕ
refusal_text NotConnected = codes "not connected"
refusal_text AlreadyConnected = codes "already connected"
refusal_text Version = codes "version not supported"
refusal_text UnitTaken = codes "unit taken"
refusal_text UnknownRequest = codes "unknown request"
refusal_text WrongWords = codes "wrong number of words"
refusal_text BadNumber = codes "bad number"
refusal_text UnknownUnit = codes "unknown unit"
refusal_text NotYourUnit = codes "not your unit"
refusal_text AlreadyExported = codes "already exported"
refusal_text NotExported = codes "not exported"
refusal_text AlreadyCompiled = codes "already compiled"
refusal_text UnitFailed = codes "unit failed"
refusal_text ImportCycle = codes "import cycle"
