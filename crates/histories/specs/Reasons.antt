-- The texts of the reasons for which a history isn't legal.
use Rattle.std.specs.Prelude.{ℕ, List, codes}
use Rattle.histories.specs.declared.illegal_reason.IllegalReason.{IllegalReason}
use Rattle.histories.specs.declared.illegal_reason.IllegalReason.TheVariants.{OutOfOrder, NotOpen, Crowded, OutOfRange, Full}

-- the most octets of the text of a reason
abbrev pub longest_illegal_text : ℕ
longest_illegal_text = 17

-- the text of a reason
abbrev pub illegal_text : IllegalReason → List ℕ
illegal_text OutOfOrder = codes "conn out of order"
illegal_text NotOpen = codes "conn not open"
illegal_text Crowded = codes "too many open"
illegal_text OutOfRange = codes "unit out of range"
illegal_text Full = codes "history full"
