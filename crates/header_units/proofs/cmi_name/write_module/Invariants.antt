use Rattle.std.proofs.Common.{take, map}
use Rattle.cody_words.specs.Buffers.{Appends}
use Rattle.header_units.specs.CmiNames.{cmi_octet}
use Rattle.header_units.proofs.cmi_name.write_module.Given as goal

abbrev pub invariant-loop-octet : goal.invariant-loop-octet
invariant-loop-octet l = Appends l.fn.out l.out (map cmi_octet (take l.octet-index l.name))
