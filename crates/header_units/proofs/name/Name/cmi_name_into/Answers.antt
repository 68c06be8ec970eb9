use Rattle.header_units.proofs.Lengths.{name_kind-short}
use Rattle.header_units.proofs.name.Name.cmi_name_into.Goals as goal

pub write_cmi_name-requires-clause-short : goal.write_cmi_name-requires-clause-short
write_cmi_name-requires-clause-short c = name_kind-short c.args.self.now.octets.now c.args.self.now.kind c.args.self.now.is_name
