use Rattle.module_units.specs.Readers.{HasRead}
use Rattle.module_units.proofs.unit.read_tokens.Given as goal

abbrev pub invariant-loop-index : goal.invariant-loop-index
invariant-loop-index l = HasRead l.text l.lexed l.index l.reader
