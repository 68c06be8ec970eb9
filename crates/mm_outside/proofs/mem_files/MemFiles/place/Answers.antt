use Rattle.mm_outside.proofs.SlotLemmas.{place-absent}
use Rattle.mm_outside.proofs.mem_files.MemFiles.place.Goals as goal

pub returns-clause-absent : goal.returns-clause-absent
returns-clause-absent c = place-absent _ _ _ _ (rw (c.octets.ensures, c.deref.ensures.value) at c.find.ensures.none)
