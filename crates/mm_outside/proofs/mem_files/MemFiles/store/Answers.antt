use Rattle.std.proofs.Common.{arith}
use Rattle.mm_outside.proofs.SlotLemmas.{space-found, same-space}
use Rattle.mm_outside.proofs.mem_files.MemFiles.store.Goals as goal

pub returns-else-octets-spare-clause-space : goal.returns-else-octets-spare-clause-space
returns-else-octets-spare-clause-space c =
    rw (space-found _ _ _ c.args.octets.now _ c.in-Some.ensures.first) (same-space _ _ (omega arith) (omega arith))

pub returns-else-octets-spare-clause-enough : goal.returns-else-octets-spare-clause-enough
returns-else-octets-spare-clause-enough c =
    rw (space-found _ _ _ c.args.octets.now _ c.in-Some.ensures.first) (record { names = omega arith; octets = omega arith })
