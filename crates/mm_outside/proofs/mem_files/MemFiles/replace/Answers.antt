use Rattle.std.proofs.Common.{refl}
use Rattle.mm_outside.proofs.SlotLemmas.{stores-set}
use Rattle.mm_outside.proofs.mem_files.MemFiles.replace.Goals as goal

pub returns-clause-stored : goal.returns-clause-stored
returns-clause-stored c =
    stores-set 0 c.args.self.now.page.octets c.args.octets.now _ c.args.self.now.slots.items _ c.args.name.now _ c.args.k c.index.result.now _
    c.put-content.ensures.page refl c.args.self.now.within c.requires.first c.index.ensures refl c.put-content.ensures.text
