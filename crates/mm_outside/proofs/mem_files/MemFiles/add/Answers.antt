use Rattle.std.proofs.Common.{◌≡◌, ◌∙◌, ap, append_assoc, arith, ◌++◌}
use Rattle.mm_outside.specs.Slots.{text_at}
use Rattle.mm_outside.proofs.SlotLemmas.{stores-push, text-grown}
use Rattle.mm_outside.proofs.mem_files.MemFiles.add.Goals as goal

pub returns-clause-stored : goal.returns-clause-stored
returns-clause-stored c =
    let whole = c.put-content.new.page.octets in
    let named : text_at whole c.put-name.result ≡ c.args.name.now =
    ap (λ o. text_at o c.put-name.result) c.put-content.ensures.page
    ∙ text-grown c.put-name.new.page.octets c.args.octets.now c.put-name.result (omega (arith, c.put-name.ensures.within)) ∙ c.put-name.ensures.text in
    stores-push 0 c.args.self.now.page.octets (c.args.name.now ++ c.args.octets.now) _ c.args.self.now.slots.items _ c.args.name.now _ _
    (c.put-content.ensures.page ∙ ap (λ o. o ++ c.args.octets.now) c.put-name.ensures.page ∙ append_assoc c.args.self.now.page.octets c.args.name.now c.args.octets.now)
    c.push_reserved.ensures.items c.args.self.now.within c.requires.absent named c.put-content.ensures.text
