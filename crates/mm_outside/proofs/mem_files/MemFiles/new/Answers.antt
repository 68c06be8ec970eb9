use Rattle.std.proofs.Common.{length, ◌∙◌, ap, arith, rules}
use Rattle.std.proofs.lemmas.List.Sums.{sum_by-drop_more}
use Rattle.mm_outside.proofs.NamedLemmas.{holds-more}
use Rattle.mm_outside.proofs.mem_files.MemFiles.new.Goals as goal

pub loop-k-preserved : goal.loop-k-preserved
loop-k-preserved c =
    let name = ap length (c.octets.ensures ∙ c.index-names-k.is) in
    let content = ap length (c.octets-in-loop-k.ensures ∙ c.index-contents-k.is) in
    let names = sum_by-drop_more length c.args.names.now c.loop-k.k c.index-names-k.result (omega arith) in
    let contents = sum_by-drop_more length c.args.contents.now c.loop-k.k c.index-contents-k.result (omega arith) in
    record {
      content = holds-more 0 c.loop-k.k _ _ _ _ _ _ (omega arith) c.requires.as_many (rw c.octets.ensures c.index-names-k.is) (rw c.octets-in-loop-k.ensures c.index-contents-k.is) c.requires.distinct c.loop-k.invariant.content c.add.ensures.stored;
      reads = search rules;
      writes = search rules;
      names = omega (arith, c.add.ensures.names, c.loop-k.invariant.names);
      octets = omega (arith, name, content, names, contents, c.add.ensures.octets, c.loop-k.invariant.octets);
      faults = search rules;
    }
