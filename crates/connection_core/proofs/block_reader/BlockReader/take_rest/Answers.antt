use Rattle.std.proofs.Common.{sym, ap, subst, ◌∙◌}
use Rattle.connection_core.specs.Standing.{ReaderStands}
use Rattle.connection_core.proofs.TakeLemmas.{run_goes_on}
use Rattle.connection_core.proofs.block_reader.BlockReader.take_rest.Goals as goal

pub returns-clause-stands : goal.returns-clause-stands
returns-clause-stands c = λ project fed h.
    let reading = ap (λ s. s.stage) c.self.view_is ∙ c.requires.reading in
    run_goes_on _ _ c.args.octets.now project fed reading c.requires.clean c.feed_run.ensures (subst (λ s. ReaderStands s project fed) (sym c.self.view_is) h)
