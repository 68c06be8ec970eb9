use Rattle.unit_registry.specs.Projects.{unit_count}
use Rattle.std.proofs.Common.{rules, not, ◌&&◌, ◌∙◌, nat_lt, is_none, lt-ltb}
use Rattle.std.proofs.lemmas.Fn.{filter_same}
use Rattle.registry_tables.specs.declared.imports.Waiting.{Waiting}
use Rattle.registry_tables.specs.Tabled.{fate_in}
use Rattle.registry_tables.proofs.Pairs.{filter_alike_in, within_ended}
use Rattle.registry_tables.proofs.imports.drop_ended.Goals as goal

pub returns-clause-kept : goal.returns-clause-kept
returns-clause-kept c =
    filter_same _ (λ (w : Waiting). not (nat_lt w.unit (unit_count c.args.tables.now.project) && not (is_none (fate_in c.args.tables.now w.unit)))) _ (λ x b f' k. search rules) _ _ c.retain.ensures.filtered
    ∙ filter_alike_in (λ w. not (nat_lt w.unit (unit_count c.args.tables.now.project) && not (is_none (fate_in c.args.tables.now w.unit)))) (λ w. is_none (fate_in c.args.tables.now w.unit)) c.args.waiting.now.items (λ w there. within_ended (nat_lt w.unit (unit_count c.args.tables.now.project)) (is_none (fate_in c.args.tables.now w.unit)) (search (rules, lt-ltb, c.requires w there)))
