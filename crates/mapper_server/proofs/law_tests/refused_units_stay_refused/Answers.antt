use Rattle.std.proofs.Common.{◌≡◌, ◌++◌, Some, sym, ◌∙◌}
use Rattle.histories.specs.declared.standing.Fate.TheVariants as fates
use Rattle.mapper_server.proofs.law_tests.refused_units_stay_refused.Goals as goal

pub returns : goal.returns
returns c = λ project workers limit history more legal unit place entry here imports refused later path second there also granted.
    let first = c.legal_entries.ensures.front project workers limit history more legal in
    let failed = c.replies_tell_fates.ensures.failed project workers limit history first place entry unit here imports refused in
    let still = c.fates_stay.ensures.ended project workers limit history more legal unit fates.Failed failed in
    let compiled = c.replies_tell_fates.ensures.compiled project workers (history ++ more) later second unit path there also granted in
    let both : Some fates.Compiled ≡ Some fates.Failed = sym compiled ∙ still in
    cc both
