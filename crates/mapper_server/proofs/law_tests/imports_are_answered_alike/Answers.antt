use Rattle.std.proofs.Common.{◌≡◌, Some, sym, ◌∙◌}
use Rattle.histories.specs.declared.standing.Fate.TheVariants as fates
use Rattle.mapper_server.proofs.law_tests.imports_are_answered_alike.Goals as goal

pub returns : goal.returns
returns c = λ project workers limit history legal unit path place entry here imports granted other second there also refused.
    let compiled = c.replies_tell_fates.ensures.compiled project workers history place entry unit path here imports granted in
    let failed = c.replies_tell_fates.ensures.failed project workers limit history legal other second unit there also refused in
    let both : Some fates.Compiled ≡ Some fates.Failed = sym compiled ∙ failed in
    cc both
