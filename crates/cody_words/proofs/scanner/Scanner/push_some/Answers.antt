use Rattle.std.proofs.Common.{ℕ, take, sym, subst, ap, ◌∙◌, arith, ◌≡◌, true, List}
use Rattle.cody_words.specs.Scan.{takes_run}
use Rattle.cody_words.proofs.Runs.{AreBare, run_within, run_bare, run_takes}
use Rattle.cody_words.proofs.scanner.Scanner.push_some.Goals as goal

pub split_at-requires : goal.split_at-requires
split_at-requires c = omega (arith, c.run_len-count.ensures, run_within c.args.self.now.mode c.args.octets.now)

pub push_bare-requires-clause-run : goal.push_bare-requires-clause-run
push_bare-requires-clause-run c =
    subst (λ (run : List ℕ). takes_run c.args.self.now.mode run ≡ true) (sym c.split_at.ensures.front) (run_takes c.args.self.now.mode c.args.octets.now c.run_len-count.result c.run_len-count.ensures c.if-count-eq0.false)

pub push_bare-requires-clause-bare : goal.push_bare-requires-clause-bare
push_bare-requires-clause-bare c =
    subst AreBare (sym (c.split_at.ensures.front ∙ ap (λ (n : ℕ). take n c.args.octets.now) c.run_len-count.ensures)) (run_bare c.args.self.now.mode c.args.octets.now)
