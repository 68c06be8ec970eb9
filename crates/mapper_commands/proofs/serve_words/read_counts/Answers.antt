use Rattle.std.proofs.Common.{refl, sym, true≢false}
use Rattle.mapper_commands.specs.Addresses.{IsAddress}
use Rattle.mapper_commands.proofs.ServeForms.{of_address, of_entries, of_links, of_workers}
use Rattle.mapper_commands.proofs.serve_words.read_counts.Goals as goal

pub returns-then-not-is_address-clause-none : goal.returns-then-not-is_address-clause-none
returns-then-not-is_address-clause-none c = λ serve asks.
    let spells : IsAddress c.args.address.now = of_address c.args.project.now c.args.address.now c.args.workers.now c.args.links.now c.args.entries.now serve asks in
    true≢false (sym (c.if-not-is_address.ensures.1 spells))

pub returns-in_default-clause-none : goal.returns-in_default-clause-none
returns-in_default-clause-none c = λ serve asks. c.in_default.ensures.none serve.workers (of_workers c.args.project.now c.args.address.now c.args.workers.now c.args.links.now c.args.entries.now serve asks)

pub returns-in_default-read_within-clause-none : goal.returns-in_default-read_within-clause-none
returns-in_default-read_within-clause-none c = λ serve asks. c.in_default-read_within.ensures.none serve.links (of_links c.args.project.now c.args.address.now c.args.workers.now c.args.links.now c.args.entries.now serve asks)

pub returns-in_default-read_within-2-clause-none : goal.returns-in_default-read_within-2-clause-none
returns-in_default-read_within-2-clause-none c = λ serve asks.
    c.in_default-read_within-2.ensures.none serve.entries (of_entries c.args.project.now c.args.address.now c.args.workers.now c.args.links.now c.args.entries.now serve asks c.in-Some.workers c.in-Some.ensures.number)

pub returns-clause-asked : goal.returns-clause-asked
returns-clause-asked c =
    let spells : IsAddress c.args.address.now = c.if-not-is_address.ensures.0 refl in
    record {
      workers_word = c.args.workers.now;
      links_word = c.args.links.now;
      entries_word = c.args.entries.now;
      words_are = refl;
      address_is = spells;
      workers_are = c.in-Some.ensures.number;
      links_are = c.in-Some-read_within.ensures.number;
      entries_are = c.in-Some-read_within-2.ensures.number;
    }
