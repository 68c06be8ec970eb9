use Rattle.std.proofs.Common.{refl, sym, ap, subst, ◌∙◌}
use Rattle.std.specs.List.{range_with_len}
use Rattle.mm_outside.specs.Told.{Told}
use Rattle.mm_outside.proofs.ToldLemmas.{Told-map}
use Rattle.registry_core.specs.Alone.{told_alone}
use Rattle.registry_core.specs.Ledgers.{LedgerView, opened_in}
use Rattle.connection_core.specs.Serving.{ServesAlone}
use Rattle.mapper_server.proofs.Leaving.{fills_up}
use Rattle.mapper_server.proofs.Soloist.{opens_only, serves_alone}
use Rattle.mapper_server.proofs.single.serve_alone.Goals as goal

pub serve-how-requires-clause-opened : goal.serve-how-requires-clause-opened
serve-how-requires-clause-opened g c =
    (opens_only c.args.project.now (told_alone g.S.Shelf.kept g.S.Shelf.held c.args.desk.now) (told_alone g.S.Shelf.kept g.S.Shelf.held c.open.new.self) c.open.result c.unwrap-conn.result (opened_in c.open.new.self.book.ledger)
    (ap (λ (ledger : LedgerView). ledger.project) c.requires.nothing) (ap (λ (ledger : LedgerView). ledger.workers) c.requires.nothing) (ap (λ (ledger : LedgerView). ledger.entries) c.requires.nothing) (ap (λ (ledger : LedgerView). range_with_len 0 (opened_in ledger)) c.requires.nothing)
    (record { places = refl }) (record { places = refl }) refl c.open.ensures.sound c.unwrap-conn.ensures c.open.ensures.opened).0

pub returns-clause-served : goal.returns-clause-served
returns-clause-served g c =
    let first = opens_only c.args.project.now (told_alone g.S.Shelf.kept g.S.Shelf.held c.args.desk.now) (told_alone g.S.Shelf.kept g.S.Shelf.held c.open.new.self) c.open.result c.unwrap-conn.result (opened_in c.open.new.self.book.ledger)
    (ap (λ (ledger : LedgerView). ledger.project) c.requires.nothing) (ap (λ (ledger : LedgerView). ledger.workers) c.requires.nothing) (ap (λ (ledger : LedgerView). ledger.entries) c.requires.nothing) (ap (λ (ledger : LedgerView). range_with_len 0 (opened_in ledger)) c.requires.nothing)
    (record { places = refl }) (record { places = refl }) refl c.open.ensures.sound c.unwrap-conn.ensures c.open.ensures.opened in
    subst (λ limit. Told (ServesAlone c.args.project.now limit c.serve-how.result) (g.L.Link.octets c.args.link.now) (g.L.Link.octets c.serve-how.new.link)) first.1
    (Told-map (λ a b ends. serves_alone c.args.project.now c.serve-how.result (told_alone g.S.Shelf.kept g.S.Shelf.held c.open.new.self) (told_alone g.S.Shelf.kept g.S.Shelf.held c.serve-how.new.desk) (told_alone g.S.Shelf.kept g.S.Shelf.held c.leave.new.self) (told_alone g.S.Shelf.kept g.S.Shelf.held c.done.new.self)
    c.leaving.result c.leave.ensures.left.0 c.done.ensures.done.0 a b first.0 (record { places = refl }) (record { places = refl }) (record { places = refl }) (record { places = refl }) c.serve-how.ensures.continues
    c.serve-how.ensures.sound c.leave.ensures.sound c.done.ensures.sound c.leaving.ensures c.leave.ensures.left.1 c.done.ensures.done.1 c.serve-how.ensures.full ends) c.serve-how.ensures.ends)

pub returns-clause-full : goal.returns-clause-full
returns-clause-full g c =
    let first = opens_only c.args.project.now (told_alone g.S.Shelf.kept g.S.Shelf.held c.args.desk.now) (told_alone g.S.Shelf.kept g.S.Shelf.held c.open.new.self) c.open.result c.unwrap-conn.result (opened_in c.open.new.self.book.ledger)
    (ap (λ (ledger : LedgerView). ledger.project) c.requires.nothing) (ap (λ (ledger : LedgerView). ledger.workers) c.requires.nothing) (ap (λ (ledger : LedgerView). ledger.entries) c.requires.nothing) (ap (λ (ledger : LedgerView). range_with_len 0 (opened_in ledger)) c.requires.nothing)
    (record { places = refl }) (record { places = refl }) refl c.open.ensures.sound c.unwrap-conn.ensures c.open.ensures.opened in
    fills_up c.serve-how.new.desk.book.ledger c.args.desk.now.book.ledger.limit c.serve-how.result c.serve-how.ensures.sound.ledger (sym first.1 ∙ sym c.serve-how.ensures.continues.goes.stays.limit) c.serve-how.ensures.full
