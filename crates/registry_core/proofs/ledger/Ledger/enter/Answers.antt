use Rattle.std.proofs.Common.{◌≡◌, ℕ, ◌<◌, ◌∙◌, ◌∷◌, ◌++◌, [], List, length, false, ◌||◌, ◌&&◌, ◌==◌, get_or, reverse, refl, sym, ap, subst, arith, rules}
use Rattle.std.proofs.lemmas.List.{length-map}
use Rattle.std.specs.Global.{Vec}
use Rattle.std.specs.List.{list_any}
use Rattle.unit_registry.specs.declared.act.Act.{Act}
use Rattle.unit_registry.specs.Acts.{is_done}
use Rattle.unit_registry.specs.Projects.{ProjectView, unit_count}
use Rattle.histories.specs.declared.answered.Answered.{Answered}
use Rattle.histories.specs.declared.entry.Entry.{Entry}
use Rattle.histories.specs.declared.answer.Said.{Said}
use Rattle.histories.specs.Answered.{who, has_gone, open_count}
use Rattle.histories.specs.Answers.{at_once}
use Rattle.histories.specs.Noted.{Noted, answer_in}
use Rattle.histories.specs.Histories.{noted_of, with_said}
use Rattle.registry_tables.specs.Tabled.{Tabled}
use Rattle.registry_tables.specs.Stalled.{is_stalled_in, gives_up}
use Rattle.registry_tables.specs.Imported.{Imported, held, newest_waiting, WaitsWell, ClosesNone, may_end_unit}
use Rattle.registry_core.specs.Ledgers.{LedgerView, Passes, said_to, entry}
use Rattle.registry_core.specs.Standing.{Stands}
use Rattle.registry_core.proofs.Ready.{IsReady, ready}
use Rattle.registry_core.proofs.OneMore.{tables1, imports1, stands_by, lengths, waiting_few, waits_well, are_within, all_within_by, tied_by, idle_by, idle_first, no_circle}
use Rattle.registry_core.proofs.ledger.Ledger.enter.Goals as goal

answered_few : (t : Tabled) (i : Imported) (entries : Vec Entry) (workers limit : ℕ) (noted : List Noted) → Stands t i entries workers limit noted → length t.answered ≡ length entries.items
answered_few t i entries workers limit noted s =
    ap length s.is_answered ∙ length-map noted (λ (x : Noted). x.answered) ∙ lengths t.project workers entries.items noted s.is_noted

abbrev made : ProjectView → ℕ → ℕ → List Entry → LedgerView
made project workers limit entries = record { project = project; workers = workers; limit = limit; entries = entries }

abbrev with_newest : Tabled → ℕ → Act → Said → Tabled
with_newest t conn act said = record t { answered = record { conn = conn; act = act; said = said } ∷ t.answered }

abbrev with_note : Imported → Said → ℕ → ℕ → List Answered → Imported
with_note i said place conn answered = record i { waiting = newest_waiting said place conn (held (who answered conn)) i.waiting; replies = i.replies ++ answer_in said ∷ [] }

-- what is known of the entry at the values that the ledger has
pub at_once-said-requires-clause-conn : goal.at_once-said-requires-clause-conn
at_once-said-requires-clause-conn c = (ready c.args.self.now.project c.args.self.now.workers c.args.self.now.limit c.args.self.now.entries (entry c.args.conn c.args.act) c.requires.legal.legal c.requires.passes).conn

pub at_once-said-requires-clause-unit : goal.at_once-said-requires-clause-unit
at_once-said-requires-clause-unit c = (ready c.args.self.now.project c.args.self.now.workers c.args.self.now.limit c.args.self.now.entries (entry c.args.conn c.args.act) c.requires.legal.legal c.requires.passes).unit

pub overflow_cast-place : goal.overflow_cast-place
overflow_cast-place c =
    let i = c.self.inside in
    let base : made i.tables.project i.workers i.limit i.entries.items ≡ c.args.self.now = c.self.view_is ∙ c.at_once-said.ensures.same in
    let noted : List Noted = noted_of i.tables.project i.workers i.entries.items in
    let e : Entry = record { conn = c.args.conn; act = c.args.act } in
    let r : IsReady i.tables.project i.workers i.limit noted e = ready i.tables.project i.workers i.limit i.entries.items e c.self.invariant.legal (subst (λ (b : LedgerView). Passes b e) (sym base) c.requires.passes) in
    let size : length noted ≡ length i.entries.items = lengths i.tables.project i.workers i.entries.items noted c.self.invariant.is_noted in
    let answered : length i.tables.answered ≡ length i.entries.items = answered_few i.tables i.imports i.entries i.workers i.limit noted c.self.invariant in
    let f = r.room in
    let m = c.self.invariant.small in
    search rules

pub push-requires-clause-places : goal.push-requires-clause-places
push-requires-clause-places c =
    let i = c.self.inside in
    let base : made i.tables.project i.workers i.limit i.entries.items ≡ c.args.self.now = c.self.view_is ∙ c.at_once-said.ensures.same in
    let noted : List Noted = noted_of i.tables.project i.workers i.entries.items in
    let e : Entry = record { conn = c.args.conn; act = c.args.act } in
    let r : IsReady i.tables.project i.workers i.limit noted e = ready i.tables.project i.workers i.limit i.entries.items e c.self.invariant.legal (subst (λ (b : LedgerView). Passes b e) (sym base) c.requires.passes) in
    let size : length noted ≡ length i.entries.items = lengths i.tables.project i.workers i.entries.items noted c.self.invariant.is_noted in
    let answered : length i.tables.answered ≡ length i.entries.items = answered_few i.tables i.imports i.entries i.workers i.limit noted c.self.invariant in
    let f = r.room in
    let p = c.self.invariant.has_places in
    omega arith

pub push-requires-clause-small : goal.push-requires-clause-small
push-requires-clause-small c =
    let i = c.self.inside in
    let base : made i.tables.project i.workers i.limit i.entries.items ≡ c.args.self.now = c.self.view_is ∙ c.at_once-said.ensures.same in
    let noted : List Noted = noted_of i.tables.project i.workers i.entries.items in
    let e : Entry = record { conn = c.args.conn; act = c.args.act } in
    let r : IsReady i.tables.project i.workers i.limit noted e = ready i.tables.project i.workers i.limit i.entries.items e c.self.invariant.legal (subst (λ (b : LedgerView). Passes b e) (sym base) c.requires.passes) in
    let size : length noted ≡ length i.entries.items = lengths i.tables.project i.workers i.entries.items noted c.self.invariant.is_noted in
    let answered : length i.tables.answered ≡ length i.entries.items = answered_few i.tables i.imports i.entries i.workers i.limit noted c.self.invariant in
    let f = r.room in
    let m = c.self.invariant.small in
    omega arith

pub push-requires-clause-seats : goal.push-requires-clause-seats
push-requires-clause-seats c opens =
    let i = c.self.inside in
    let base : made i.tables.project i.workers i.limit i.entries.items ≡ c.args.self.now = c.self.view_is ∙ c.at_once-said.ensures.same in
    let noted : List Noted = noted_of i.tables.project i.workers i.entries.items in
    let e : Entry = record { conn = c.args.conn; act = c.args.act } in
    let r : IsReady i.tables.project i.workers i.limit noted e = ready i.tables.project i.workers i.limit i.entries.items e c.self.invariant.legal (subst (λ (b : LedgerView). Passes b e) (sym base) c.requires.passes) in
    let size : length noted ≡ length i.entries.items = lengths i.tables.project i.workers i.entries.items noted c.self.invariant.is_noted in
    let answered : length i.tables.answered ≡ length i.entries.items = answered_few i.tables i.imports i.entries i.workers i.limit noted c.self.invariant in
    let free = r.seats opens in
    let same : open_count i.tables.answered ≡ open_count (Rattle.histories.specs.Noted.answered_of noted) = ap (λ (a : List Answered). open_count a) c.self.invariant.is_answered in
    let seats = c.self.invariant.has_seats in
    omega arith

pub push-requires-clause-conn : goal.push-requires-clause-conn
push-requires-clause-conn c =
    let i = c.self.inside in
    let base : made i.tables.project i.workers i.limit i.entries.items ≡ c.args.self.now = c.self.view_is ∙ c.at_once-said.ensures.same in
    let noted : List Noted = noted_of i.tables.project i.workers i.entries.items in
    let e : Entry = record { conn = c.args.conn; act = c.args.act } in
    let r : IsReady i.tables.project i.workers i.limit noted e = ready i.tables.project i.workers i.limit i.entries.items e c.self.invariant.legal (subst (λ (b : LedgerView). Passes b e) (sym base) c.requires.passes) in
    let size : length noted ≡ length i.entries.items = lengths i.tables.project i.workers i.entries.items noted c.self.invariant.is_noted in
    let answered : length i.tables.answered ≡ length i.entries.items = answered_few i.tables i.imports i.entries i.workers i.limit noted c.self.invariant in
    let room : is_done c.args.act ≡ false → c.args.conn < i.tables.room = λ no_end. (let l = r.conn no_end in let h = c.self.invariant.has_room in omega arith) in
    room

pub push-requires-clause-unit : goal.push-requires-clause-unit
push-requires-clause-unit c =
    let i = c.self.inside in
    let base : made i.tables.project i.workers i.limit i.entries.items ≡ c.args.self.now = c.self.view_is ∙ c.at_once-said.ensures.same in
    let noted : List Noted = noted_of i.tables.project i.workers i.entries.items in
    let e : Entry = record { conn = c.args.conn; act = c.args.act } in
    let r : IsReady i.tables.project i.workers i.limit noted e = ready i.tables.project i.workers i.limit i.entries.items e c.self.invariant.legal (subst (λ (b : LedgerView). Passes b e) (sym base) c.requires.passes) in
    let size : length noted ≡ length i.entries.items = lengths i.tables.project i.workers i.entries.items noted c.self.invariant.is_noted in
    let answered : length i.tables.answered ≡ length i.entries.items = answered_few i.tables i.imports i.entries i.workers i.limit noted c.self.invariant in
    r.unit

pub push-requires-clause-fresh : goal.push-requires-clause-fresh
push-requires-clause-fresh c opens =
    let i = c.self.inside in
    let base : made i.tables.project i.workers i.limit i.entries.items ≡ c.args.self.now = c.self.view_is ∙ c.at_once-said.ensures.same in
    let noted : List Noted = noted_of i.tables.project i.workers i.entries.items in
    let e : Entry = record { conn = c.args.conn; act = c.args.act } in
    let r : IsReady i.tables.project i.workers i.limit noted e = ready i.tables.project i.workers i.limit i.entries.items e c.self.invariant.legal (subst (λ (b : LedgerView). Passes b e) (sym base) c.requires.passes) in
    let size : length noted ≡ length i.entries.items = lengths i.tables.project i.workers i.entries.items noted c.self.invariant.is_noted in
    let answered : length i.tables.answered ≡ length i.entries.items = answered_few i.tables i.imports i.entries i.workers i.limit noted c.self.invariant in
    ap (λ (a : List Answered). has_gone a c.args.conn) c.self.invariant.is_answered ∙ r.fresh opens

pub note-requires-clause-rooms : goal.note-requires-clause-rooms
note-requires-clause-rooms c =
    let i = c.self.inside in
    let base : made i.tables.project i.workers i.limit i.entries.items ≡ c.args.self.now = c.self.view_is ∙ c.at_once-said.ensures.same in
    let noted : List Noted = noted_of i.tables.project i.workers i.entries.items in
    let e : Entry = record { conn = c.args.conn; act = c.args.act } in
    let r : IsReady i.tables.project i.workers i.limit noted e = ready i.tables.project i.workers i.limit i.entries.items e c.self.invariant.legal (subst (λ (b : LedgerView). Passes b e) (sym base) c.requires.passes) in
    let size : length noted ≡ length i.entries.items = lengths i.tables.project i.workers i.entries.items noted c.self.invariant.is_noted in
    let answered : length i.tables.answered ≡ length i.entries.items = answered_few i.tables i.imports i.entries i.workers i.limit noted c.self.invariant in
    let f = r.room in
    let few = waiting_few i.tables i.imports i.entries i.workers i.limit noted c.self.invariant in
    let h = c.self.invariant.has_import_room in
    let l = c.self.invariant.replies_len in
    (omega arith, omega arith)

pub note-requires-clause-conn : goal.note-requires-clause-conn
note-requires-clause-conn c =
    let i = c.self.inside in
    let base : made i.tables.project i.workers i.limit i.entries.items ≡ c.args.self.now = c.self.view_is ∙ c.at_once-said.ensures.same in
    let noted : List Noted = noted_of i.tables.project i.workers i.entries.items in
    let e : Entry = record { conn = c.args.conn; act = c.args.act } in
    let r : IsReady i.tables.project i.workers i.limit noted e = ready i.tables.project i.workers i.limit i.entries.items e c.self.invariant.legal (subst (λ (b : LedgerView). Passes b e) (sym base) c.requires.passes) in
    let size : length noted ≡ length i.entries.items = lengths i.tables.project i.workers i.entries.items noted c.self.invariant.is_noted in
    let answered : length i.tables.answered ≡ length i.entries.items = answered_few i.tables i.imports i.entries i.workers i.limit noted c.self.invariant in
    let room : is_done c.args.act ≡ false → c.args.conn < i.tables.room = λ no_end. (let l = r.conn no_end in let h = c.self.invariant.has_room in omega arith) in
    subst (λ (t : Tabled). is_done c.args.act ≡ false → c.args.conn < t.room) (sym c.push.ensures) room

pub note-requires-clause-waits : goal.note-requires-clause-waits
note-requires-clause-waits c =
    let i = c.self.inside in
    let base : made i.tables.project i.workers i.limit i.entries.items ≡ c.args.self.now = c.self.view_is ∙ c.at_once-said.ensures.same in
    let noted : List Noted = noted_of i.tables.project i.workers i.entries.items in
    let e : Entry = record { conn = c.args.conn; act = c.args.act } in
    let r : IsReady i.tables.project i.workers i.limit noted e = ready i.tables.project i.workers i.limit i.entries.items e c.self.invariant.legal (subst (λ (b : LedgerView). Passes b e) (sym base) c.requires.passes) in
    let size : length noted ≡ length i.entries.items = lengths i.tables.project i.workers i.entries.items noted c.self.invariant.is_noted in
    let answered : length i.tables.answered ≡ length i.entries.items = answered_few i.tables i.imports i.entries i.workers i.limit noted c.self.invariant in
    let said_is : c.at_once-said.result ≡ at_once i.tables.project noted c.args.conn c.args.act = c.at_once-said.ensures.said ∙ ap (λ (b : LedgerView). said_to b c.args.conn c.args.act) (sym base) in
    let place_is : c.len-place.result ≡ length i.entries.items = search rules in
    let push_is : c.push.new.self ≡ tables1 i.tables i.imports i.entries i.workers i.limit noted e = c.push.ensures ∙ ap (λ (s : Said). with_newest i.tables c.args.conn c.args.act s) said_is in
    let well : WaitsWell (at_once i.tables.project noted c.args.conn c.args.act) c.args.act (unit_count i.tables.project) = waits_well i.tables.project noted c.args.conn c.args.act (at_once i.tables.project noted c.args.conn c.args.act) (unit_count i.tables.project) refl r.unit in
    subst (λ (n : ℕ). WaitsWell c.at_once-said.result c.args.act n) (sym c.self.invariant.has_units) (subst (λ (x : Said). WaitsWell x c.args.act (unit_count i.tables.project)) (sym said_is) well)

pub note-requires-clause-no_circle : goal.note-requires-clause-no_circle
note-requires-clause-no_circle c unit waits =
    let i = c.self.inside in
    let base : made i.tables.project i.workers i.limit i.entries.items ≡ c.args.self.now = c.self.view_is ∙ c.at_once-said.ensures.same in
    let noted : List Noted = noted_of i.tables.project i.workers i.entries.items in
    let e : Entry = record { conn = c.args.conn; act = c.args.act } in
    let r : IsReady i.tables.project i.workers i.limit noted e = ready i.tables.project i.workers i.limit i.entries.items e c.self.invariant.legal (subst (λ (b : LedgerView). Passes b e) (sym base) c.requires.passes) in
    let size : length noted ≡ length i.entries.items = lengths i.tables.project i.workers i.entries.items noted c.self.invariant.is_noted in
    let answered : length i.tables.answered ≡ length i.entries.items = answered_few i.tables i.imports i.entries i.workers i.limit noted c.self.invariant in
    let said_is : c.at_once-said.result ≡ at_once i.tables.project noted c.args.conn c.args.act = c.at_once-said.ensures.said ∙ ap (λ (b : LedgerView). said_to b c.args.conn c.args.act) (sym base) in
    let place_is : c.len-place.result ≡ length i.entries.items = search rules in
    let push_is : c.push.new.self ≡ tables1 i.tables i.imports i.entries i.workers i.limit noted e = c.push.ensures ∙ ap (λ (s : Said). with_newest i.tables c.args.conn c.args.act s) said_is in
    let well : WaitsWell (at_once i.tables.project noted c.args.conn c.args.act) c.args.act (unit_count i.tables.project) = waits_well i.tables.project noted c.args.conn c.args.act (at_once i.tables.project noted c.args.conn c.args.act) (unit_count i.tables.project) refl r.unit in
    subst (λ (a : List Answered). ClosesNone (reverse i.imports.waiting) (held (who a c.args.conn)) unit) (sym (ap (λ (t : Tabled). t.answered) push_is)) (no_circle i.tables i.imports i.entries i.workers i.limit noted e c.self.invariant unit (sym said_is ∙ waits))

pub note-requires-clause-small : goal.note-requires-clause-small
note-requires-clause-small c = (let room = c.self.invariant.has_import_room in let small = c.self.invariant.small in search rules)

pub note-requires-clause-conns : goal.note-requires-clause-conns
note-requires-clause-conns c = c.self.invariant.has_conns ∙ sym (ap (λ (t : Tabled). t.room) c.push.ensures)

pub settle_stall-stalled-requires-clause-within : goal.settle_stall-stalled-requires-clause-within
settle_stall-stalled-requires-clause-within c =
    let i = c.self.inside in
    let base : made i.tables.project i.workers i.limit i.entries.items ≡ c.args.self.now = c.self.view_is ∙ c.at_once-said.ensures.same in
    let noted : List Noted = noted_of i.tables.project i.workers i.entries.items in
    let e : Entry = record { conn = c.args.conn; act = c.args.act } in
    let r : IsReady i.tables.project i.workers i.limit noted e = ready i.tables.project i.workers i.limit i.entries.items e c.self.invariant.legal (subst (λ (b : LedgerView). Passes b e) (sym base) c.requires.passes) in
    let size : length noted ≡ length i.entries.items = lengths i.tables.project i.workers i.entries.items noted c.self.invariant.is_noted in
    let answered : length i.tables.answered ≡ length i.entries.items = answered_few i.tables i.imports i.entries i.workers i.limit noted c.self.invariant in
    let room : is_done c.args.act ≡ false → c.args.conn < i.tables.room = λ no_end. (let l = r.conn no_end in let h = c.self.invariant.has_room in omega arith) in
    let said_is : c.at_once-said.result ≡ at_once i.tables.project noted c.args.conn c.args.act = c.at_once-said.ensures.said ∙ ap (λ (b : LedgerView). said_to b c.args.conn c.args.act) (sym base) in
    let place_is : c.len-place.result ≡ length i.entries.items = search rules in
    let push_is : c.push.new.self ≡ tables1 i.tables i.imports i.entries i.workers i.limit noted e = c.push.ensures ∙ ap (λ (s : Said). with_newest i.tables c.args.conn c.args.act s) said_is in
    let note_is : c.note.new.self ≡ imports1 i.tables i.imports i.entries i.workers i.limit noted e = c.note.ensures ∙ (λ j. with_note i.imports (said_is j) (place_is j) c.args.conn ((push_is j).answered)) in
    let well : WaitsWell (at_once i.tables.project noted c.args.conn c.args.act) c.args.act (unit_count i.tables.project) = waits_well i.tables.project noted c.args.conn c.args.act (at_once i.tables.project noted c.args.conn c.args.act) (unit_count i.tables.project) refl r.unit in
    are_within i.tables i.imports i.entries i.workers i.limit noted e c.self.invariant well room c.push.new.self c.note.new.self push_is note_is

pub settle_stall-stalled-requires-clause-idle : goal.settle_stall-stalled-requires-clause-idle
settle_stall-stalled-requires-clause-idle c none =
    let i = c.self.inside in
    let base : made i.tables.project i.workers i.limit i.entries.items ≡ c.args.self.now = c.self.view_is ∙ c.at_once-said.ensures.same in
    let noted : List Noted = noted_of i.tables.project i.workers i.entries.items in
    let e : Entry = record { conn = c.args.conn; act = c.args.act } in
    let r : IsReady i.tables.project i.workers i.limit noted e = ready i.tables.project i.workers i.limit i.entries.items e c.self.invariant.legal (subst (λ (b : LedgerView). Passes b e) (sym base) c.requires.passes) in
    let size : length noted ≡ length i.entries.items = lengths i.tables.project i.workers i.entries.items noted c.self.invariant.is_noted in
    let answered : length i.tables.answered ≡ length i.entries.items = answered_few i.tables i.imports i.entries i.workers i.limit noted c.self.invariant in
    let room : is_done c.args.act ≡ false → c.args.conn < i.tables.room = λ no_end. (let l = r.conn no_end in let h = c.self.invariant.has_room in omega arith) in
    let said_is : c.at_once-said.result ≡ at_once i.tables.project noted c.args.conn c.args.act = c.at_once-said.ensures.said ∙ ap (λ (b : LedgerView). said_to b c.args.conn c.args.act) (sym base) in
    let place_is : c.len-place.result ≡ length i.entries.items = search rules in
    let push_is : c.push.new.self ≡ tables1 i.tables i.imports i.entries i.workers i.limit noted e = c.push.ensures ∙ ap (λ (s : Said). with_newest i.tables c.args.conn c.args.act s) said_is in
    let note_is : c.note.new.self ≡ imports1 i.tables i.imports i.entries i.workers i.limit noted e = c.note.ensures ∙ (λ j. with_note i.imports (said_is j) (place_is j) c.args.conn ((push_is j).answered)) in
    let well : WaitsWell (at_once i.tables.project noted c.args.conn c.args.act) c.args.act (unit_count i.tables.project) = waits_well i.tables.project noted c.args.conn c.args.act (at_once i.tables.project noted c.args.conn c.args.act) (unit_count i.tables.project) refl r.unit in
    idle_first i.tables i.imports i.entries i.workers i.limit noted e c.self.invariant r.passing c.push.new.self c.note.new.self push_is note_is (sym (c.may_end-ends.ensures ∙ ap (λ (x : Said). may_end_unit (with_said e x)) said_is) ∙ none)

pub settle-requires-clause-within : goal.settle-requires-clause-within
settle-requires-clause-within c =
    let i = c.self.inside in
    let base : made i.tables.project i.workers i.limit i.entries.items ≡ c.args.self.now = c.self.view_is ∙ c.at_once-said.ensures.same in
    let noted : List Noted = noted_of i.tables.project i.workers i.entries.items in
    let e : Entry = record { conn = c.args.conn; act = c.args.act } in
    let r : IsReady i.tables.project i.workers i.limit noted e = ready i.tables.project i.workers i.limit i.entries.items e c.self.invariant.legal (subst (λ (b : LedgerView). Passes b e) (sym base) c.requires.passes) in
    let size : length noted ≡ length i.entries.items = lengths i.tables.project i.workers i.entries.items noted c.self.invariant.is_noted in
    let answered : length i.tables.answered ≡ length i.entries.items = answered_few i.tables i.imports i.entries i.workers i.limit noted c.self.invariant in
    let room : is_done c.args.act ≡ false → c.args.conn < i.tables.room = λ no_end. (let l = r.conn no_end in let h = c.self.invariant.has_room in omega arith) in
    let said_is : c.at_once-said.result ≡ at_once i.tables.project noted c.args.conn c.args.act = c.at_once-said.ensures.said ∙ ap (λ (b : LedgerView). said_to b c.args.conn c.args.act) (sym base) in
    let place_is : c.len-place.result ≡ length i.entries.items = search rules in
    let push_is : c.push.new.self ≡ tables1 i.tables i.imports i.entries i.workers i.limit noted e = c.push.ensures ∙ ap (λ (s : Said). with_newest i.tables c.args.conn c.args.act s) said_is in
    let note_is : c.note.new.self ≡ imports1 i.tables i.imports i.entries i.workers i.limit noted e = c.note.ensures ∙ (λ j. with_note i.imports (said_is j) (place_is j) c.args.conn ((push_is j).answered)) in
    let well : WaitsWell (at_once i.tables.project noted c.args.conn c.args.act) c.args.act (unit_count i.tables.project) = waits_well i.tables.project noted c.args.conn c.args.act (at_once i.tables.project noted c.args.conn c.args.act) (unit_count i.tables.project) refl r.unit in
    all_within_by i.tables i.imports i.entries i.workers i.limit noted e c.self.invariant well c.push.new.self c.settle_stall-stalled.new.tables c.note.new.self push_is note_is c.settle_stall-stalled.ensures.same

pub settle-requires-clause-idle : goal.settle-requires-clause-idle
settle-requires-clause-idle c stays =
    let i = c.self.inside in
    let base : made i.tables.project i.workers i.limit i.entries.items ≡ c.args.self.now = c.self.view_is ∙ c.at_once-said.ensures.same in
    let noted : List Noted = noted_of i.tables.project i.workers i.entries.items in
    let e : Entry = record { conn = c.args.conn; act = c.args.act } in
    let r : IsReady i.tables.project i.workers i.limit noted e = ready i.tables.project i.workers i.limit i.entries.items e c.self.invariant.legal (subst (λ (b : LedgerView). Passes b e) (sym base) c.requires.passes) in
    let size : length noted ≡ length i.entries.items = lengths i.tables.project i.workers i.entries.items noted c.self.invariant.is_noted in
    let answered : length i.tables.answered ≡ length i.entries.items = answered_few i.tables i.imports i.entries i.workers i.limit noted c.self.invariant in
    let said_is : c.at_once-said.result ≡ at_once i.tables.project noted c.args.conn c.args.act = c.at_once-said.ensures.said ∙ ap (λ (b : LedgerView). said_to b c.args.conn c.args.act) (sym base) in
    let place_is : c.len-place.result ≡ length i.entries.items = search rules in
    let push_is : c.push.new.self ≡ tables1 i.tables i.imports i.entries i.workers i.limit noted e = c.push.ensures ∙ ap (λ (s : Said). with_newest i.tables c.args.conn c.args.act s) said_is in
    let note_is : c.note.new.self ≡ imports1 i.tables i.imports i.entries i.workers i.limit noted e = c.note.ensures ∙ (λ j. with_note i.imports (said_is j) (place_is j) c.args.conn ((push_is j).answered)) in
    let well : WaitsWell (at_once i.tables.project noted c.args.conn c.args.act) c.args.act (unit_count i.tables.project) = waits_well i.tables.project noted c.args.conn c.args.act (at_once i.tables.project noted c.args.conn c.args.act) (unit_count i.tables.project) refl r.unit in
    let gives : (unit : ℕ) → get_or c.settle_stall-stalled.new.tables.given unit false ≡ (get_or c.push.new.self.given unit false || (is_stalled_in c.push.new.self i.workers c.note.new.self.waiting && list_any (λ w. w.unit == unit && gives_up c.push.new.self w) c.note.new.self.waiting)) = c.settle_stall-stalled.ensures.given in
    let stall_is : c.settle_stall-stalled.result ≡ is_stalled_in c.push.new.self i.workers c.note.new.self.waiting = c.settle_stall-stalled.ensures.stalled in
    idle_by i.tables i.imports i.entries i.workers i.limit noted e c.self.invariant r.passing c.push.new.self c.settle_stall-stalled.new.tables c.note.new.self c.settle_stall-stalled.result c.may_end.result push_is note_is c.settle_stall-stalled.ensures.same gives stall_is (c.may_end.ensures ∙ ap (λ (x : Said). c.settle_stall-stalled.result || may_end_unit (with_said e x)) said_is) stays

pub leave-requires-clause-conn : goal.leave-requires-clause-conn
leave-requires-clause-conn c =
    let i = c.self.inside in
    let base : made i.tables.project i.workers i.limit i.entries.items ≡ c.args.self.now = c.self.view_is ∙ c.at_once-said.ensures.same in
    let noted : List Noted = noted_of i.tables.project i.workers i.entries.items in
    let e : Entry = record { conn = c.args.conn; act = c.args.act } in
    let r : IsReady i.tables.project i.workers i.limit noted e = ready i.tables.project i.workers i.limit i.entries.items e c.self.invariant.legal (subst (λ (b : LedgerView). Passes b e) (sym base) c.requires.passes) in
    let size : length noted ≡ length i.entries.items = lengths i.tables.project i.workers i.entries.items noted c.self.invariant.is_noted in
    let answered : length i.tables.answered ≡ length i.entries.items = answered_few i.tables i.imports i.entries i.workers i.limit noted c.self.invariant in
    let room : is_done c.args.act ≡ false → c.args.conn < i.tables.room = λ no_end. (let l = r.conn no_end in let h = c.self.invariant.has_room in omega arith) in
    subst (λ (t : Tabled). is_done c.args.act ≡ false → c.args.conn < t.room) (sym (c.settle_stall-stalled.ensures.same)) (subst (λ (t : Tabled). is_done c.args.act ≡ false → c.args.conn < t.room) (sym c.push.ensures) room)

pub leave-requires-clause-tied : goal.leave-requires-clause-tied
leave-requires-clause-tied c =
    let i = c.self.inside in
    let base : made i.tables.project i.workers i.limit i.entries.items ≡ c.args.self.now = c.self.view_is ∙ c.at_once-said.ensures.same in
    let noted : List Noted = noted_of i.tables.project i.workers i.entries.items in
    let e : Entry = record { conn = c.args.conn; act = c.args.act } in
    let r : IsReady i.tables.project i.workers i.limit noted e = ready i.tables.project i.workers i.limit i.entries.items e c.self.invariant.legal (subst (λ (b : LedgerView). Passes b e) (sym base) c.requires.passes) in
    let size : length noted ≡ length i.entries.items = lengths i.tables.project i.workers i.entries.items noted c.self.invariant.is_noted in
    let answered : length i.tables.answered ≡ length i.entries.items = answered_few i.tables i.imports i.entries i.workers i.limit noted c.self.invariant in
    let said_is : c.at_once-said.result ≡ at_once i.tables.project noted c.args.conn c.args.act = c.at_once-said.ensures.said ∙ ap (λ (b : LedgerView). said_to b c.args.conn c.args.act) (sym base) in
    let place_is : c.len-place.result ≡ length i.entries.items = search rules in
    let push_is : c.push.new.self ≡ tables1 i.tables i.imports i.entries i.workers i.limit noted e = c.push.ensures ∙ ap (λ (s : Said). with_newest i.tables c.args.conn c.args.act s) said_is in
    let note_is : c.note.new.self ≡ imports1 i.tables i.imports i.entries i.workers i.limit noted e = c.note.ensures ∙ (λ j. with_note i.imports (said_is j) (place_is j) c.args.conn ((push_is j).answered)) in
    let well : WaitsWell (at_once i.tables.project noted c.args.conn c.args.act) c.args.act (unit_count i.tables.project) = waits_well i.tables.project noted c.args.conn c.args.act (at_once i.tables.project noted c.args.conn c.args.act) (unit_count i.tables.project) refl r.unit in
    tied_by i.tables i.imports i.entries i.workers i.limit noted e c.self.invariant r.passing c.push.new.self c.settle_stall-stalled.new.tables c.note.new.self c.settle.new.self push_is note_is c.settle_stall-stalled.ensures.same c.settle.ensures.waiting

pub push_reserved-requires : goal.push_reserved-requires
push_reserved-requires c =
    let i = c.self.inside in
    let base : made i.tables.project i.workers i.limit i.entries.items ≡ c.args.self.now = c.self.view_is ∙ c.at_once-said.ensures.same in
    let noted : List Noted = noted_of i.tables.project i.workers i.entries.items in
    let e : Entry = record { conn = c.args.conn; act = c.args.act } in
    let r : IsReady i.tables.project i.workers i.limit noted e = ready i.tables.project i.workers i.limit i.entries.items e c.self.invariant.legal (subst (λ (b : LedgerView). Passes b e) (sym base) c.requires.passes) in
    let size : length noted ≡ length i.entries.items = lengths i.tables.project i.workers i.entries.items noted c.self.invariant.is_noted in
    let answered : length i.tables.answered ≡ length i.entries.items = answered_few i.tables i.imports i.entries i.workers i.limit noted c.self.invariant in
    let f = r.room in
    let p = c.self.invariant.has_entry_room in
    omega arith

pub invariant_of-self : goal.invariant_of-self
invariant_of-self c =
    let i = c.self.inside in
    let base : made i.tables.project i.workers i.limit i.entries.items ≡ c.args.self.now = c.self.view_is ∙ c.at_once-said.ensures.same in
    let noted : List Noted = noted_of i.tables.project i.workers i.entries.items in
    let e : Entry = record { conn = c.args.conn; act = c.args.act } in
    let r : IsReady i.tables.project i.workers i.limit noted e = ready i.tables.project i.workers i.limit i.entries.items e c.self.invariant.legal (subst (λ (b : LedgerView). Passes b e) (sym base) c.requires.passes) in
    let size : length noted ≡ length i.entries.items = lengths i.tables.project i.workers i.entries.items noted c.self.invariant.is_noted in
    let answered : length i.tables.answered ≡ length i.entries.items = answered_few i.tables i.imports i.entries i.workers i.limit noted c.self.invariant in
    let room : is_done c.args.act ≡ false → c.args.conn < i.tables.room = λ no_end. (let l = r.conn no_end in let h = c.self.invariant.has_room in omega arith) in
    let said_is : c.at_once-said.result ≡ at_once i.tables.project noted c.args.conn c.args.act = c.at_once-said.ensures.said ∙ ap (λ (b : LedgerView). said_to b c.args.conn c.args.act) (sym base) in
    let place_is : c.len-place.result ≡ length i.entries.items = search rules in
    let push_is : c.push.new.self ≡ tables1 i.tables i.imports i.entries i.workers i.limit noted e = c.push.ensures ∙ ap (λ (s : Said). with_newest i.tables c.args.conn c.args.act s) said_is in
    let note_is : c.note.new.self ≡ imports1 i.tables i.imports i.entries i.workers i.limit noted e = c.note.ensures ∙ (λ j. with_note i.imports (said_is j) (place_is j) c.args.conn ((push_is j).answered)) in
    let well : WaitsWell (at_once i.tables.project noted c.args.conn c.args.act) c.args.act (unit_count i.tables.project) = waits_well i.tables.project noted c.args.conn c.args.act (at_once i.tables.project noted c.args.conn c.args.act) (unit_count i.tables.project) refl r.unit in
    let gives : (unit : ℕ) → get_or c.settle_stall-stalled.new.tables.given unit false ≡ (get_or c.push.new.self.given unit false || (is_stalled_in c.push.new.self i.workers c.note.new.self.waiting && list_any (λ w. w.unit == unit && gives_up c.push.new.self w) c.note.new.self.waiting)) = c.settle_stall-stalled.ensures.given in
    stands_by i.tables i.imports i.entries i.workers i.limit noted e c.self.invariant r.passing c.requires.whole c.push.new.self c.settle_stall-stalled.new.tables c.note.new.self c.settle.new.self c.leave.new.self c.push_reserved.new.self push_is note_is c.settle_stall-stalled.ensures.same gives c.settle.ensures.waiting c.settle.ensures.replies c.settle.ensures.answered c.settle.ensures.conns c.settle.ensures.kept c.leave.ensures c.push_reserved.ensures.items (search rules) well room
