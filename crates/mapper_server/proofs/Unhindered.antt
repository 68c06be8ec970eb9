-- Where nothing hinders, a link that is served alone closes.
use Rattle.std.proofs.Common.{◌≡◌, ◌≢◌, inl, inr, ℕ, ◌+◌, ◌-◌, ◌≤◌, List, [], ◌∷◌, ◌++◌, length, take, Option, Some, None, refl, sym, ap, ◌∙◌, arith}
use Rattle.std.specs.Prelude.{IsSomeAnd}
use Rattle.std.proofs.lemmas.List.{append-nil, length-append, take_all}
use Rattle.mm_outside.specs.Octets.{Octets}
use Rattle.mm_outside.specs.Told.{Told}
use Rattle.cody_batches.specs.Blocks.{held, taken}
use Rattle.unit_registry.specs.declared.act.Act.{Act as Acts}
use Rattle.unit_registry.specs.declared.act.Act.TheVariants.{Lost}
use Rattle.unit_registry.specs.Projects.{ProjectView}
use Rattle.connection_core.specs.declared.conn_end.ConnEnd.{ConnEnd}
use Rattle.connection_core.specs.declared.conn_end.ConnEnd.TheVariants.{Closed, Truncated, ReadFault, WriteFault, TooLong, BatchTooLong, HistoryFull}
use Rattle.connection_core.specs.Asking.{acts}
use Rattle.connection_core.specs.Alone.{solo}
use Rattle.connection_core.specs.Ends.{Filled, HasCauses, whole_course}
use Rattle.connection_core.specs.Serving.{ServesAlone}
use Rattle.mapper_server.specs.Complete.{FitsAlone, NothingHindersOne}
use Rattle.mapper_server.proofs.Alone.{acts_behind, gone_course}
use Rattle.mapper_server.proofs.Completes.{enters_less, read_within, some_missing}

courses_same : (asked other : List Acts) → whole_course asked Lost ≡ whole_course other Lost → length asked ≡ length other
courses_same asked other e = omega (arith, ap length e, length-append asked (Lost ∷ []), length-append other (Lost ∷ []))

-- where all fits, the history isn't full
pub never_full : (project : ProjectView) (limit : ℕ) (read written : List ℕ) → length (acts project (taken read)) + 3 ≤ limit → Filled project 1 limit (solo project limit read written 9) 0 (taken read) written → ⊥
never_full project limit read written fits filled =
    let asked : List Acts = acts project (taken read) in
    let all : take (limit - 3) asked ≡ asked = take_all (limit - 3) asked (omega (arith, fits)) in
    let front : List Acts = acts project filled.before ++ filled.part in
    let same : length (take (limit - 3) asked) ≡ length front = courses_same (take (limit - 3) asked) front (sym (gone_course (take (limit - 3) asked) Lost) ∙ filled.entries) in
    let whole : asked ≡ acts project filled.before ++ ((filled.part ++ filled.missing) ++ acts project filled.behind) =
    ap (acts project) filled.are ∙ acts_behind project filled.before (filled.block ∷ filled.behind)
    ∙ ap (λ (own : List Acts). acts project filled.before ++ (own ++ acts project filled.behind)) filled.block_enters in
    omega (
      arith,
      same,
      ap length all,
      ap length whole,
      some_missing filled.missing filled.proper,
      length-append (acts project filled.before) filled.part,
      length-append (acts project filled.before) ((filled.part ++ filled.missing) ++ acts project filled.behind),
      length-append (filled.part ++ filled.missing) (acts project filled.behind),
      length-append filled.part filled.missing,
    )

-- how a whole input ends where no read and no write has failed
ends_closed : (project : ProjectView) (entries : ℕ) (how : ConnEnd) (before now : Octets) → FitsAlone project entries before → how ≢ ReadFault → how ≢ WriteFault → ServesAlone project entries how before now → how ≡ Closed
ends_closed project entries Closed before now whole read write s = refl
ends_closed project entries (Truncated lines) before now whole read write s =
    let text : before.to_come ≡ s.read = s.moves.to_come_was ∙ ap (λ xs. s.read ++ xs) s.served.ends.1.over ∙ append-nil s.read in
    absurd (omega (arith, s.served.ends.3, s.served.ends.2, ap held text, whole.whole.none_held))
ends_closed project entries ReadFault before now whole read write s = absurd (read refl)
ends_closed project entries WriteFault before now whole read write s = absurd (write refl)
ends_closed project entries TooLong before now whole read write s = absurd (read_within before.to_come s.read now.to_come whole.whole.within s.moves.to_come_was (inl s.served.ends.1))
ends_closed project entries BatchTooLong before now whole read write s = absurd (read_within before.to_come s.read now.to_come whole.whole.within s.moves.to_come_was (inr s.served.ends.1))
ends_closed project entries (HistoryFull count kept) before now whole read write s =
    absurd (never_full project entries s.read s.written (omega (arith, whole.fits, enters_less project before.to_come s.read now.to_come whole.whole.within s.moves.to_come_was)) s.served.ends.0)

pub told_closed : (project : ProjectView) (entries : ℕ) (how : ConnEnd) (before now : Option Octets) → IsSomeAnd before (FitsAlone project entries) → how ≢ ReadFault → how ≢ WriteFault → Told (ServesAlone project entries how) before now → how ≡ Closed
told_closed project entries how None now known read write told = absurd known
told_closed project entries how (Some before) None known read write told = absurd told.so
told_closed project entries how (Some before) (Some now) known read write told = ends_closed project entries how before now known read write told.so

-- and so it closes where nothing hinders
pub unhindered_closes : (project : ProjectView) (entries : ℕ) (how : ConnEnd) (before now : Option Octets) (reads_before reads_now writes_before writes_now : ℕ)
    → NothingHindersOne project entries before reads_before reads_now writes_before writes_now → HasCauses reads_before reads_now writes_before writes_now how → Told (ServesAlone project entries how) before now → how ≡ Closed
unhindered_closes project entries how before now reads_before reads_now writes_before writes_now none causes told =
    told_closed project entries how before now none.fits (λ e. none.reads_stood (causes.read e)) (λ e. none.writes_stood (causes.write e)) told
