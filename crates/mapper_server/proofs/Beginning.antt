-- A connection that has just opened, at a session that was just reset to it.
use Rattle.std.proofs.Common.{◌≡◌, [], Some, refl, sym, ap, subst, arith}
use Rattle.std.proofs.lemmas.List.{append-nil}
use Rattle.mm_outside.specs.Octets.{Octets}
use Rattle.unit_registry.specs.Projects.{ProjectView}
use Rattle.registry_core.specs.Desks.{DeskState}
use Rattle.connection_core.specs.declared.block_reader.Stage.{Stage}
use Rattle.connection_core.specs.declared.block_reader.Stage.TheVariants as stage
use Rattle.connection_core.specs.Sessions.{SessionState, ended}
use Rattle.connection_core.specs.Standing.{end_in}
use Rattle.mapper_server.specs.Serving.{HasOpened, IsAnew}
use Rattle.mapper_server.specs.Steps.{AwaitsIn, Course, IsGoing, Serving, Stands, answered_in}
use Rattle.mapper_server.proofs.Courses.{course_begins}

module _ {Item : Type 0} (project : ProjectView) (s : SessionState Item) (anew : IsAnew project s.conn s) where
  pub reads_anew : s.reader.stage ≡ stage.Reading
  reads_anew = by s.reader.stage refl
    where
      by : (at : Stage) → s.reader.stage ≡ at → s.reader.stage ≡ stage.Reading
      by stage.Reading e = e
      by stage.Waiting e = absurd (anew.idle e)
      by (stage.Ended how) e = let ended_is : ended s ≡ Some how = ap end_in e in let going = anew.going in absurd cc

  stands_anew : {Held : Type 0} (desk : DeskState Held) → HasOpened s.conn desk → Stands project desk.seen.entries s []
  stands_anew desk opened = record {
    stands = anew.stands;
    entries = opened.only;
    waiting = subst (λ (at : Stage). AwaitsIn at project desk.seen.entries s []) (sym reads_anew) tt;
  }

  pub going_anew : {Held : Type 0} (desk : DeskState Held) → HasOpened s.conn desk → IsGoing project desk.seen.entries s
  going_anew desk opened = record { going = anew.going; few = omega (arith, anew.stands.count); no_item = anew.no_item; fed = []; stands = stands_anew desk opened }

  pub serving_anew : {Held : Type 0} (desk : DeskState Held) (start : Octets) → HasOpened s.conn desk → Serving project s desk [] start start
  serving_anew desk start opened = record {
    fed = [];
    written = [];
    moves = record { read_are = sym (append-nil start.read); to_come_was = refl; written_are = sym (append-nil start.written) };
    stands = stands_anew desk opened;
    course = subst (λ (at : Stage). Course project desk.seen.workers desk.seen.entries s.conn (answered_in at []) []) (sym reads_anew) (course_begins project desk.seen.workers s.conn desk.seen.entries);
  }
