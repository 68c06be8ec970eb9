use Rattle.connection_core.proofs.tests.sessions_wait.Goals as goal

pub waits_for_report-requires : goal.waits_for_report-requires
waits_for_report-requires g c = record {
  anew = c.in_ok-first.ensures.stands c.args.project.now;
  reading = c.in_ok-first.ensures.reading;
  none = c.in_ok-first.ensures.stash;
  conn = c.in_ok-first.ensures.conn;
  second_anew = c.reset.ensures.stands c.args.project.now;
  second_reading = c.reset.ensures.reading;
  second_none = c.reset.ensures.stash;
  second_conn = c.reset.ensures.conn;
  opened = c.requires.opened;
  dones = c.requires.dones;
  share = c.requires.share;
  room = c.requires.room;
  project = c.requires.project;
}
