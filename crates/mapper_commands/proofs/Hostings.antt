-- What a run that serves many connections comes to.
use Rattle.std.proofs.Common.{◌≡◌, ◌≢◌, ◌⊎◌, inl, inr, ℕ, List, [], ◌∷◌, ◌++◌, map, length, Option, Some, None, Result, Ok, Err, IfSome, IfErr, IfOk, refl, sym, ap, subst, ◌∙◌, arith}
use Rattle.std.specs.Prelude.{String, Vec, string_bytes, vec_len}
use Rattle.std.specs.declared.alloc.Global.{Global}
use Rattle.std.proofs.lemmas.List.{append-nil}
use Rattle.mm_outside.specs.Causes.{Rose}
use Rattle.mm_outside.specs.Files.{Lookup}
use Rattle.mm_outside.specs.House.{Binds, Stock, TakesBack}
use Rattle.mm_outside.specs.Hall.{Links}
use Rattle.mm_outside.specs.Octets.{Octets}
use Rattle.mm_outside.specs.Told.{Told}
use Rattle.mm_outside.proofs.ToldLemmas.{Told-map, Told-then}
use Rattle.unit_registry.specs.Projects.{ProjectView}
use Rattle.mapper_server.specs.Complete.{NothingHinders}
use Rattle.mapper_server.specs.Headline.{IsOf}
use Rattle.mapper_server.specs.Statuses.{IsServingStatus}
use Rattle.mapper_commands.specs.Commands.{ServeWords, AsksToServe, AsksNotToServe}
use Rattle.mapper_commands.specs.Endings.{Ended, OutOfMemory, CannotRead, Ends, Output, Tells, status_of, told_by}
use Rattle.mapper_commands.specs.declared.ending.Ending.{Ending}
use Rattle.mapper_commands.specs.Hosting.{Around, request_of, HandsBack, HasProject, Hosts, Lends, KeepsFiles, KeepsHouse, LacksProject, NamesProject, NoneFailed, ReadsProject, RunsSo, ServesAll, ServesSo, StopsSo, refused, unopened, no_memory, nothing, stopped, served}
use Rattle.mapper_commands.specs.HostSteps.{OpensNone, ServesAt, ServesHalls}
use Rattle.mapper_commands.specs.ProjectFiles.{FindsProject, IsReadAs}
use Rattle.mapper_commands.specs.Running.{HasStood}
use Rattle.mapper_commands.proofs.FileLemmas.{told_before, told_project, told_project_taken}
use Rattle.mapper_commands.proofs.PrintLemmas.{ends_as, six_speaks}
use Rattle.mapper_commands.proofs.ServeForms.{one_serve}
use Rattle.mapper_commands.proofs.Statuses.{differ, file_four, of_file, reads_kept}

-- a status that serving ends with isn't one that says why nothing was served
serves_apart : (status : ℕ) → IsServingStatus status → (status ≢ 2) × (status ≢ 3) × (status ≢ 6)
serves_apart status (inl e) = (λ t. omega (arith, e, t), λ t. omega (arith, e, t), λ t. omega (arith, e, t))
serves_apart status (inr (inl e)) = (λ t. omega (arith, e, t), λ t. omega (arith, e, t), λ t. omega (arith, e, t))
serves_apart status (inr (inr (inl e))) = (λ t. omega (arith, e, t), λ t. omega (arith, e, t), λ t. omega (arith, e, t))
serves_apart status (inr (inr (inr (inl e)))) = (λ t. omega (arith, e, t), λ t. omega (arith, e, t), λ t. omega (arith, e, t))
serves_apart status (inr (inr (inr (inr (inl e))))) = (λ t. omega (arith, e, t), λ t. omega (arith, e, t), λ t. omega (arith, e, t))
serves_apart status (inr (inr (inr (inr (inr e))))) = (λ t. omega (arith, e, t), λ t. omega (arith, e, t), λ t. omega (arith, e, t))

-- the house gave no hall
pub none_given : {H C : Type 0} (before now : Stock H C) → before.halls ≡ now.halls → now.halls_back ≡ before.halls_back → HandsBack before now
none_given before now given back = record { halls = []; given = given; taken_back = back ∙ sym (append-nil before.halls_back) }

module _ {H L C : Type 0} (around : Around H L C) where
  -- no hall was given where the house was asked for nothing
  pub house_hands_back : KeepsHouse around → Told HandsBack around.house_before around.house_now
  house_hands_back house = Told-map (λ x y same. none_given x y (ap (λ (s : Stock H C). s.halls) (sym same)) (ap (λ (s : Stock H C). s.halls_back) same)) house.stock

  -- ---- a run that accepts no link

  module _ (serve : ServeWords) where
    stop_status : (ended : Ended) → StopsSo around serve ended → (status_of ended ≡ 3) ⊎ ((status_of ended ≡ 4) ⊎ (status_of ended ≡ 6))
    stop_status ended (refused kind reads keeps house) = of_file ended kind
    stop_status ended (unopened project reads kept stock rose is) = inr (inl (ap status_of is))
    stop_status ended (no_memory files back is) = inl (ap status_of is)

    stop_two : (ended : Ended) → StopsSo around serve ended → status_of ended ≢ 2
    stop_two ended stops two = by (stop_status ended stops)
      where
        by : (status_of ended ≡ 3) ⊎ ((status_of ended ≡ 4) ⊎ (status_of ended ≡ 6)) → ⊥
        by (inl e) = differ (status_of ended) 3 2 (λ d. omega (arith, d)) e two
        by (inr (inl e)) = differ (status_of ended) 4 2 (λ d. omega (arith, d)) e two
        by (inr (inr e)) = differ (status_of ended) 6 2 (λ d. omega (arith, d)) e two

    stop_files : (ended : Ended) → StopsSo around serve ended → KeepsFiles around
    stop_files ended (refused kind reads keeps house) = Told-map (λ x y stay. stay.same) reads
    stop_files ended (unopened project reads kept stock rose is) = Told-map (λ x y stay. stay.same) reads
    stop_files ended (no_memory files back is) = files

    -- memory may be wanted for a message
    pub stop_memory : (ended : Ended) → StopsSo around serve ended → StopsSo around serve OutOfMemory
    stop_memory ended (refused kind reads keeps house) = no_memory (Told-map (λ x y stay. stay.same) reads) (house_hands_back house) refl
    stop_memory ended (unopened project reads kept stock rose is) = no_memory (Told-map (λ x y stay. stay.same) reads) (Told-map (λ x y same. none_given x y (ap (λ (s : Stock H C). s.halls) (sym same)) (ap (λ (s : Stock H C). s.halls_back) same)) stock) refl
    stop_memory ended (no_memory files back is) = no_memory files back refl

    stop_back : (ended : Ended) → StopsSo around serve ended → status_of ended ≡ 3 → Told HandsBack around.house_before around.house_now
    stop_back ended (refused kind reads keeps house) three = house_hands_back house
    stop_back ended (unopened project reads kept stock rose is) three = absurd (differ (status_of ended) 4 3 (λ d. omega (arith, d)) (ap status_of is) three)
    stop_back ended (no_memory files back is) three = back

    stop_unfailing : (ended : Ended) → StopsSo around serve ended → status_of ended ≢ 3 → status_of ended ≢ 4 → NoneFailed around
    stop_unfailing ended (refused kind reads keeps house) three four = record { reads = reads_kept ended around.reads_before around.reads_now keeps three four; house = house.faults }
    stop_unfailing ended (unopened project reads kept stock rose is) three four = absurd (four (ap status_of is))
    stop_unfailing ended (no_memory files back is) three four = absurd (three (ap status_of is))

    -- the project file that is declared is taken, and no hall is wanting without a fault
    stop_hosts : (project : ProjectView) (ended : Ended) → HasProject around.files_before serve.project project → HasStood around.reads_before around.reads_now → HasStood around.faults_before around.faults_now → StopsSo around serve ended → status_of ended ≡ 3
    stop_hosts project ended has no_read no_fault (refused kind reads keeps house) = ap status_of (told_project_taken (Rose around.reads_before around.reads_now) no_read serve.project project ended around.files_before around.files_now has reads)
    stop_hosts project ended has no_read no_fault (unopened other reads kept stock rose is) = absurd (no_fault rose)
    stop_hosts project ended has no_read no_fault (no_memory files back is) = ap status_of is

    lacks : (named : List ℕ) → ReadsProject around serve.project (Err (CannotRead named)) → IfSome around.files_before (λ content. content serve.project ≡ None) ⊎ Rose around.reads_before around.reads_now
    lacks named = by around.files_before around.files_now
      where
        by : (before now : Option Lookup) → Told (FindsProject (Rose around.reads_before around.reads_now) serve.project (Err (CannotRead named))) before now → IfSome before (λ content. content serve.project ≡ None) ⊎ Rose around.reads_before around.reads_now
        by None now told = inl tt
        by (Some before) None told = absurd told.so
        by (Some before) (Some now) told = told.so.so.cause

    stop_four : (ended : Ended) → StopsSo around serve ended → status_of ended ≡ 4 → IfSome around.files_before (λ content. content serve.project ≡ None) ⊎ (Rose around.reads_before around.reads_now ⊎ Rose around.faults_before around.faults_now)
    stop_four ended (refused kind reads keeps house) four =
        let named = file_four ended kind four in
        first (lacks named.0 (subst (λ e. ReadsProject around serve.project (Err e)) named.1 reads))
      where
        first : IfSome around.files_before (λ content. content serve.project ≡ None) ⊎ Rose around.reads_before around.reads_now → IfSome around.files_before (λ content. content serve.project ≡ None) ⊎ (Rose around.reads_before around.reads_now ⊎ Rose around.faults_before around.faults_now)
        first (inl absent) = inl absent
        first (inr rose) = inr (inl rose)
    stop_four ended (unopened project reads kept stock rose is) four = inr (inr rose)
    stop_four ended (no_memory files back is) four = absurd (differ (status_of ended) 3 4 (λ d. omega (arith, d)) (ap status_of is) four)

    stop_six : (ended : Ended) → StopsSo around serve ended → status_of ended ≡ 6 → IfSome around.files_before (λ content. IsReadAs (Rose around.reads_before around.reads_now) serve.project (Err ended) (content serve.project))
    stop_six ended (refused kind reads keeps house) six = told_before {R = FindsProject (Rose around.reads_before around.reads_now) serve.project (Err ended)} (λ content. IsReadAs (Rose around.reads_before around.reads_now) serve.project (Err ended) (content serve.project)) (λ x y stay. stay.so) around.files_before around.files_now reads
    stop_six ended (unopened project reads kept stock rose is) six = absurd (differ (status_of ended) 4 6 (λ d. omega (arith, d)) (ap status_of is) six)
    stop_six ended (no_memory files back is) six = absurd (differ (status_of ended) 3 6 (λ d. omega (arith, d)) (ap status_of is) six)

  -- the project was read, and the house gave no hall or memory was wanted
  pub stops_at : (serve : ServeWords) (project : ProjectView) (result : Result ℕ Ending) → ReadsProject around serve.project (Ok project) → around.reads_now ≡ around.reads_before
      → IfErr result (λ ending. OpensNone serve (told_by ending) around.house_before around.house_now around.faults_before around.faults_now) → IfErr result (λ ending. StopsSo around serve (told_by ending))
  stops_at serve project (Ok status) reads kept none = tt
  stops_at serve project (Err ending) reads kept (OpensNone.unopened stock rose is) = unopened project reads kept stock rose is
  stops_at serve project (Err ending) reads kept (OpensNone.no_memory back is) = no_memory (Told-map (λ x y stay. stay.same) reads) back is

  -- the project was read, and all links that the halls gave were served
  pub serves_at : (serve : ServeWords) (project : ProjectView) (result : Result ℕ Ending) (output : Output) → ReadsProject around serve.project (Ok project) → around.reads_now ≡ around.reads_before
      → IfOk result (λ status. ServesAt around.links around.hall_faults around.octets around.link_reads around.link_writes project serve output status around.house_before around.house_now around.faults_before around.faults_now)
      → IfOk result (λ status. ServesSo around serve output status)
  serves_at serve project (Ok status) output reads kept at = record { project = project; reads = reads; reads_kept = kept; faults_kept = at.faults_kept; status_is = at.status_is; hosts = at.hosts }
  serves_at serve project (Err ending) output reads kept none = tt

  -- ---- a run

  module _ (words : List (String Global)) (output : Output) (status : ℕ) where
    -- 2 comes exactly where the words are of no form
    pub run_two : RunsSo around words output status → (status ≡ 2 → AsksNotToServe words) × (AsksNotToServe words → status ≡ 2)
    run_two (nothing none aside ends) = (λ two. none, λ also. ends.status_is ∙ ap status_of ends.so)
    run_two (stopped serve asks ends) = (λ two. absurd (stop_two serve ends.ending ends.so (sym ends.status_is ∙ two)), λ none. absurd (none serve asks))
    run_two (served all) = (λ two. absurd ((serves_apart status all.so.status_is).0 two), λ none. absurd (none all.serve all.asks))

    -- with 3 the halls went back as they were
    pub run_three : RunsSo around words output status → status ≡ 3 → Told HandsBack around.house_before around.house_now
    run_three (nothing none aside ends) three = house_hands_back aside.house
    run_three (stopped serve asks ends) three = stop_back serve ends.ending ends.so (sym ends.status_is ∙ three)
    run_three (served all) three = absurd ((serves_apart status all.so.status_is).1 three)

    -- why 4 comes
    pub run_four : RunsSo around words output status → status ≡ 4 → LacksProject words around.files_before ⊎ (Rose around.reads_before around.reads_now ⊎ (Rose around.faults_before around.faults_now ⊎ ServesAll around words output status))
    run_four (nothing none aside ends) four = absurd (differ status 2 4 (λ d. omega (arith, d)) (ends.status_is ∙ ap status_of ends.so) four)
    run_four (stopped serve asks ends) four = by (stop_four serve ends.ending ends.so (sym ends.status_is ∙ four))
      where
        by : IfSome around.files_before (λ content. content serve.project ≡ None) ⊎ (Rose around.reads_before around.reads_now ⊎ Rose around.faults_before around.faults_now) → LacksProject words around.files_before ⊎ (Rose around.reads_before around.reads_now ⊎ (Rose around.faults_before around.faults_now ⊎ ServesAll around words output status))
        by (inl absent) = inl (record { serve = serve; asks = asks; absent = absent })
        by (inr (inl rose)) = inr (inl rose)
        by (inr (inr rose)) = inr (inr (inl rose))
    run_four (served all) four = inr (inr (inr all))

    -- why 6 comes
    pub run_six : RunsSo around words output status → status ≡ 6 → NamesProject around output words
    run_six (nothing none aside ends) six = absurd (differ status 2 6 (λ d. omega (arith, d)) (ends.status_is ∙ ap status_of ends.so) six)
    run_six (stopped serve asks ends) six =
        let is : status_of ends.ending ≡ 6 = sym ends.status_is ∙ six in
        record { serve = serve; asks = asks; ended = ends.ending; status_is = is; message = six_speaks ends.ending is output.faults_before output.faults_now output.before output.now ends.spoken; refused = stop_six serve ends.ending ends.so is }
    run_six (served all) six = absurd ((serves_apart status all.so.status_is).2 six)

    -- with another status than 3 and 4 nothing failed before serving
    pub run_unfailing : RunsSo around words output status → status ≢ 3 → status ≢ 4 → NoneFailed around
    run_unfailing (nothing none aside ends) three four = record { reads = aside.reads; house = aside.house.faults }
    run_unfailing (stopped serve asks ends) three four = stop_unfailing serve ends.ending ends.so (λ e. three (ends.status_is ∙ e)) (λ e. four (ends.status_is ∙ e))
    run_unfailing (served all) three four = record { reads = all.so.reads_kept; house = all.so.faults_kept }

    -- no file changed
    pub run_content : RunsSo around words output status → KeepsFiles around
    run_content (nothing none aside ends) = aside.files
    run_content (stopped serve asks ends) = stop_files serve ends.ending ends.so
    run_content (served all) = Told-map (λ x y stay. stay.same) all.so.reads

    -- what the words ask for is done, unless something failed or memory was wanted
    pub run_hosts : RunsSo around words output status → (serve : ServeWords) (project : ProjectView) → AsksToServe (map string_bytes words) serve → HasProject around.files_before serve.project project → HasStood around.reads_before around.reads_now → HasStood around.faults_before around.faults_now → status ≢ 3
        → Hosts around.links around.hall_faults around.octets around.link_reads around.link_writes project serve output status around.house_before around.house_now
    run_hosts (nothing none aside ends) serve project asks has no_read no_fault three = absurd (none serve asks)
    run_hosts (stopped other also ends) serve project asks has no_read no_fault three =
        let same : serve ≡ other = one_serve (map string_bytes words) serve other asks also in
        absurd (three (ends.status_is ∙ stop_hosts other project ends.ending (subst (λ (s : ServeWords). HasProject around.files_before s.project project) same has) no_read no_fault ends.so))
    run_hosts (served all) serve project asks has no_read no_fault three =
        let same : all.serve ≡ serve = one_serve (map string_bytes words) all.serve serve all.asks asks in
        let found : all.so.project ≡ project = told_project (Rose around.reads_before around.reads_now) all.serve.project project all.so.project around.files_before around.files_now (subst (λ (s : ServeWords). HasProject around.files_before s.project project) (sym same) has) all.so.reads in
        subst (λ (s : ServeWords). Hosts around.links around.hall_faults around.octets around.link_reads around.link_writes project s output status around.house_before around.house_now) same
        (subst (λ p. Hosts around.links around.hall_faults around.octets around.link_reads around.link_writes p all.serve output status around.house_before around.house_now) found all.so.hosts)

-- a run that told of its ending with 6 has that ending
pub told_six : (due : Ended) (output : Output) (status : ℕ) → Tells due output status → status ≡ 6 → status_of due ≡ 6
told_six due output status tells six = by tells.so
  where
    by : (tells.ending ≡ due) ⊎ (tells.ending ≡ OutOfMemory) → status_of due ≡ 6
    by (inl e) = sym (ap status_of e) ∙ sym tells.status_is ∙ six
    by (inr e) = absurd (differ status 3 6 (λ d. omega (arith, d)) (tells.status_is ∙ ap status_of e) six)

-- the message of the ending was told, or memory was wanted for it
pub told_stop : {H L C : Type 0} (around : Around H L C) (serve : ServeWords) (due : Ended) (output : Output) (status : ℕ) → StopsSo around serve due → Tells due output status → Ends (StopsSo around serve) output status
told_stop around serve due output status stops tells = ends_as due stops (stop_memory around serve due stops) tells

-- the house gave halls, these were served, and the house took back what came of them
module _ {H L C : Type 0} (links : H → Option (Links L)) (hall_faults : H → ℕ) (octets : L → Option Octets) (read_faults write_faults : L → ℕ) where
  pub hosts_so : (project : ProjectView) (serve : ServeWords) (halls : Vec H Global) (output : Output) (status : ℕ) (before middle now : Option (Stock H C)) → vec_len halls ≡ serve.workers
      → Told (Binds (request_of serve) (Ok halls)) before middle → ServesHalls links hall_faults octets read_faults write_faults project serve.entries halls.items output status middle now
      → Hosts links hall_faults octets read_faults write_faults project serve output status before now
  hosts_so project serve halls output status before middle now each bound h = record {
    halls = halls.items;
    back = h.back;
    history = h.history;
    lends = Told-then (λ a b c binds takes. lent a b c binds takes) bound h.taken_back;
    each = as_many;
    history_is = subst (λ (n : ℕ). IsOf project n serve.entries (length h.history.entries) h.history) as_many h.history_is;
    serves = h.serves;
    complete = λ none. h.complete (subst (λ (n : ℕ). NothingHinders links hall_faults octets read_faults write_faults project n serve.entries halls.items h.back output.faults_before output.faults_now) (sym as_many) none);
  }
    where
      as_many : length halls.items ≡ serve.workers
      as_many = sym halls.ok.0 ∙ each

      lent : (a b c : Stock H C) → Binds (request_of serve) (Ok halls) a b → TakesBack h.back b c → Lends (request_of serve) halls.items h.back a c
      lent a b c binds takes = record {
        given = binds.0 ∙ ap (λ (hs : List H). halls.items ++ hs) (sym (ap (λ (s : Stock H C). s.halls) takes));
        rest = takes ∙ ap (λ (s : Stock H C). record s { halls_back = s.halls_back ++ h.back }) binds.1 ∙ ap (λ (hs : List H). record a { halls = hs; halls_back = a.halls_back ++ h.back; binds = a.binds ++ request_of serve ∷ [] }) (sym (ap (λ (s : Stock H C). s.halls) takes));
      }
