-- What a run comes to, by its ending.
use Rattle.std.proofs.Common.{◌≡◌, ◌≢◌, ◌⊎◌, inl, inr, ℕ, ◌<◌, List, refl, sym, ap, ◌∙◌, arith}
use Rattle.mm_outside.specs.Causes.{Rose}
use Rattle.mm_outside.specs.Files.{Lookup}
use Rattle.mm_outside.specs.Told.{Told}
use Rattle.connection_core.specs.declared.conn_end.ConnEnd.{ConnEnd}
use Rattle.connection_core.specs.declared.conn_end.ConnEnd.TheVariants.{Closed, Truncated, ReadFault, WriteFault, TooLong, BatchTooLong, HistoryFull}
use Rattle.mapper_commands.specs.Endings.{Ended, Served, Output, status_of}
use Rattle.mm_outside.proofs.ToldLemmas.{Told-map}
use Rattle.mapper_commands.specs.Running.{Outside, HasNoFault, HidesNoFault, Pipes, served, refused, no_memory}
use Rattle.mapper_commands.proofs.Statuses.{differ, file_never, reads_kept}

-- an end of a connection whose status lies between 1 and 7 is a fault of a read or of a write
pub conn_fault : (P : ConnEnd → ℕ → Type 0) → P ReadFault 4 → P WriteFault 5 → (how : ConnEnd) → 1 < status_of (Served how) → status_of (Served how) < 7 → P how (status_of (Served how))
conn_fault P read write Closed more less = absurd (omega (arith, more))
conn_fault P read write (Truncated lines) more less = absurd (omega (arith, less))
conn_fault P read write ReadFault more less = read
conn_fault P read write WriteFault more less = write
conn_fault P read write TooLong more less = absurd (omega (arith, less))
conn_fault P read write BatchTooLong more less = absurd (omega (arith, less))
conn_fault P read write (HistoryFull m n) more less = absurd (omega (arith, less))

no_end : (how : ConnEnd) (n : ℕ) → 1 < n → n < 7 → n ≢ 4 → n ≢ 5 → status_of (Served how) ≢ n
no_end how n more less read write e = conn_fault (λ end status. status ≡ n → ⊥) (λ f. read (sym f)) (λ f. write (sym f)) how (omega (arith, more, e)) (omega (arith, less, e)) e

module _ {L : Type 0} (outside : Outside L) (name : List ℕ) (entries : ℕ) where
  -- the status of an end of the link is never 1
  conn_one : (how : ConnEnd) → status_of (Served how) ≢ 1
  conn_one Closed e = omega (arith, e)
  conn_one (Truncated lines) e = omega (arith, e)
  conn_one ReadFault e = omega (arith, e)
  conn_one WriteFault e = omega (arith, e)
  conn_one TooLong e = omega (arith, e)
  conn_one BatchTooLong e = omega (arith, e)
  conn_one (HistoryFull m n) e = omega (arith, e)

  -- words that ask for `pipe` aren't answered as bad
  pub never_two : (ended : Ended) → Pipes outside name entries ended → status_of ended ≢ 2
  never_two ended (served how serves is) two = no_end how 2 (omega arith) (omega arith) (λ f. omega (arith, f)) (λ f. omega (arith, f)) (sym (ap status_of is) ∙ two)
  never_two ended (refused kind reads keeps link) two = file_never ended 2 kind (λ e. omega (arith, e)) (λ e. omega (arith, e)) (λ e. omega (arith, e)) two
  never_two ended (no_memory aside is) two = differ (status_of ended) 3 2 (λ e. omega (arith, e)) (ap status_of is) two

  -- nor does a report come
  pub never_one : (ended : Ended) → Pipes outside name entries ended → status_of ended ≢ 1
  never_one ended (served how serves is) one = conn_one how (sym (ap status_of is) ∙ one)
  never_one ended (refused kind reads keeps link) one = file_never ended 1 kind (λ e. omega (arith, e)) (λ e. omega (arith, e)) (λ e. omega (arith, e)) one
  never_one ended (no_memory aside is) one = differ (status_of ended) 3 1 (λ e. omega (arith, e)) (ap status_of is) one

  -- the link is as it was after want of memory, and where the file is refused
  pub untouched : (ended : Ended) (status : ℕ) → status ≡ status_of ended → Pipes outside name entries ended → (status ≡ 2) ⊎ ((status ≡ 3) ⊎ (status ≡ 6)) → outside.link_now ≡ outside.link_before
  untouched ended status is (served how serves how_is) (inl two) = absurd (no_end how 2 (omega arith) (omega arith) (λ f. omega (arith, f)) (λ f. omega (arith, f)) (sym (ap status_of how_is) ∙ sym is ∙ two))
  untouched ended status is (served how serves how_is) (inr (inl three)) = absurd (no_end how 3 (omega arith) (omega arith) (λ f. omega (arith, f)) (λ f. omega (arith, f)) (sym (ap status_of how_is) ∙ sym is ∙ three))
  untouched ended status is (served how serves how_is) (inr (inr six)) = absurd (no_end how 6 (omega arith) (omega arith) (λ f. omega (arith, f)) (λ f. omega (arith, f)) (sym (ap status_of how_is) ∙ sym is ∙ six))
  untouched ended status is (refused kind reads keeps link) some = link
  untouched ended status is (no_memory aside ended_is) some = aside.link

  pub fault_of_write : (ended : Ended) → Pipes outside name entries ended → status_of ended ≡ 5 → Rose outside.link_writes_before outside.link_writes_now
  fault_of_write ended (served how serves is) five =
      let so : status_of (Served how) ≡ 5 = sym (ap status_of is) ∙ five in
      serves.causes.write (conn_fault (λ end status. status ≡ 5 → end ≡ WriteFault) (λ f. absurd (omega (arith, f))) (λ f. refl) how (omega (arith, so)) (omega (arith, so)) so)
  fault_of_write ended (refused kind reads keeps link) five = absurd (file_never ended 5 kind (λ e. omega (arith, e)) (λ e. omega (arith, e)) (λ e. omega (arith, e)) five)
  fault_of_write ended (no_memory aside is) five = absurd (differ (status_of ended) 3 5 (λ e. omega (arith, e)) (ap status_of is) five)

  piped_file_reads : (ended : Ended) → Pipes outside name entries ended → status_of ended ≢ 3 → status_of ended ≢ 4 → outside.file_reads_now ≡ outside.file_reads_before
  piped_file_reads ended (served how serves is) three four = serves.reads_kept
  piped_file_reads ended (refused kind reads keeps link) three four = reads_kept ended outside.file_reads_before outside.file_reads_now keeps three four
  piped_file_reads ended (no_memory aside is) three four = absurd (three (ap status_of is))

  piped_link_reads : (ended : Ended) → Pipes outside name entries ended → (outside.link_now ≡ outside.link_before → outside.link_reads_now ≡ outside.link_reads_before) → status_of ended ≢ 4 → outside.link_reads_now ≡ outside.link_reads_before
  piped_link_reads ended (served how serves is) same four = serves.causes.read_kept (λ e. four (ap status_of (is ∙ ap Served e)))
  piped_link_reads ended (refused kind reads keeps link) same four = same link
  piped_link_reads ended (no_memory aside is) same four = same aside.link

  piped_link_writes : (ended : Ended) → Pipes outside name entries ended → (outside.link_now ≡ outside.link_before → outside.link_writes_now ≡ outside.link_writes_before) → status_of ended ≢ 5 → outside.link_writes_now ≡ outside.link_writes_before
  piped_link_writes ended (served how serves is) same five = serves.causes.write_kept (λ e. five (ap status_of (is ∙ ap Served e)))
  piped_link_writes ended (refused kind reads keeps link) same five = same link
  piped_link_writes ended (no_memory aside is) same five = same aside.link

  -- `pipe` tries nothing again that failed
  pub piped_unhidden : (ended : Ended) (status : ℕ) → status ≡ status_of ended → Pipes outside name entries ended → outside.file_writes_now ≡ outside.file_writes_before → (outside.link_now ≡ outside.link_before → outside.link_reads_now ≡ outside.link_reads_before) → (outside.link_now ≡ outside.link_before → outside.link_writes_now ≡ outside.link_writes_before) → HidesNoFault outside status
  piped_unhidden ended status is pipes kept same_reads same_writes = record {
    file_reads = λ three four. piped_file_reads ended pipes (λ e. three (is ∙ e)) (λ e. four (is ∙ e));
    file_writes = λ five. kept;
    link_reads = λ four. piped_link_reads ended pipes same_reads (λ e. four (is ∙ e));
    link_writes = λ five. piped_link_writes ended pipes same_writes (λ e. five (is ∙ e));
  }

  -- `pipe` changes no file
  pub pipe_stays : (ended : Ended) → Pipes outside name entries ended → Told (λ (old new : Lookup). new ≡ old) outside.files_before outside.files_now
  pipe_stays ended (served how serves is) = Told-map (λ a b found. found.same) serves.reads
  pipe_stays ended (refused kind reads keeps link) = Told-map (λ a b found. found.same) reads
  pipe_stays ended (no_memory aside is) = aside.files

-- what is done has no fault behind it
pub done_well : {L : Type 0} (outside : Outside L) (output : Output) (status : ℕ) → HidesNoFault outside status → output.faults_now ≡ output.faults_before → (status ≡ 0) ⊎ (status ≡ 1) → HasNoFault outside output
done_well outside output status shown sink done = by done
  where
    well : status ≢ 3 → status ≢ 4 → status ≢ 5 → HasNoFault outside output
    well three four five = record { file_reads = shown.file_reads three four; file_writes = shown.file_writes five; link_reads = shown.link_reads four; link_writes = shown.link_writes five; sink_writes = sink }

    by : (status ≡ 0) ⊎ (status ≡ 1) → HasNoFault outside output
    by (inl e) = well (λ f. omega (arith, e, f)) (λ f. omega (arith, e, f)) (λ f. omega (arith, e, f))
    by (inr e) = well (λ f. omega (arith, e, f)) (λ f. omega (arith, e, f)) (λ f. omega (arith, e, f))
