-- What steps one after another tell of faults, and which ends the input brings.
use Rattle.std.proofs.Common.{◌≡◌, ◌≢◌, inl, inr, ℕ, zero, suc, List, Some, sym, ap, subst, ◌∙◌}
use Rattle.mm_outside.specs.Causes.{Rose}
use Rattle.cody_batches.specs.Blocks.{held}
use Rattle.unit_registry.specs.Projects.{ProjectView}
use Rattle.histories.specs.declared.entry.Entry.{Entry}
use Rattle.registry_core.specs.Ledgers.{LedgerView}
use Rattle.connection_core.specs.declared.conn_end.ConnEnd.{ConnEnd}
use Rattle.connection_core.specs.declared.conn_end.ConnEnd.TheVariants.{ReadFault, WriteFault, HistoryFull}
use Rattle.connection_core.specs.Ends.{HasCauses}
use Rattle.connection_core.specs.Sessions.{SessionState}
use Rattle.connection_core.specs.Taking.{end_holding}
use Rattle.mapper_server.specs.declared.step.Step.{Step}
use Rattle.mapper_server.specs.declared.step.Step.TheVariants as step
use Rattle.mapper_server.specs.Steps.{EndsInput, IsGoing, StepCauses, TellsFull}

-- the end of the input is no fault of a write and no full history
holding_no_write : (n : ℕ) → end_holding n ≢ WriteFault
holding_no_write zero e = cc
holding_no_write (suc n) e = cc

holding_not_full : (n entries kept : ℕ) → end_holding n ≢ HistoryFull entries kept
holding_not_full zero entries kept e = cc
holding_not_full (suc n) entries kept e = cc

fault_no_write : ReadFault ≢ WriteFault
fault_no_write e = cc

fault_not_full : (entries kept : ℕ) → ReadFault ≢ HistoryFull entries kept
fault_not_full entries kept e = cc

module _ {Item : Type 0} (project : ProjectView) (history : List Entry) (s : SessionState Item) (going : IsGoing project history s) where
  ends_no_write : (how : ConnEnd) → EndsInput how s → how ≢ WriteFault
  ends_no_write how (inl fault) e = fault_no_write (sym fault ∙ e)
  ends_no_write how (inr end) e = holding_no_write (held going.fed) (sym (end project going.fed going.stands.stands) ∙ e)

  pub ends_not_full : (seen : LedgerView) (how : ConnEnd) → EndsInput how s → TellsFull seen how
  ends_not_full seen how (inl fault) entries kept e = absurd (fault_not_full entries kept (sym fault ∙ e))
  ends_not_full seen how (inr end) entries kept e = absurd (holding_not_full (held going.fed) entries kept (sym (end project going.fed going.stands.stands) ∙ e))

  pub input_causes : (how : ConnEnd) (reads_before reads_now writes_before writes_now : ℕ) → EndsInput how s → (Some how ≡ Some ReadFault → Rose reads_before reads_now) → (Some how ≢ Some ReadFault → reads_now ≡ reads_before) → writes_now ≡ writes_before → HasCauses reads_before reads_now writes_before writes_now how
  input_causes how reads_before reads_now writes_before writes_now ends rose kept same = record {
    read = λ e. rose (ap Some e);
    write = λ e. absurd (ends_no_write how ends e);
    read_kept = λ other. kept (λ e. other (of_some e));
    write_kept = λ other. same;
  }
    where
      of_some : Some how ≡ Some ReadFault → how ≡ ReadFault
      of_some e = cc

-- a step that calls no link
pub quiet_causes : (result : Step) (reads_before reads_now writes_before writes_now : ℕ) → result ≢ step.Ended ReadFault → result ≢ step.Ended WriteFault → reads_now ≡ reads_before → writes_now ≡ writes_before → StepCauses result reads_before reads_now writes_before writes_now
quiet_causes step.GoesOn reads_before reads_now writes_before writes_now no_read no_write reads writes = (reads, writes)
quiet_causes (step.Waits place) reads_before reads_now writes_before writes_now no_read no_write reads writes = (reads, writes)
quiet_causes (step.Ended how) reads_before reads_now writes_before writes_now no_read no_write reads writes = record {
  read = λ e. absurd (no_read (ap step.Ended e));
  write = λ e. absurd (no_write (ap step.Ended e));
  read_kept = λ other. reads;
  write_kept = λ other. writes;
}

-- a step after others that had no fault
pub causes_then : (result : Step) (reads_first reads_before reads_now writes_first writes_before writes_now : ℕ) → reads_before ≡ reads_first → writes_before ≡ writes_first → StepCauses result reads_before reads_now writes_before writes_now → StepCauses result reads_first reads_now writes_first writes_now
causes_then result reads_first reads_before reads_now writes_first writes_before writes_now reads writes h =
    subst (λ r. StepCauses result r reads_now writes_first writes_now) reads (subst (λ w. StepCauses result reads_before reads_now w writes_now) writes h)
