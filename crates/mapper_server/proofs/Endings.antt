-- How a connection that has ended was served, once it goes.
use Rattle.std.proofs.Common.{◌≡◌, ◌≢◌, inl, inr, ℕ, zero, suc, ◌+◌, ◌-◌, ◌<◌, ◌≤◌, false, true, cond, List, [], ◌∷◌, ◌++◌, length, take, Option, Some, refl, sym, ap, ap₂, subst, ◌∙◌, append_assoc, arith}
use Rattle.std.proofs.Math.Seq.{take-append-add}
use Rattle.std.proofs.lemmas.List.{append-nil, length-append, take-append-le, take_at}
use Rattle.mm_outside.specs.Octets.{Octets}
use Rattle.cody_batches.specs.Blocks.{blocks, held, taken, has_long_block, most_octets, PassesLimits}
use Rattle.unit_registry.specs.declared.act.Act.{Act as Acts}
use Rattle.unit_registry.specs.declared.act.Act.TheVariants as act
use Rattle.unit_registry.specs.Projects.{ProjectView}
use Rattle.histories.specs.declared.entry.Entry.{Entry}
use Rattle.histories.specs.Answered.{reserved}
use Rattle.histories.specs.Histories.{answered_in, IsLegal}
use Rattle.histories.proofs.Legality.{legal_prefix}
use Rattle.histories.proofs.LegalCounts.{ends_fit, room_is_used_up}
use Rattle.registry_core.specs.Ledgers.{entry}
use Rattle.connection_core.specs.declared.conn_end.ConnEnd.TheVariants.{ReadFault, WriteFault, TooLong, BatchTooLong, HistoryFull}
use Rattle.connection_core.specs.Asking.{Block, acts, block_acts}
use Rattle.connection_core.specs.Answers.{acts_of, answers}
use Rattle.connection_core.specs.Ends.{Whole, Stopped, Filled, whole_course}
use Rattle.connection_core.proofs.Enterings.{acts-append}
use Rattle.connection_core.proofs.Staying.{answers_later}
use Rattle.mapper_server.specs.Steps.{Course, Closes}

-- the acts of a connection that did these and then went
gone_course : (conn : ℕ) (history others : List Entry) (asked : List Acts) (last : Acts) → acts_of conn history ≡ act.Open ∷ asked → acts_of conn others ≡ [] → acts_of conn ((history ++ others) ++ entry conn last ∷ []) ≡ whole_course asked last
gone_course conn history others asked last did apart =
    acts-append conn (history ++ others) (entry conn last ∷ [])
    ∙ ap₂ (λ (xs ys : List Acts). xs ++ ys)
    (acts-append conn history others ∙ ap₂ (λ (xs ys : List Acts). xs ++ ys) did apart ∙ append-nil (act.Open ∷ asked))
    (ap (λ b. cond b (last ∷ []) []) (Rattle.std.proofs.Common.eq-eqb conn conn refl))

module _ (project : ProjectView) (workers limit : ℕ) (conn : ℕ) (history : List Entry) where
  -- answers that were there are there when it has gone
  answers_gone : (others : List Entry) (last : Entry) (entered : List Block) (text : List ℕ) → answers project workers history conn entered ≡ Some text → answers project workers ((history ++ others) ++ last ∷ []) conn entered ≡ Some text
  answers_gone others last entered text come =
      answers_later project workers (history ++ others) (last ∷ []) conn entered text (answers_later project workers history others conn entered text come)

  -- ---- all that was taken was entered and answered

  module _ (octets : Octets) (did : acts_of conn history ≡ act.Open ∷ acts project (taken octets.read)) (course : Course project workers history conn (taken octets.read) octets.written) where
    whole : (others : List Entry) (last : Acts) → acts_of conn others ≡ [] → Whole project workers limit ((history ++ others) ++ entry conn last ∷ []) conn (taken octets.read) last octets.written
    whole others last apart = record {
      entries = gone_course conn history others (acts project (taken octets.read)) last did apart;
      answered = answers_gone others (entry conn last) (taken octets.read) octets.written course.answered;
    }

    -- the input has ended
    pub closes_at : (n : ℕ) → octets.to_come ≡ [] → taken octets.read ≡ blocks octets.read → held octets.read ≡ n → (PassesLimits octets.read → ⊥) → Closes project workers limit conn (Rattle.connection_core.specs.Taking.end_holding n) history octets
    closes_at zero over within none few = record {
      served = λ others apart legal. record { ends = (whole others act.Left apart, record { over = over; within = within }, none); limits = λ passes. absurd (few passes) };
    }
    closes_at (suc n) over within none few = record {
      served = λ others apart legal. record { ends = (whole others act.Lost apart, record { over = over; within = within }, none, omega arith); limits = λ passes. absurd (few passes) };
    }

    pub closes_read_fault : (PassesLimits octets.read → ⊥) → Closes project workers limit conn ReadFault history octets
    closes_read_fault few = record { served = λ others apart legal. record { ends = whole others act.Lost apart; limits = λ passes. absurd (few passes) } }

    pub closes_too_long : most_octets < length octets.read → has_long_block (take most_octets octets.read) ≡ false → Closes project workers limit conn TooLong history octets
    closes_too_long many short = record { served = λ others apart legal. record { ends = (whole others act.Lost apart, many, short); limits = λ passes. inl refl } }

    pub closes_block_too_long : has_long_block (take most_octets octets.read) ≡ true → Closes project workers limit conn BatchTooLong history octets
    closes_block_too_long long = record { served = λ others apart legal. record { ends = (whole others act.Lost apart, long); limits = λ passes. inl refl } }

  -- ---- a write stopped

  pub closes_write_fault : (entered earlier others_taken : List Block) (block : Block) (before text : List ℕ) (count : ℕ) (octets : Octets) → entered ≡ earlier ++ block ∷ [] → acts_of conn history ≡ act.Open ∷ acts project entered
      → taken octets.read ≡ entered ++ others_taken → octets.written ≡ before ++ take count text → Course project workers history conn earlier before → answers project workers history conn entered ≡ Some (before ++ text) → count < length text
      → Closes project workers limit conn WriteFault history octets
  closes_write_fault entered earlier others_taken block before text count octets parts did all written course whole_text less = record {
    served = λ others apart legal. record { ends = stopped others apart; limits = λ passes. inr (inl refl) };
  }
    where
      front : take (length entered) (taken octets.read) ≡ entered
      front = ap (take (length entered)) all ∙ take_at entered others_taken (length entered) refl

      size : length entered ≡ suc (length earlier)
      size = omega (arith, ap length parts, length-append earlier (block ∷ []))

      stopped : (others : List Entry) → acts_of conn others ≡ [] → Stopped project workers limit ((history ++ others) ++ entry conn act.Lost ∷ []) conn (taken octets.read) octets.written
      stopped others apart = record {
        count = length entered;
        within = omega (arith, ap length all, length-append entered others_taken);
        entries = gone_course conn history others (acts project entered) act.Lost did apart ∙ ap (λ (bs : List Block). whole_course (acts project bs) act.Lost) (sym front);
        text = before ++ text;
        answered = ap (λ (bs : List Block). answers project workers ((history ++ others) ++ entry conn act.Lost ∷ []) conn bs) front ∙ answers_gone others (entry conn act.Lost) entered (before ++ text) whole_text;
        part = (length before + count, omega (arith, less, length-append before text), written ∙ sym (take-append-add before text count));
        least = λ fewer few.
            let own = course.fronts fewer in
            let within : fewer ≤ length earlier = omega (arith, few, size) in
            let same : take fewer (taken octets.read) ≡ take fewer earlier =
            ap (take fewer) (all ∙ ap (λ (bs : List Block). bs ++ others_taken) parts ∙ append_assoc earlier (block ∷ []) others_taken) ∙ take-append-le fewer earlier (block ∷ others_taken) within in (
              own.0,
              ap (λ (bs : List Block). answers project workers ((history ++ others) ++ entry conn act.Lost ∷ []) conn bs) same ∙ answers_gone others (entry conn act.Lost) (take fewer earlier) own.0 own.1,
              omega (arith, own.2, ap length written, length-append before (take count text)),
            );
      }

  -- ---- the history is full

  pub closes_full : (earlier others_taken : List Block) (block : Block) (part missing : List Acts) (entries kept : ℕ) (octets : Octets) → workers ≤ limit → acts_of conn history ≡ act.Open ∷ (acts project earlier ++ part)
      → taken octets.read ≡ earlier ++ block ∷ others_taken → block_acts project block ≡ part ++ missing → missing ≢ [] → Course project workers history conn earlier octets.written
      → limit ≤ length history + reserved workers (answered_in project workers history) → entries + kept ≡ limit → Closes project workers limit conn (HistoryFull entries kept) history octets
  closes_full earlier others_taken block part missing entries kept octets few did all parts some course no_room adds_up = record {
    served = λ others apart legal. record { ends = (filled others apart legal, adds_up); limits = λ passes. inr (inr refl) };
  }
    where
      filled : (others : List Entry) → acts_of conn others ≡ [] → IsLegal project workers limit ((history ++ others) ++ entry conn act.Lost ∷ []) → Filled project workers limit ((history ++ others) ++ entry conn act.Lost ∷ []) conn (taken octets.read) octets.written
      filled others apart legal =
          let lost : Entry = entry conn act.Lost in
          let front : take (length (history ++ others)) ((history ++ others) ++ lost ∷ []) ≡ history ++ others = take_at (history ++ others) (lost ∷ []) (length (history ++ others)) refl in
          let lasting : IsLegal project workers limit (history ++ others) = legal_prefix project workers limit (history ++ others) (lost ∷ []) legal in
          let grown = room_is_used_up project workers limit history others lasting in
          let fits = ends_fit project workers limit (history ++ others) few lasting in
          record {
            before = earlier;
            block = block;
            behind = others_taken;
            are = all;
            part = part;
            missing = missing;
            block_enters = parts;
            proper = some;
            entries = gone_course conn history others (acts project earlier ++ part) act.Lost did apart;
            answered = answers_gone others lost earlier octets.written course.answered;
            place = length (history ++ others);
            others = [];
            lost_there = ap (λ (es : List Entry). es ++ lost ∷ []) (sym front);
            full = ap (λ (es : List Entry). length (history ++ others) + reserved workers (answered_in project workers es)) front ∙ omega (arith, grown, fits, no_room);
          }
