-- What is printed of a trace that is replayed.
use Rattle.std.specs.Prelude.{ℕ, ◌+◌, true, false, List, [], ◌∷◌, ◌++◌, length, filter_map, flat_map, Option, None, is_none, option_map, if◌then◌else◌, codes, decimal}
use Rattle.std.specs.List.{range_with_len}
use Rattle.unit_registry.specs.Projects.{ProjectView}
use Rattle.histories.specs.declared.answer.Answer.{Answer}
use Rattle.histories.specs.declared.entry.Entry.{Entry}
use Rattle.histories.specs.Answered.{open_count}
use Rattle.histories.specs.Noted.{pending}
use Rattle.histories.specs.Histories.{answered_in, noted_of, reply}
use Rattle.connection_replies.specs.declared.line_reply.LineReply.TheVariants as line
use Rattle.connection_replies.specs.ReplyLines.{reply_line}
use Rattle.trace_text.specs.declared.trace.Trace.{Trace}
use Rattle.trace_text.specs.Texts.{ended, entry_line}
use Rattle.mapper_commands.specs.Endings.{Report}
use Rattle.mapper_commands.specs.Reports.{by_fault, fault_of}

-- a request's place, and its reply
pub record Found : Type 0 where
  pub place : ℕ
  pub answer : Answer

-- the reply at a place
abbrev pub found_at : ℕ → Answer → Found
found_at place answer = record { place = place; answer = answer }

-- the reply to the request at a place, where it comes with the entry: before it there was none
abbrev pub coming : ProjectView → ℕ → List Entry → Entry → ℕ → Option Found
coming project workers before entry place =
    if is_none (reply project workers before place)
    then option_map (found_at place) (reply project workers (before ++ entry ∷ []) place)
    else None

-- the replies that come with an entry, in the order of their places
abbrev pub all_coming : ProjectView → ℕ → List Entry → Entry → List Found
all_coming project workers before entry = filter_map (coming project workers before entry) (range_with_len 0 (length before + 1))

-- the place of a reply, between spaces
abbrev pub prefix_text : ℕ → List ℕ
prefix_text place = codes "  " ++ decimal place ++ codes " "

-- the line of a reply that comes with an entry
abbrev pub found_text : ProjectView → Found → List ℕ
found_text project found = prefix_text found.place ++ reply_line project (line.Answer found.answer) false

-- the line of an entry, with its place
abbrev pub placed_text : ℕ → Entry → List ℕ
placed_text place entry = decimal place ++ codes ": " ++ ended (entry_line entry)

-- the lines of an entry: what it is, and the replies that come with it
abbrev pub entry_text : ProjectView → ℕ → List Entry → Entry → List ℕ
entry_text project workers before entry = placed_text (length before) entry ++ flat_map (found_text project) (all_coming project workers before entry)

-- the lines of the entries behind those before
abbrev pub entries_text : ProjectView → ℕ → List Entry → List Entry → List ℕ
entries_text project workers before [] = []
entries_text project workers before (entry ∷ behind) = entry_text project workers before entry ++ entries_text project workers (before ++ entry ∷ []) behind

-- the last line, with so many open connections and so many imports that wait
abbrev pub end_line : ℕ → ℕ → List ℕ
end_line opened waiting = codes "open " ++ decimal opened ++ codes " waiting " ++ decimal waiting ++ codes "\n"

-- the last line: how many connections are open, and how many imports of open connections wait
abbrev pub end_text : ProjectView → ℕ → List Entry → List ℕ
end_text project workers history = end_line (open_count (answered_in project workers history)) (length (pending project (noted_of project workers history)))

-- what is printed of a legal trace
abbrev pub replay_text : ProjectView → Trace → List ℕ
replay_text project trace = entries_text project trace.workers [] trace.entries ++ end_text project trace.workers trace.entries

-- what is reported of a legal trace
abbrev pub whole_report : ProjectView → Trace → Report
whole_report project trace = record { text = replay_text project trace; good = true }

-- what a replay reports of a trace
abbrev pub replay_report : ProjectView → Trace → Report
replay_report project trace = by_fault (fault_of project trace) (whole_report project trace)
