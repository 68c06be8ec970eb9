-- A reader over the tokens of a text.
use Rattle.std.proofs.Common.{◌≡◌, ℕ, zero, suc, ◌+◌, ◌≤◌, ◌<◌, false, List, [], ◌∷◌, ◌++◌, length, map, take, drop, get_or, slice_get, slice_range, Option, Some, None, Result, Ok, Err, sym, ap, ◌∙◌, refl, subst, arith, inl, inr, IfOk, IfErr}
use Rattle.std.proofs.lemmas.List.{take_all}
use Rattle.module_units.specs.Terminals.{Terminal}
use Rattle.module_units.specs.Grammar.{UnitTree, unit_tree}
use Rattle.module_units.specs.Unit.{UnitOf}
use Rattle.module_units.specs.Machine.{Stage, Place, Parser, step, run, start, ParserHasRoom}
use Rattle.module_units.specs.Rules.{Fault, faults_of}
use Rattle.module_units.specs.FaultRuns.{behind_at, fault_step, fault_run, first_fault, or_first}
use Rattle.module_units.specs.Reading.{seen, seen_all, token_line, ReadsUnit, Bad, Reads, RefusesSource}
use Rattle.module_units.specs.Readers.{TakesOnLine, finished, held, HasRead}
use Rattle.module_units.specs.declared.reader.Reader.{Reader}
use Rattle.module_units.specs.declared.places.Place.TheVariants as places
use Rattle.module_units.specs.declared.unit.SourceError.{SourceError}
use Rattle.module_units.specs.declared.unit.SourceError.TheVariants as errors
use Rattle.module_lexer.specs.declared.token.Token.{Token}
use Rattle.module_lexer.specs.declared.reason.SourceReason.TheVariants.{Syntax}
use Rattle.module_lexer.specs.Tokens.{HasTokens, InOrder, line_of}
use Rattle.module_lexer.proofs.Spans.{spans_in_order}
use Rattle.module_units.proofs.Readings.{IsUnit, accepted, stops_at, ends_early}
use Rattle.module_units.proofs.UnitFaults.{unit_faults}
use Rattle.module_units.proofs.Sizes.{Sized, step_sized, parser_room}

-- a token stands in the middle of the tokens
pub record Middle (f : Token → Terminal) (tokens : List Token) (k : ℕ) (token : Token) : Type 0 where
  pub before : take (suc k) (map f tokens) ≡ take k (map f tokens) ++ f token ∷ []
  pub behind : drop k (map f tokens) ≡ f token ∷ drop (suc k) (map f tokens)
  pub there : get_or (map f tokens) k (f token) ≡ f token
  pub within : k < length (map f tokens)
  pub few : k < length tokens

from : Token → Option Token → Token
from other None = other
from other (Some token) = token

middle : (f : Token → Terminal) (tokens : List Token) (k : ℕ) (token : Token) → slice_get tokens k ≡ Some token → Middle f tokens k token
middle f [] k token is = absurd (cc is)
middle f (x ∷ xs) zero token is = record { before = ap (λ t. f (other t) ∷ []) is; behind = ap (λ t. f (other t) ∷ map f xs) is; there = ap (λ t. f (other t)) is; within = omega arith; few = omega arith }
  where
    other : Option Token → Token
    other None = x
    other (Some t) = t
middle f (x ∷ xs) (suc k) token is =
    let m = middle f xs k token is in
    record { before = ap (λ l. f x ∷ l) m.before; behind = m.behind; there = m.there; within = omega (arith, m.within); few = omega (arith, m.few) }

-- spans in order
in_order_many : (low to : ℕ) (tokens : List Token) → InOrder low to tokens → low + length tokens ≤ to
in_order_many low to [] h = omega (arith, h)
in_order_many low to (t ∷ ts) h = omega (arith, h.0, h.1, in_order_many t.end to ts h.2)

in_order_span : (low to : ℕ) (tokens : List Token) (k : ℕ) (token : Token) → InOrder low to tokens → slice_get tokens k ≡ Some token → (token.start ≤ token.end) × (token.end ≤ to)
in_order_span low to [] k token h is = absurd (cc is)
in_order_span low to (t ∷ ts) zero token h is =
    let e : t ≡ token = ap (other t) is in
    subst (λ u. (u.start ≤ u.end) × (u.end ≤ to)) e (omega (arith, h.1), omega (arith, in_order_many t.end to ts h.2))
  where
    other : Token → Option Token → Token
    other d None = d
    other d (Some u) = u
in_order_span low to (t ∷ ts) (suc k) token h is = in_order_span t.end to ts k token h.2 is

pub span : (text : List ℕ) (tokens : List Token) (k : ℕ) (token : Token) → HasTokens text tokens → slice_get tokens k ≡ Some token → (token.start ≤ token.end) × (token.end ≤ length text)
span text tokens k token cut is = in_order_span 0 (length text) tokens k token (spans_in_order text tokens cut) is

abbrev the_seen : List ℕ → Token → Terminal
the_seen text token = seen token.kind (slice_range text token.start token.end) token.line

pub room : (text : List ℕ) (tokens : List Token) (k : ℕ) (r : Reader) (token : Token) → length text ≤ 2147483648 → HasTokens text tokens → HasRead text tokens k r → slice_get tokens k ≡ Some token → ParserHasRoom r.parser
room text tokens k r token small cut read is = parser_room r.parser (omega (arith, small, read.small, (middle (the_seen text) tokens k token is).few, in_order_many 0 (length text) tokens (spans_in_order text tokens cut)))

run-append : (s : Option Parser) (a b : List Terminal) → run s (a ++ b) ≡ run (run s a) b
run-append s [] b = refl
run-append None (t ∷ a) [] = refl
run-append None (t ∷ a) (v ∷ b) = refl
run-append (Some s) (t ∷ a) b = run-append (step s.unit s.place t) a b

or_first-append : (before : Option Fault) (a b : List Fault) → or_first before (a ++ b) ≡ or_first (or_first before a) b
or_first-append None [] b = refl
or_first-append None (f ∷ a) b = refl
or_first-append (Some f) a b = refl

-- and one token more
pub read_more : (text : List ℕ) (tokens : List Token) (k n : ℕ) (r q : Reader) (token : Token) → n ≡ suc k → slice_get tokens k ≡ Some token → HasRead text tokens k r
    → TakesOnLine r (the_seen text token) token.line (Ok q) → HasRead text tokens n q
read_more text tokens k n r q token one is before takes =
    let m = middle (the_seen text) tokens k token is in
    let sized : Sized (Some q.parser) (suc (held r.parser)) = subst (λ s. Sized s (suc (held r.parser))) takes.0.stepped (step_sized r.parser.unit r.parser.place (the_seen text token)) in
    let rest : List Terminal = drop (suc k) (seen_all text tokens) in
    subst (λ j. HasRead text tokens j q) (sym one) (record {
      reads = ap (run (Some start)) m.before ∙ run-append (Some start) (take k (seen_all text tokens)) (the_seen text token ∷ []) ∙ ap (λ s. run s (the_seen text token ∷ [])) before.reads ∙ takes.0.stepped;
      faults =
          ap (λ f. or_first f (fault_run q.behind (Some q.parser) (drop (suc k) (seen_all text tokens)))) takes.0.fault_is
          ∙ sym (or_first-append r.fault (fault_step q.behind r.parser.unit r.parser.place (the_seen text token)) (fault_run q.behind (Some q.parser) (drop (suc k) (seen_all text tokens))))
          ∙ (λ i. or_first r.fault (fault_step (takes.0.behind_is i) r.parser.unit r.parser.place (the_seen text token) ++ fault_run (takes.0.behind_is i) (sym takes.0.stepped i) (drop (suc k) (seen_all text tokens))))
          ∙ ap (λ l. or_first r.fault (fault_run r.behind (Some r.parser) l)) (sym m.behind)
          ∙ before.faults;
      reader = takes.1;
      small = omega (arith, before.small, sized);
    })

line_at : (text : List ℕ) (tokens : List Token) (k : ℕ) (token : Token) → slice_get tokens k ≡ Some token → token_line text tokens k ≡ token.line
line_at text [] k token is = absurd (cc is)
line_at text (t ∷ ts) zero token is = ap (line t) is
  where
    line : Token → Option Token → ℕ
    line d None = d.line
    line d (Some u) = u.line
line_at text (t ∷ ts) (suc k) token is = line_at text ts k token is

-- a token at which the reader stops
pub read_stops : (text : List ℕ) (tokens : List Token) (k : ℕ) (r : Reader) (token : Token) (e : SourceError) → HasTokens text tokens → slice_get tokens k ≡ Some token → HasRead text tokens k r
    → TakesOnLine r (the_seen text token) token.line (Err e) → RefusesSource text e
read_stops text tokens k r token (errors.Text line reason) cut is before stops =
    let m = middle (the_seen text) tokens k token is in
    inr (inl (record {
      tokens = tokens;
      place = k;
      cut = cut;
      at = stops_at (seen_all text tokens) k (the_seen text token) r.parser m.within m.there before.reads stops.0;
      line_is = stops.1 ∙ sym (line_at text tokens k token is);
      reason_is = stops.2;
    }))
read_stops text tokens k r token errors.Memory cut is before stops = tt

-- the end of the text
end_line_is : (text : List ℕ) (tokens : List Token) → token_line text tokens (length (seen_all text tokens)) ≡ line_of text (length text)
end_line_is text [] = refl
end_line_is text (t ∷ ts) = by_length ts
  where
    by_length : (us : List Token) → token_line text us (length (map (the_seen text) us)) ≡ line_of text (length text)
    by_length [] = refl
    by_length (u ∷ us) = by_length us

seen_length : (text : List ℕ) (tokens : List Token) → length (seen_all text tokens) ≡ length tokens
seen_length text [] = refl
seen_length text (t ∷ ts) = ap suc (seen_length text ts)

no_first : (fs : List Fault) → first_fault fs ≡ None → fs ≡ []
no_first [] none = refl
no_first (f ∷ fs) none = absurd (cc none)

some_first : (fs : List Fault) (line : ℕ) (reason : _) → first_fault fs ≡ Some (record { line = line; reason = reason }) → (others : List Fault) × (fs ≡ record { line = line; reason = reason } ∷ others)
some_first [] line reason is = absurd (cc is)
some_first (f ∷ fs) line reason is = (fs, ap (λ o. or f o ∷ fs) is)
  where
    or : Fault → Option Fault → Fault
    or d None = d
    or d (Some g) = g

abbrev MatchSource : List ℕ → Result UnitOf SourceError → Type 0
MatchSource text (Ok u) = ReadsUnit text u
MatchSource text (Err e) = RefusesSource text e

whole_run : (text : List ℕ) (tokens : List Token) (r : Reader) → HasRead text tokens (length tokens) r → run (Some start) (seen_all text tokens) ≡ Some r.parser
whole_run text tokens r read = ap (run (Some start)) (sym (take_all (length tokens) (seen_all text tokens) (omega (arith, seen_length text tokens)))) ∙ read.reads

drop_whole : (f : Token → Terminal) (tokens : List Token) → drop (length tokens) (map f tokens) ≡ []
drop_whole f [] = refl
drop_whole f (t ∷ ts) = drop_whole f ts

whole_faults : (text : List ℕ) (tokens : List Token) (r : Reader) → HasRead text tokens (length tokens) r → or_first r.fault [] ≡ first_fault (fault_run (behind_at 0 false) (Some start) (seen_all text tokens))
whole_faults text tokens r read = ap (λ l. or_first r.fault (fault_run r.behind (Some r.parser) l)) (sym (drop_whole (the_seen text) tokens)) ∙ read.faults

tree_faults : (ts : List Terminal) (tree : UnitTree) → unit_tree tree ≡ ts → fault_run (behind_at 0 false) (Some start) ts ≡ faults_of tree
tree_faults ts tree are = ap (fault_run (behind_at 0 false) (Some start)) (sym are) ∙ unit_faults (behind_at 0 false) tree.module_is tree.imports tree.decls

by_fault : (text : List ℕ) (tokens : List Token) (u : UnitOf) (line : ℕ) (s : Stage) (fault : Option Fault) → HasTokens text tokens → IsUnit (seen_all text tokens) u
    → or_first fault [] ≡ first_fault (fault_run (behind_at 0 false) (Some start) (seen_all text tokens)) → MatchSource text (finished (places.Between s) fault u line)
by_fault text tokens u line s None cut is faults =
    record { tokens = tokens; tree = is.tree; cut = cut; generated = is.tokens_are; lawful = no_first (faults_of is.tree) (sym (faults ∙ ap first_fault (tree_faults (seen_all text tokens) is.tree is.tokens_are))); unit_is = is.unit_is }
by_fault text tokens u line s (Some f) cut is faults =
    let first = some_first (faults_of is.tree) f.line f.reason (sym (faults ∙ ap first_fault (tree_faults (seen_all text tokens) is.tree is.tokens_are))) in
    inr (inr (record { tokens = tokens; tree = is.tree; others = first.0; cut = cut; generated = is.tokens_are; first = first.1 }))

early : (text : List ℕ) (tokens : List Token) (r : Reader) (line : ℕ) → HasTokens text tokens → HasRead text tokens (length tokens) r → line ≡ line_of text (length text)
    → ((s : Stage) → r.parser.place ≡ places.Between s → ⊥) → Reads text (Bad line Syntax)
early text tokens r line cut read line_is other =
    inr (inl (record {
      tokens = tokens;
      place = length (seen_all text tokens);
      cut = cut;
      at = ends_early (seen_all text tokens) r.parser (whole_run text tokens r read) other;
      line_is = line_is ∙ sym (end_line_is text tokens);
      reason_is = refl;
    }))

by_place : (text : List ℕ) (tokens : List Token) (r : Reader) (line : ℕ) (place : Place) → r.parser.place ≡ place → HasTokens text tokens → HasRead text tokens (length tokens) r → line ≡ line_of text (length text)
    → MatchSource text (finished place r.fault r.parser.unit line)
by_place text tokens r line (places.Between s) is cut read line_is =
    by_fault text tokens r.parser.unit line s r.fault cut
    (accepted (seen_all text tokens) r.parser.unit s (whole_run text tokens r read ∙ (λ i. Some (record { unit = r.parser.unit; place = is i }))))
    (whole_faults text tokens r read)
by_place text tokens r line (places.Exported s l) is cut read line_is = early text tokens r line cut read line_is (λ st e. let x = sym is ∙ e in absurd (cc x))
by_place text tokens r line (places.InModule e l n) is cut read line_is = early text tokens r line cut read line_is (λ st e. let x = sym is ∙ e in absurd (cc x))
by_place text tokens r line (places.InPartition e l m n) is cut read line_is = early text tokens r line cut read line_is (λ st e. let x = sym is ∙ e in absurd (cc x))
by_place text tokens r line (places.AfterImport e l) is cut read line_is = early text tokens r line cut read line_is (λ st e. let x = sym is ∙ e in absurd (cc x))
by_place text tokens r line (places.InImport e l n) is cut read line_is = early text tokens r line cut read line_is (λ st e. let x = sym is ∙ e in absurd (cc x))
by_place text tokens r line (places.AfterHeader e l n) is cut read line_is = early text tokens r line cut read line_is (λ st e. let x = sym is ∙ e in absurd (cc x))
by_place text tokens r line (places.InItem c p) is cut read line_is = early text tokens r line cut read line_is (λ st e. let x = sym is ∙ e in absurd (cc x))
by_place text tokens r line (places.InGroup l) is cut read line_is = early text tokens r line cut read line_is (λ st e. let x = sym is ∙ e in absurd (cc x))

source_ok : (text : List ℕ) (result : Result UnitOf SourceError) → MatchSource text result → IfOk result (ReadsUnit text)
source_ok text (Ok u) h = h
source_ok text (Err e) h = tt

source_err : (text : List ℕ) (result : Result UnitOf SourceError) → MatchSource text result → IfErr result (RefusesSource text)
source_err text (Ok u) h = tt
source_err text (Err e) h = h

pub read_unit : (text : List ℕ) (tokens : List Token) (r : Reader) (line : ℕ) (result : Result UnitOf SourceError) → HasTokens text tokens → HasRead text tokens (length tokens) r → line ≡ line_of text (length text)
    → result ≡ finished r.parser.place r.fault r.parser.unit line → IfOk result (ReadsUnit text) × IfErr result (RefusesSource text)
read_unit text tokens r line result cut read line_is is =
    let h : MatchSource text result = subst (MatchSource text) (sym is) (by_place text tokens r line r.parser.place refl cut read line_is) in
    (source_ok text result h, source_err text result h)
