-- Lines of a trace, by their words.
use Rattle.std.proofs.Common.{◌≡◌, ℕ, Bool, true, false, ◌&&◌, nat_lt, List, [], ◌∷◌, Option, Some, None, refl, sym, ap, subst, ◌∙◌, arith, true≢false}
use Rattle.std.specs.Prelude.{codes, decimal, option_map, nat_le, IfSome, if◌then◌else◌, ◌==◌}
use Rattle.std.specs.Str.{bytes_eq}
use Rattle.std.proofs.lemmas.Bool.{and_parts, and_from, cond-true, cond-false, eqb-true, le-leb, leb-true}
use Rattle.mapper_requests.specs.declared.request.Bad.TheVariants.{UnknownVerb, WrongWords, BadNumber}
use Rattle.unit_registry.specs.declared.act.Act.{Act}
use Rattle.unit_registry.specs.declared.act.Act.TheVariants.{Open, Hello, Repo, Export, Import, Compiled, Translate, Bad, Pause, Left, Lost, Done}
use Rattle.unit_registry.specs.Acts.{is_done}
use Rattle.histories.specs.declared.entry.Entry.{Entry}
use Rattle.histories.specs.Entries.{no_connection, has_its_unit, has_its_connection, IsTraceEntry}
use Rattle.trace_text.specs.declared.lines.Head.{Head}
use Rattle.trace_text.specs.declared.lines.BodyLine.{BodyLine}
use Rattle.trace_text.specs.declared.lines.BodyLine.TheVariants as body
use Rattle.mapper_requests.specs.Numbers.{IsNumber}
use Rattle.trace_text.specs.Texts.{name_word, ident_word, act_words, entry_words, head_words, end_words, most_workers, greatest_limit, IsHead}
use Rattle.trace_text.specs.Working.{number_in, unit_in, if_conn, lone_act, paired_act, hello_by, hello_act, entry_by, done_entry, short_entry, as_entry, short_line, body_line, is_head, head_by, head_of}
use Rattle.trace_text.proofs.Spelled.{some_same, none_some, map_is, bytes_same, number_in-is, number_in-back, not_number, unit_in-back, no_name, no_ident, no_dash, no_end_word, conn_is, conn_small, conn_back, Spells, lone_is, paired_is, hello_is}

-- the words are the entry's, and it is one of a trace
abbrev pub IsWritten : List (List ℕ) → Entry → Type 0
IsWritten words entry = (words ≡ entry_words entry) × IsTraceEntry entry

-- ---- what was read is written so

made : (conn : ℕ) (act : Act) (who : List ℕ) (rest : List (List ℕ)) → who ≡ decimal conn → nat_lt conn no_connection ≡ true → Spells rest act → IsWritten (who ∷ rest) (record { conn = conn; act = act })
made conn act who rest same below spells = (
  ap (λ w. w ∷ rest) same ∙ ap (λ ws. decimal conn ∷ ws) spells.0 ∙ ap (λ (b : Bool). (if b then codes "-" else decimal conn) ∷ act_words act) (sym spells.1.no_done),
  record {
    is_entry = and_from _ _ (ap (λ (b : Bool). if b then conn == no_connection else nat_lt conn no_connection) spells.1.no_done ∙ below) spells.1.unit;
    numbers = spells.1.numbers;
  },
)

entry_by-is : (who : List ℕ) (rest : List (List ℕ)) (o : Option Act) (entry : Entry) → ((act : Act) → o ≡ Some act → Spells rest act) → entry_by (if_conn (number_in who)) o ≡ Some entry → IsWritten (who ∷ rest) entry
entry_by-is who rest o entry spells e = by (if_conn (number_in who)) o refl spells e
  where
    by : (c : Option ℕ) (a : Option Act) → if_conn (number_in who) ≡ c → ((act : Act) → a ≡ Some act → Spells rest act) → entry_by c a ≡ Some entry → IsWritten (who ∷ rest) entry
    by (Some conn) (Some act) p good s =
        let is = conn_is who conn p in
        subst (λ (x : Entry). IsWritten (who ∷ rest) x) (some_same _ _ s) (made conn act who rest is.0 is.1 (good act refl))
    by (Some conn) None p good s = absurd (none_some entry s)
    by None a p good s = absurd (none_some entry s)

short_entry-is : (who verb : List ℕ) (entry : Entry) → short_entry who verb ≡ Some entry → IsWritten (who ∷ verb ∷ []) entry
short_entry-is who verb entry e = by (bytes_eq who (codes "-")) (bytes_eq verb (codes "done")) refl refl e
  where
    by : (x y : Bool) → bytes_eq who (codes "-") ≡ x → bytes_eq verb (codes "done") ≡ y
        → (if x then (if y then Some done_entry else None) else entry_by (if_conn (number_in who)) (lone_act verb)) ≡ Some entry → IsWritten (who ∷ verb ∷ []) entry
    by true true p q s =
        subst (λ (d : Entry). IsWritten (who ∷ verb ∷ []) d) (some_same _ _ s) (ap (λ w. w ∷ verb ∷ []) (bytes_same _ _ p) ∙ ap (λ w. codes "-" ∷ w ∷ []) (bytes_same _ _ q), record { is_entry = refl; numbers = tt })
    by true false p q s = absurd (none_some entry s)
    by false y p q s = entry_by-is who (verb ∷ []) (lone_act verb) entry (λ act found. lone_is verb act found) s

-- what a line says of its words
abbrev pub SaysWords : List (List ℕ) → BodyLine → Type 0
SaysWords words (body.End count) = (words ≡ end_words count) × IsNumber count
SaysWords words (body.Item entry) = IsWritten words entry

as_entry-is : (words : List (List ℕ)) (o : Option Entry) (line : BodyLine) → ((entry : Entry) → o ≡ Some entry → IsWritten words entry) → as_entry o ≡ Some line → SaysWords words line
as_entry-is words o line written e =
    let found = map_is (λ (entry : Entry). (let l : BodyLine = body.Item entry in l)) o line e in
    subst (λ (l : BodyLine). SaysWords words l) found.2 (written found.0 found.1)

short_line-is : (first second : List ℕ) (line : BodyLine) → short_line first second ≡ Some line → SaysWords (first ∷ second ∷ []) line
short_line-is first second line e = by (bytes_eq first (codes "end")) refl e
  where
    by : (b : Bool) → bytes_eq first (codes "end") ≡ b → (if b then option_map body.End (number_in second) else as_entry (short_entry first second)) ≡ Some line → SaysWords (first ∷ second ∷ []) line
    by true p s =
        let found = map_is (λ (count : ℕ). (let l : BodyLine = body.End count in l)) (number_in second) line s in
        let number = number_in-is second found.0 found.1 in
        subst (λ (l : BodyLine). SaysWords (first ∷ second ∷ []) l) found.2 (ap (λ w. w ∷ second ∷ []) (bytes_same _ _ p) ∙ ap (λ w. codes "end" ∷ w ∷ []) number.0, number.1)
    by false p s = as_entry-is (first ∷ second ∷ []) (short_entry first second) line (λ entry found. short_entry-is first second entry found) s

-- a line that was read has these words
pub body_line-is : (words : List (List ℕ)) (line : BodyLine) → body_line words ≡ Some line → SaysWords words line
body_line-is [] line e = absurd (none_some line e)
body_line-is (a ∷ []) line e = absurd (none_some line e)
body_line-is (a ∷ b ∷ []) line e = short_line-is a b line e
body_line-is (a ∷ b ∷ c ∷ []) line e = as_entry-is _ _ line (λ entry found. entry_by-is a (b ∷ c ∷ []) (paired_act b c) entry (λ act is. paired_is b c act is) found) e
body_line-is (a ∷ b ∷ c ∷ d ∷ []) line e = as_entry-is _ _ line (λ entry found. entry_by-is a (b ∷ c ∷ d ∷ []) (hello_act b c d) entry (λ act is. hello_is b c d act is) found) e
body_line-is (a ∷ b ∷ c ∷ d ∷ other ∷ rest) line e = absurd (none_some line e)

-- ---- what is written is read so

abbrev at : ℕ → Act → Option BodyLine
at conn act = Some (body.Item (record { conn = conn; act = act }))

entry_back : (conn : ℕ) (act : Act) (o : Option Act) → nat_lt conn no_connection ≡ true → o ≡ Some act → as_entry (entry_by (if_conn (number_in (decimal conn))) o) ≡ at conn act
entry_back conn act o below e =
    ap (λ (c : Option ℕ). as_entry (entry_by c o)) (conn_back conn below) ∙ ap (λ (a : Option Act). as_entry (entry_by (Some conn) a)) e

short_back : (conn : ℕ) (verb : List ℕ) (act : Act) → nat_lt conn no_connection ≡ true → lone_act verb ≡ Some act → short_line (decimal conn) verb ≡ at conn act
short_back conn verb act below e =
    cond-false _ _ _ (not_number conn (codes "end") (conn_small conn below) no_end_word)
    ∙ ap (λ (o : Option Entry). as_entry o) (cond-false _ _ _ (not_number conn (codes "-") (conn_small conn below) no_dash))
    ∙ entry_back conn act (lone_act verb) below e

name_back : (make : Option ℕ → Act) (u : Option ℕ) → IfSome u IsNumber → option_map make (unit_in (codes "?") (name_word u)) ≡ Some (make u)
name_back make u small = ap (λ (o : Option (Option ℕ)). option_map make o) (unit_in-back (codes "?") u no_name small)

paired_back : (act : Act) (verb word : List ℕ) → paired_act verb word ≡ Some act → (conn : ℕ) → nat_lt conn no_connection ≡ true → body_line (decimal conn ∷ verb ∷ word ∷ []) ≡ at conn act
paired_back act verb word e conn below = entry_back conn act (paired_act verb word) below e

conn_below : (conn : ℕ) (act : Act) → is_done act ≡ false → IsTraceEntry (record { conn = conn; act = act }) → nat_lt conn no_connection ≡ true
conn_below conn act going good =
    sym (ap (λ (b : Bool). if b then conn == no_connection else nat_lt conn no_connection) going) ∙ (and_parts (has_its_connection (record { conn = conn; act = act })) (has_its_unit act) good.is_entry).0

back : (conn : ℕ) (act : Act) → IsTraceEntry (record { conn = conn; act = act }) → body_line (entry_words (record { conn = conn; act = act })) ≡ at conn act
back conn Open good = short_back conn (codes "open") Open (conn_below conn Open refl good) refl
back conn Repo good = short_back conn (codes "repo") Repo (conn_below conn Repo refl good) refl
back conn Pause good = short_back conn (codes "pause") Pause (conn_below conn Pause refl good) refl
back conn Left good = short_back conn (codes "left") Left (conn_below conn Left refl good) refl
back conn Lost good = short_back conn (codes "lost") Lost (conn_below conn Lost refl good) refl
back conn Done good =
    let same : conn ≡ no_connection = eqb-true conn no_connection (and_parts (conn == no_connection) true good.is_entry).0 in
    ap (λ c. at c Done) (sym same)
back conn (Hello version unit) good =
    entry_back conn (Hello version unit) (hello_act (codes "hello") (decimal version) (ident_word unit)) (conn_below conn (Hello version unit) refl good) (hello_back version unit good.numbers.0 good.numbers.1)
  where
    hello_back : (v : ℕ) (u : Option ℕ) → IsNumber v → IfSome u IsNumber → hello_act (codes "hello") (decimal v) (ident_word u) ≡ Some (Hello v u)
    hello_back v u few small =
        ap (λ (o : Option ℕ). hello_by o (unit_in (codes "guest") (ident_word u))) (number_in-back v few)
        ∙ ap (λ (o : Option (Option ℕ)). hello_by (Some v) o) (unit_in-back (codes "guest") u no_ident small)
back conn (Export unit) good = paired_back (Export unit) (codes "export") (name_word unit) (name_back Export unit good.numbers) conn (conn_below conn (Export unit) refl good)
back conn (Import unit true) good = paired_back (Import unit true) (codes "name") (name_word unit) (name_back (λ u. Import u true) unit good.numbers) conn (conn_below conn (Import unit true) refl good)
back conn (Import unit false) good = paired_back (Import unit false) (codes "import") (name_word unit) (name_back (λ u. Import u false) unit good.numbers) conn (conn_below conn (Import unit false) refl good)
back conn (Compiled unit false) good = paired_back (Compiled unit false) (codes "compiled") (name_word unit) (name_back (λ u. Compiled u false) unit good.numbers) conn (conn_below conn (Compiled unit false) refl good)
back conn (Compiled (Some unit) true) good = paired_back (Compiled (Some unit) true) (codes "stored") (decimal unit) (ap (λ (o : Option ℕ). option_map (λ (u : ℕ). Compiled (Some u) true) o) (number_in-back unit good.numbers)) conn (conn_below conn (Compiled (Some unit) true) refl good)
back conn (Compiled None true) good =
    absurd (true≢false (sym (and_parts (nat_lt conn no_connection) false good.is_entry).1))
back conn (Translate true) good = paired_back (Translate true) (codes "translate") (codes "yes") refl conn (conn_below conn (Translate true) refl good)
back conn (Translate false) good = paired_back (Translate false) (codes "translate") (codes "no") refl conn (conn_below conn (Translate false) refl good)
back conn (Bad UnknownVerb) good = paired_back (Bad UnknownVerb) (codes "bad") (codes "verb") refl conn (conn_below conn (Bad UnknownVerb) refl good)
back conn (Bad WrongWords) good = paired_back (Bad WrongWords) (codes "bad") (codes "words") refl conn (conn_below conn (Bad WrongWords) refl good)
back conn (Bad BadNumber) good = paired_back (Bad BadNumber) (codes "bad") (codes "number") refl conn (conn_below conn (Bad BadNumber) refl good)

-- the words of an entry are read as that entry
pub body_line-entry : (entry : Entry) → IsTraceEntry entry → body_line (entry_words entry) ≡ Some (body.Item entry)
body_line-entry entry good = back entry.conn entry.act good

-- and those of the last line as that
pub body_line-end : (count : ℕ) → IsNumber count → body_line (end_words count) ≡ Some (body.End count)
body_line-end count small = ap (λ (o : Option ℕ). option_map body.End o) (number_in-back count small)

-- ---- the first line

is_head-parts : (workers limit : ℕ) → is_head workers limit ≡ true → IsHead workers limit
is_head-parts workers limit t =
    let third = and_parts (nat_le 1 workers && nat_le workers most_workers && nat_le workers limit) (nat_le limit greatest_limit) t in
    let second = and_parts (nat_le 1 workers && nat_le workers most_workers) (nat_le workers limit) third.0 in
    let first = and_parts (nat_le 1 workers) (nat_le workers most_workers) second.0 in
    record { some = leb-true 1 workers first.0; few = leb-true workers most_workers first.1; room = leb-true workers limit second.1; bound = leb-true limit greatest_limit third.1 }

is_head-from : (workers limit : ℕ) → IsHead workers limit → is_head workers limit ≡ true
is_head-from workers limit h =
    and_from _ _ (and_from _ _ (and_from _ _ (le-leb 1 workers h.some) (le-leb workers most_workers h.few)) (le-leb workers limit h.room)) (le-leb limit greatest_limit h.bound)

pub head_small : (workers limit : ℕ) → IsHead workers limit → IsNumber workers × IsNumber limit
head_small workers limit h =
    let a = h.few in
    let b = h.bound in
    (omega arith, omega arith)

-- what a first line says of its words
abbrev pub SaysHead : List (List ℕ) → Head → Type 0
SaysHead words head = (words ≡ head_words head.workers head.limit) × IsHead head.workers head.limit

head_four : (mark version workers limit : List ℕ) (head : Head) → head_of (mark ∷ version ∷ workers ∷ limit ∷ []) ≡ Some head → SaysHead (mark ∷ version ∷ workers ∷ limit ∷ []) head
head_four mark version workers limit head e = by (bytes_eq mark (codes "modmap-trace") && bytes_eq version (codes "1")) refl e
  where
    fits : (w n : ℕ) (b : Bool) → is_head w n ≡ b → number_in workers ≡ Some w → number_in limit ≡ Some n → (if b then Some (record { workers = w; limit = n }) else None) ≡ Some head → SaysHead (codes "modmap-trace" ∷ codes "1" ∷ workers ∷ limit ∷ []) head
    fits w n true t p q s =
        subst (λ (h : Head). SaysHead (codes "modmap-trace" ∷ codes "1" ∷ workers ∷ limit ∷ []) h) (some_same _ _ s) (ap (λ x. codes "modmap-trace" ∷ codes "1" ∷ x ∷ limit ∷ []) (number_in-is workers w p).0 ∙ ap (λ x. codes "modmap-trace" ∷ codes "1" ∷ decimal w ∷ x ∷ []) (number_in-is limit n q).0, is_head-parts w n t)
    fits w n false t p q s = absurd (none_some head s)

    numbers : (w n : Option ℕ) → number_in workers ≡ w → number_in limit ≡ n → head_by w n ≡ Some head → SaysHead (codes "modmap-trace" ∷ codes "1" ∷ workers ∷ limit ∷ []) head
    numbers (Some w) (Some n) p q s = fits w n (is_head w n) refl p q s
    numbers (Some w) None p q s = absurd (none_some head s)
    numbers None n p q s = absurd (none_some head s)

    by : (b : Bool) → (bytes_eq mark (codes "modmap-trace") && bytes_eq version (codes "1")) ≡ b → (if b then head_by (number_in workers) (number_in limit) else None) ≡ Some head → SaysHead (mark ∷ version ∷ workers ∷ limit ∷ []) head
    by true t s =
        let parts = and_parts (bytes_eq mark (codes "modmap-trace")) _ t in
        let found = numbers (number_in workers) (number_in limit) refl refl s in
        (ap (λ x. x ∷ version ∷ workers ∷ limit ∷ []) (bytes_same _ _ parts.0) ∙ ap (λ x. codes "modmap-trace" ∷ x ∷ workers ∷ limit ∷ []) (bytes_same _ _ parts.1) ∙ found.0, found.1)
    by false t s = absurd (none_some head s)

-- a first line that was read has these words
pub head_of-is : (words : List (List ℕ)) (head : Head) → head_of words ≡ Some head → SaysHead words head
head_of-is [] head e = absurd (none_some head e)
head_of-is (a ∷ []) head e = absurd (none_some head e)
head_of-is (a ∷ b ∷ []) head e = absurd (none_some head e)
head_of-is (a ∷ b ∷ c ∷ []) head e = absurd (none_some head e)
head_of-is (a ∷ b ∷ c ∷ d ∷ []) head e = head_four a b c d head e
head_of-is (a ∷ b ∷ c ∷ d ∷ other ∷ rest) head e = absurd (none_some head e)

-- the words of a first line are read as that
pub head_of-back : (workers limit : ℕ) → IsHead workers limit → head_of (head_words workers limit) ≡ Some (record { workers = workers; limit = limit })
head_of-back workers limit h =
    let small = head_small workers limit h in
    ap (λ (o : Option ℕ). head_by o (number_in (decimal limit))) (number_in-back workers small.0)
    ∙ ap (λ (o : Option ℕ). head_by (Some workers) o) (number_in-back limit small.1)
    ∙ cond-true _ _ _ (is_head-from workers limit h)
