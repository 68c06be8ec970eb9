-- The functions on names say what the grammar says.
use Rattle.std.proofs.Common.{◌≡◌, ◌≢◌, ℕ, ◌+◌, ◌<◌, suc, Bool, true, false, cond, eqb, ltb, leb, not, ◌&&◌, ◌||◌, List, [], ◌∷◌, ◌++◌, length, take, drop, get_or, Option, Some, None, refl, sym, ap, subst, ◌∙◌, inl, inr, arith}
use Rattle.std.specs.Prelude.{codes}
use Rattle.std.specs.List.{list_all, slice_split, onto_first, join_with_byte, position_or_len, before_first, after_first}
use Rattle.std.proofs.lemmas.List.{length-append, append-nil}
use Rattle.std.proofs.lemmas.List.Splits.{join_with_byte-slice_split}
use Rattle.std.proofs.lemmas.List.Sums.{split_at_first, passes_at_first}
use Rattle.std.proofs.lemmas.List.Folds.{list_all-append}
use Rattle.std.proofs.lemmas.Slice.Eq.{starts_is}
use Rattle.std.proofs.lemmas.Bool.{both_ways, and_parts, and_from, and_left, or_cases, or_left, or_right, eqb-true, ltb-true, ltb-false, lt-ltb, le-ltb, le-leb, leb-true, cases_lt, false_from_ne_true}
use Rattle.std.proofs.lemmas.Bool.Decides.{Decides-eqb}
use Rattle.header_units.specs.declared.name.NameKind.{NameKind}
use Rattle.header_units.specs.declared.name.NameKind.TheVariants.{Primary, Partition, Header}
use Rattle.header_units.specs.Octets.{is_letter, is_letter_or_digit, is_path_octet}
use Rattle.header_units.specs.Names.{is_identifier, is_dotted, is_partition, is_relative, is_absolute, is_rooted, is_header, name_kind}
use Rattle.header_units.specs.Grammar.{IsIdentifier, IsDotted, IsPartition, IsHeader, IsName}
use Rattle.header_units.proofs.Paths.{HasFirst, split_first}
use Rattle.header_units.proofs.Each.{list_all_weaker, each_from, each_to, list_all-join, lacks, lacks_from}
use Rattle.header_units.proofs.Splits.{slice_split-join, before_first-append, after_first-append, after_none}

-- ---- octets

-- a letter may stand behind the first
letter_goes_on : (c : ℕ) → is_letter c ≡ true → is_letter_or_digit c ≡ true
unfolding is_letter_or_digit
letter_goes_on c t = or_left (is_letter c) _ t

dot_goes_not_on : is_letter_or_digit 46 ≡ false
unfolding is_letter_or_digit is_letter
dot_goes_not_on = refl

dot_begins_not : is_letter 46 ≡ false
unfolding is_letter
dot_begins_not = refl

slash_begins_not : is_letter 47 ≡ false
unfolding is_letter
slash_begins_not = refl

-- what a dotted name has
unfoldable pub is_dotted_octet : ℕ → Bool
is_dotted_octet c = is_letter_or_digit c || eqb c 46

-- an identifier has octets of dotted names
goes_on_dotted : (c : ℕ) → is_letter_or_digit c ≡ true → is_dotted_octet c ≡ true
unfolding is_dotted_octet
goes_on_dotted c t = or_left (is_letter_or_digit c) (eqb c 46) t

dot_dotted : is_dotted_octet 46 ≡ true
unfolding is_dotted_octet
dot_dotted = or_right (is_letter_or_digit 46) true refl

colon_not_dotted : is_dotted_octet 58 ≡ false
unfolding is_dotted_octet is_letter_or_digit is_letter
colon_not_dotted = refl

-- what a module name has: no dash, and no comma
unfoldable pub is_module_octet : ℕ → Bool
is_module_octet c = is_dotted_octet c || eqb c 58

-- a dotted name has octets of module names
dotted_module : (c : ℕ) → is_dotted_octet c ≡ true → is_module_octet c ≡ true
unfolding is_module_octet
dotted_module c t = or_left (is_dotted_octet c) (eqb c 58) t

colon_module : is_module_octet 58 ≡ true
unfolding is_module_octet
colon_module = or_right (is_dotted_octet 58) true refl

pub dash_not_module : is_module_octet 45 ≡ false
unfolding is_module_octet is_dotted_octet is_letter_or_digit is_letter
dash_not_module = refl

-- ---- identifiers

-- what the test says
pub identifier_is : (word : List ℕ) → is_identifier word ≡ true → IsIdentifier word
identifier_is [] t = absurd cc
identifier_is (first ∷ rest) t =
    let outer = and_parts (is_letter first && list_all is_letter_or_digit rest) (leb (length (first ∷ rest)) 255) t in
    let inner = and_parts (is_letter first) (list_all is_letter_or_digit rest) outer.0 in
    record {
      first = first;
      rest = rest;
      whole = refl;
      letter = inner.0;
      each = each_from is_letter_or_digit (λ c. is_letter_or_digit c ≡ true) (λ c e. e) rest inner.1;
      short = leb-true (length (first ∷ rest)) 255 outer.1;
    }

-- what passes the test
pub identifier_from : (word : List ℕ) → IsIdentifier word → is_identifier word ≡ true
identifier_from word h =
    let good : is_identifier (h.first ∷ h.rest) ≡ true =
    and_from (is_letter h.first && list_all is_letter_or_digit h.rest) (leb (length (h.first ∷ h.rest)) 255)
    (and_from (is_letter h.first) (list_all is_letter_or_digit h.rest) h.letter (each_to is_letter_or_digit (λ c. is_letter_or_digit c ≡ true) (λ c e. e) h.rest h.each))
    (le-leb (length (h.first ∷ h.rest)) 255 (rw h.whole at h.short)) in
    ap is_identifier h.whole ∙ good

-- an identifier has letters and digits alone
identifier_octets : (word : List ℕ) → is_identifier word ≡ true → list_all is_letter_or_digit word ≡ true
identifier_octets [] t = absurd cc
identifier_octets (first ∷ rest) t =
    let outer = and_parts (is_letter first && list_all is_letter_or_digit rest) (leb (length (first ∷ rest)) 255) t in
    let inner = and_parts (is_letter first) (list_all is_letter_or_digit rest) outer.0 in
    and_from (is_letter_or_digit first) (list_all is_letter_or_digit rest) (letter_goes_on first inner.0) inner.1

-- an identifier begins with a letter
identifier_first : (c : ℕ) (rest : List ℕ) → is_identifier (c ∷ rest) ≡ true → is_letter c ≡ true
identifier_first c rest t =
    let outer = and_parts (is_letter c && list_all is_letter_or_digit rest) (leb (length (c ∷ rest)) 255) t in
    (and_parts (is_letter c) (list_all is_letter_or_digit rest) outer.0).0

-- ---- dotted names

-- what has a first part has some
not_none : (parts : List (List ℕ)) → HasFirst parts → parts ≢ []
not_none parts h = λ e. absurd (let w = h.whole in cc)

-- what the test says
pub dotted_is : (name : List ℕ) → is_dotted name ≡ true → IsDotted name
dotted_is name t = record {
  identifiers = slice_split (λ c. eqb c 46) name;
  some = not_none _ (split_first (λ c. eqb c 46) name);
  each = each_from is_identifier IsIdentifier identifier_is (slice_split (λ c. eqb c 46) name) t;
  joined = sym (join_with_byte-slice_split 46 name);
}

-- identifiers joined by dots pass the test
joined_dotted : (words : List (List ℕ)) → words ≢ [] → list_all is_identifier words ≡ true → is_dotted (join_with_byte 46 words) ≡ true
joined_dotted [] some t = absurd (some refl)
joined_dotted (word ∷ words) some t =
    let apart_from_dots = list_all_weaker is_identifier (lacks 46) (λ w u. lacks_from is_letter_or_digit 46 dot_goes_not_on w (identifier_octets w u)) (word ∷ words) t in
    ap (list_all is_identifier) (slice_split-join 46 word words apart_from_dots) ∙ t

-- what passes the test
pub dotted_from : (name : List ℕ) → IsDotted name → is_dotted name ≡ true
dotted_from name h = ap is_dotted h.joined ∙ joined_dotted h.identifiers h.some (each_to is_identifier IsIdentifier identifier_from h.identifiers h.each)

-- a dotted name has letters, digits and dots alone
dotted_octets : (name : List ℕ) → is_dotted name ≡ true → list_all is_dotted_octet name ≡ true
dotted_octets name t =
    subst (λ (xs : List ℕ). list_all is_dotted_octet xs ≡ true) (join_with_byte-slice_split 46 name)
    (list_all-join is_dotted_octet 46 dot_dotted (slice_split (λ c. eqb c 46) name)
    (list_all_weaker is_identifier (list_all is_dotted_octet) (λ w u. list_all_weaker is_letter_or_digit is_dotted_octet goes_on_dotted w (identifier_octets w u)) (slice_split (λ c. eqb c 46) name) t))

-- where the first part is an identifier, the first octet is a letter
first_of_onto : (c : ℕ) (parts : List (List ℕ)) → list_all is_identifier (onto_first c parts) ≡ true → is_letter c ≡ true
first_of_onto c [] t = identifier_first c [] (and_parts (is_identifier (c ∷ [])) true t).0
first_of_onto c (part ∷ parts) t = identifier_first c part (and_parts (is_identifier (c ∷ part)) (list_all is_identifier parts) t).0

-- the same, where the first octet may be a cut
first_of_cond : (b : Bool) (c : ℕ) (parts : List (List ℕ)) → list_all is_identifier (cond b ([] ∷ parts) (onto_first c parts)) ≡ true → is_letter c ≡ true
first_of_cond true c parts t = absurd cc
first_of_cond false c parts t = first_of_onto c parts t

-- a dotted name begins with a letter
dotted_first : (c : ℕ) (rest : List ℕ) → is_dotted (c ∷ rest) ≡ true → is_letter c ≡ true
dotted_first c rest t = first_of_cond (eqb c 46) c (slice_split (λ x. eqb x 46) rest) t

-- ---- partitions

-- what the test says
pub partition_is : (name : List ℕ) → is_partition name ≡ true → IsPartition name
partition_is name t =
    let both = and_parts (is_dotted (before_first (λ c. eqb c 58) name)) (is_dotted (after_first (λ c. eqb c 58) name)) t in
    elim (cases_lt (position_or_len (λ c. eqb c 58) name) (length name)) [
      | inl lt ↦
          (let mark : get_or name (position_or_len (λ c. eqb c 58) name) 0 ≡ 58 = eqb-true _ 58 (passes_at_first (λ c. eqb c 58) name 0 lt) in
          record {
            front = before_first (λ c. eqb c 58) name;
            back = after_first (λ c. eqb c 58) name;
            front_dotted = dotted_is _ both.0;
            back_dotted = dotted_is _ both.1;
            joined = split_at_first (λ c. eqb c 58) name 0 lt ∙ ap (λ (c : ℕ). before_first (λ x. eqb x 58) name ++ c ∷ after_first (λ x. eqb x 58) name) mark;
          })
      | inr le ↦ absurd (both_ways (is_dotted (after_first (λ c. eqb c 58) name)) (ap is_dotted (after_none (λ c. eqb c 58) name le)) both.1)
    ]

-- two dotted names joined by a colon pass the test
pub joined_partition : (front back : List ℕ) → is_dotted front ≡ true → is_dotted back ≡ true → is_partition (front ++ 58 ∷ back) ≡ true
joined_partition front back f b =
    let no_colon = lacks_from is_dotted_octet 58 colon_not_dotted front (dotted_octets front f) in
    and_from (is_dotted (before_first (λ c. eqb c 58) (front ++ 58 ∷ back))) (is_dotted (after_first (λ c. eqb c 58) (front ++ 58 ∷ back)))
    (ap is_dotted (before_first-append 58 front back no_colon) ∙ f)
    (ap is_dotted (after_first-append 58 front back no_colon) ∙ b)

-- what passes the test
pub partition_from : (name : List ℕ) → IsPartition name → is_partition name ≡ true
partition_from name h = ap is_partition h.joined ∙ joined_partition h.front h.back (dotted_from h.front h.front_dotted) (dotted_from h.back h.back_dotted)

-- what has a colon is no dotted name
colon_undotted : (front back : List ℕ) → is_dotted (front ++ 58 ∷ back) ≡ false
colon_undotted front back = false_from_ne_true (is_dotted (front ++ 58 ∷ back)) (λ t.
    let all = dotted_octets (front ++ 58 ∷ back) t in
    let both = and_parts (list_all is_dotted_octet front) (list_all is_dotted_octet (58 ∷ back)) (sym (list_all-append is_dotted_octet front (58 ∷ back)) ∙ all) in
    both_ways (is_dotted_octet 58) colon_not_dotted (and_parts (is_dotted_octet 58) (list_all is_dotted_octet back) both.1).0)

-- a partition is no dotted name
partition_undotted : (name : List ℕ) → IsPartition name → is_dotted name ≡ false
partition_undotted name h = ap is_dotted h.joined ∙ colon_undotted h.front h.back

-- ---- header names

-- `./` stands in front
pub relative_is : (name : List ℕ) → is_relative name ≡ true → name ≡ codes "./" ++ drop 2 name
relative_is name t = (starts_is Decides-eqb name (codes "./") (is_relative name) refl).0 t

-- `/` stands in front
pub absolute_is : (name : List ℕ) → is_absolute name ≡ true → name ≡ codes "/" ++ drop 1 name
absolute_is name t = (starts_is Decides-eqb name (codes "/") (is_absolute name) refl).0 t

-- what has `./` in front
pub relative_from : (name rest : List ℕ) → name ≡ codes "./" ++ rest → is_relative name ≡ true
relative_from name rest e = (starts_is Decides-eqb name (codes "./") (is_relative name) refl).1 rest e

-- what has `/` in front
pub absolute_from : (name rest : List ℕ) → name ≡ codes "/" ++ rest → is_absolute name ≡ true
absolute_from name rest e = (starts_is Decides-eqb name (codes "/") (is_absolute name) refl).1 rest e

-- what is longer than its front has something behind it
some_behind : (front rest name : List ℕ) → name ≡ front ++ rest → length front < length name → rest ≢ []
some_behind front rest name e lt = λ n. absurd (omega (arith, ap length e, length-append front rest, ap length n))

-- the other way round
longer : (front rest name : List ℕ) → name ≡ front ++ rest → rest ≢ [] → length front < length name
longer front [] name e some = absurd (some refl)
longer front (x ∷ rest) name e some = omega (arith, ap length e, length-append front (x ∷ rest))

-- what the test says
pub header_is : (name : List ℕ) → is_header name ≡ true → IsHeader name
header_is name t =
    let both = and_parts (is_rooted name) (list_all is_path_octet name) t in
    let each = each_from is_path_octet (λ c. is_path_octet c ≡ true) (λ c e. e) name both.1 in
    elim (or_cases (is_relative name && ltb 2 (length name)) (is_absolute name && ltb 1 (length name)) both.0) [
      | inl r ↦
          (let parts = and_parts (is_relative name) (ltb 2 (length name)) r in
          let whole = relative_is name parts.0 in
          record { root = codes "./"; rest = drop 2 name; root_is = inl refl; some = some_behind (codes "./") (drop 2 name) name whole (ltb-true 2 (length name) parts.1); joined = whole; each = each })
      | inr r ↦
          (let parts = and_parts (is_absolute name) (ltb 1 (length name)) r in
          let whole = absolute_is name parts.0 in
          record { root = codes "/"; rest = drop 1 name; root_is = inr refl; some = some_behind (codes "/") (drop 1 name) name whole (ltb-true 1 (length name) parts.1); joined = whole; each = each })
    ]

-- what passes the test
pub header_from : (name : List ℕ) → IsHeader name → is_header name ≡ true
header_from name h =
    let each = each_to is_path_octet (λ c. is_path_octet c ≡ true) (λ c e. e) name h.each in
    let rooted : is_rooted name ≡ true = elim h.root_is [
      | inl r ↦
          (let whole : name ≡ codes "./" ++ h.rest = h.joined ∙ ap (λ (root : List ℕ). root ++ h.rest) r in
          or_left (is_relative name && ltb 2 (length name)) (is_absolute name && ltb 1 (length name))
          (and_from (is_relative name) (ltb 2 (length name)) (relative_from name h.rest whole) (lt-ltb 2 (length name) (longer (codes "./") h.rest name whole h.some))))
      | inr r ↦
          (let whole : name ≡ codes "/" ++ h.rest = h.joined ∙ ap (λ (root : List ℕ). root ++ h.rest) r in
          or_right (is_relative name && ltb 2 (length name)) (is_absolute name && ltb 1 (length name))
          (and_from (is_absolute name) (ltb 1 (length name)) (absolute_from name h.rest whole) (lt-ltb 1 (length name) (longer (codes "/") h.rest name whole h.some))))
    ] in
    and_from (is_rooted name) (list_all is_path_octet name) rooted each

-- what begins with no letter is no module name
pub record IsNoModule (name : List ℕ) : Type 0 where
  pub undotted : is_dotted name ≡ false
  pub undivided : is_partition name ≡ false

-- one more is the next number
one_more : (k : ℕ) → 1 + k ≡ suc k
one_more k = omega arith

-- an octet that is no colon stands before the first colon
before_first-cons : (c : ℕ) (rest : List ℕ) → eqb c 58 ≡ false → before_first (λ x. eqb x 58) (c ∷ rest) ≡ c ∷ before_first (λ x. eqb x 58) rest
before_first-cons c rest n =
    ap (λ (b : Bool). take (cond (not b) (1 + position_or_len (λ x. eqb x 58) rest) 0) (c ∷ rest)) n
    ∙ ap (λ (k : ℕ). take k (c ∷ rest)) (one_more (position_or_len (λ x. eqb x 58) rest))

-- an octet that is no letter begins no module name
no_module : (c : ℕ) (rest : List ℕ) → is_letter c ≡ false → eqb c 58 ≡ false → IsNoModule (c ∷ rest)
no_module c rest f n =
    let before : before_first (λ x. eqb x 58) (c ∷ rest) ≡ c ∷ before_first (λ x. eqb x 58) rest = before_first-cons c rest n in
    record {
      undotted = false_from_ne_true (is_dotted (c ∷ rest)) (λ t. both_ways (is_letter c) f (dotted_first c rest t));
      undivided = and_left (is_dotted (before_first (λ x. eqb x 58) (c ∷ rest))) (is_dotted (after_first (λ x. eqb x 58) (c ∷ rest)))
          (false_from_ne_true (is_dotted (before_first (λ x. eqb x 58) (c ∷ rest))) (λ t. both_ways (is_letter c) f (dotted_first c (before_first (λ x. eqb x 58) rest) (sym (ap is_dotted before) ∙ t))));
    }

-- a header name is no module name
header_no_module : (name : List ℕ) → IsHeader name → IsNoModule name
header_no_module name h =
    subst IsNoModule (sym h.joined) (elim h.root_is [
      | inl r ↦ subst (λ (root : List ℕ). IsNoModule (root ++ h.rest)) (sym r) (no_module 46 (47 ∷ h.rest) dot_begins_not refl)
      | inr r ↦ subst (λ (root : List ℕ). IsNoModule (root ++ h.rest)) (sym r) (no_module 47 h.rest slash_begins_not refl)
    ])

-- ---- names

-- the tests that lead to a kind
abbrev kind_by : Bool → Bool → Bool → Bool → Option NameKind
kind_by long dotted divided rooted = cond long None (cond dotted (Some Primary) (cond divided (Some Partition) (cond rooted (Some Header) None)))

-- the kind is what the tests lead to
name_kind_by : (name : List ℕ) → name_kind name ≡ kind_by (ltb 512 (length name)) (is_dotted name) (is_partition name) (is_header name)
unfolding name_kind
name_kind_by name = refl

-- the kind, where the answers of the tests are known
kind_from : (name : List ℕ) (long dotted divided rooted : Bool) → ltb 512 (length name) ≡ long → is_dotted name ≡ dotted → is_partition name ≡ divided → is_header name ≡ rooted
    → name_kind name ≡ kind_by long dotted divided rooted
kind_from name long dotted divided rooted a b c d = name_kind_by name ∙ rw (a, b, c, d) refl

-- a name has its kind
pub found_kind : (kind : NameKind) (name : List ℕ) → IsName kind name → name_kind name ≡ Some kind
found_kind Primary name h =
    kind_from name false true (is_partition name) (is_header name) (le-ltb 512 (length name) h.short) (dotted_from name h.form) refl refl
found_kind Partition name h =
    kind_from name false false true (is_header name) (le-ltb 512 (length name) h.short) (partition_undotted name h.form) (partition_from name h.form) refl
found_kind Header name h =
    let no = header_no_module name h.form in
    kind_from name false false false true (le-ltb 512 (length name) h.short) no.undotted no.undivided (header_from name h.form)

-- a kind that the tests lead to is right
by_tests : (name : List ℕ) (long dotted divided rooted : Bool) → ltb 512 (length name) ≡ long → is_dotted name ≡ dotted → is_partition name ≡ divided → is_header name ≡ rooted
    → (kind : NameKind) → kind_by long dotted divided rooted ≡ Some kind → IsName kind name
by_tests name true dotted divided rooted a b c d kind e = absurd cc
by_tests name false true divided rooted a b c d kind e =
    let same : Primary ≡ kind = cc in
    subst (λ (k : NameKind). IsName k name) same (record { form = dotted_is name b; short = ltb-false 512 (length name) a })
by_tests name false false true rooted a b c d kind e =
    let same : Partition ≡ kind = cc in
    subst (λ (k : NameKind). IsName k name) same (record { form = partition_is name c; short = ltb-false 512 (length name) a })
by_tests name false false false true a b c d kind e =
    let same : Header ≡ kind = cc in
    subst (λ (k : NameKind). IsName k name) same (record { form = header_is name d; short = ltb-false 512 (length name) a })
by_tests name false false false false a b c d kind e = absurd cc

-- the kind is right
pub kind_is : (kind : NameKind) (name : List ℕ) → name_kind name ≡ Some kind → IsName kind name
kind_is kind name e =
    by_tests name (ltb 512 (length name)) (is_dotted name) (is_partition name) (is_header name) refl refl refl refl kind (sym (name_kind_by name) ∙ e)

-- what has no kind is no name
pub no_kind : (name : List ℕ) → name_kind name ≡ None → (kind : NameKind) → IsName kind name → ⊥
no_kind name e kind h = let found = found_kind kind name h in absurd cc

-- a name has one kind
pub one_kind : (kind other : NameKind) (name : List ℕ) → IsName kind name → IsName other name → kind ≡ other
one_kind kind other name h g = let first = found_kind kind name h in let second = found_kind other name g in cc

-- ---- what a CMI name is made of

-- the beginning of a name decides how its CMI name begins
pub data Begins (name : List ℕ) : Type 0 where
  relative : (rest : List ℕ) → name ≡ 46 ∷ 47 ∷ rest → Begins name
  absolute : (rest : List ℕ) → name ≡ 47 ∷ rest → Begins name
  letter : (c : ℕ) → (rest : List ℕ) → name ≡ c ∷ rest → is_letter c ≡ true → list_all is_module_octet name ≡ true → Begins name

-- what has a dotted name in front begins with a letter
dotted_begins : (name : List ℕ) → is_dotted name ≡ true → (rest : List ℕ) → list_all is_module_octet (name ++ rest) ≡ true → Begins (name ++ rest)
dotted_begins [] t rest all = absurd cc
dotted_begins (c ∷ name) t rest all = letter c (name ++ rest) refl (dotted_first c name t) all

-- a dotted name has octets of module names alone
module_octets : (name : List ℕ) → is_dotted name ≡ true → list_all is_module_octet name ≡ true
module_octets name t = list_all_weaker is_dotted_octet is_module_octet dotted_module name (dotted_octets name t)

-- so has a partition
joined_octets : (front back : List ℕ) → is_dotted front ≡ true → is_dotted back ≡ true → list_all is_module_octet (front ++ 58 ∷ back) ≡ true
joined_octets front back f b =
    list_all-append is_module_octet front (58 ∷ back)
    ∙ and_from (list_all is_module_octet front) (list_all is_module_octet (58 ∷ back)) (module_octets front f) (and_from (is_module_octet 58) (list_all is_module_octet back) colon_module (module_octets back b))

-- how a name begins
pub begins : (kind : NameKind) (name : List ℕ) → IsName kind name → Begins name
begins Primary name h =
    let t = dotted_from name h.form in
    subst Begins (append-nil name) (dotted_begins name t [] (subst (λ (xs : List ℕ). list_all is_module_octet xs ≡ true) (sym (append-nil name)) (module_octets name t)))
begins Partition name h =
    let p = h.form in
    let f = dotted_from p.front p.front_dotted in
    subst Begins (sym p.joined) (dotted_begins p.front f (58 ∷ p.back) (joined_octets p.front p.back f (dotted_from p.back p.back_dotted)))
begins Header name h =
    let p = h.form in
    elim p.root_is [
      | inl r ↦ relative p.rest (p.joined ∙ ap (λ (root : List ℕ). root ++ p.rest) r)
      | inr r ↦ absolute p.rest (p.joined ∙ ap (λ (root : List ℕ). root ++ p.rest) r)
    ]
