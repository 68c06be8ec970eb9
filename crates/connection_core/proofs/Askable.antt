-- The acts of lines may be asked of a desk, and what a session comes to that has read a piece.
use Rattle.std.proofs.Common.{◌≡◌, ℕ, ◌<◌, ◌||◌, Bool, true, false, List, [], ◌∷◌, length, Option, Some, None, refl, sym, ap, subst, ◌∙◌, arith}
use Rattle.std.specs.Prelude.{nat_le}
use Rattle.std.specs.List.{AllByRecursion}
use Rattle.std.specs.Option.{option_map_or}
use Rattle.std.proofs.lemmas.Bool.{eqb-true, lt-leb}
use Rattle.std.proofs.lemmas.List.{length-map}
use Rattle.cody_words.specs.Lines.{Meaning, Blank, Words, Malformed as MalformedLine}
use Rattle.cody_words.specs.Meanings.{meaning}
use Rattle.mapper_requests.specs.Asked as asked
use Rattle.mapper_requests.specs.Requests.{request}
use Rattle.unit_registry.specs.declared.act.Act.TheVariants as act
use Rattle.unit_registry.specs.declared.kind.Kind.{Kind}
use Rattle.unit_registry.specs.declared.kind.Kind.TheVariants.{Module, Header, Plain}
use Rattle.unit_registry.specs.declared.unit.Declared.{Declared}
use Rattle.unit_registry.specs.Acts.{act as act_by}
use Rattle.unit_registry.specs.Kinds.{fits, is_plain_kind}
use Rattle.unit_registry.specs.Projects.{ProjectView, NamesFit, find_unit, find_ident, is_plain, kind_of, name_of, own_name, own_ident, unit_count}
use Rattle.unit_registry.proofs.Found.{find_by-within, find_by-some, find_by_at, has_word-same}
use Rattle.histories.specs.Entries.{has_its_unit}
use Rattle.histories.specs.Histories.{is_unit_out_of_range}
use Rattle.connection_core.specs.declared.asked.Asked.{Asked}
use Rattle.connection_core.specs.Asking.{Block, asked_in, asked_by, asked_of}
use Rattle.connection_core.specs.Entering.{CanAsk, LineCanAsk}

named_kind : (kind : Kind) (name : List ℕ) → 0 < length name → fits kind name ≡ true → is_plain_kind kind ≡ false
named_kind Module name some fit = refl
named_kind Header name some fit = refl
named_kind Plain name some fit = let none : length name ≡ 0 = eqb-true _ _ fit in absurd (omega (arith, none, some))

module _ (project : ProjectView) (fit : NamesFit project) where
  found_named : (name : List ℕ) (unit : ℕ) → find_unit project name ≡ Some unit → is_plain project unit ≡ false
  found_named name unit e =
      let found = find_by_at own_name project.units name unit e in
      let kind : kind_of project unit ≡ found.unit.kind = ap (λ (r : Option Declared). option_map_or (λ (d : Declared). d.kind) r Plain) found.at in
      let named : name_of project unit ≡ name = ap (λ (r : Option Declared). option_map_or own_name r []) found.at ∙ has_word-same own_name name found.unit found.passes in
      let fits_so : fits found.unit.kind name ≡ true = ap (λ (k : Kind). fits k name) (sym kind) ∙ ap (fits (kind_of project unit)) (sym named) ∙ fit unit (find_by-within own_name project.units name unit e) in
      ap (λ (r : Option Declared). option_map_or (λ (d : Declared). is_plain_kind d.kind) r false) found.at ∙ named_kind found.unit.kind name (find_by-some own_name project.units name unit e) fits_so

  below : (unit : ℕ) → unit < unit_count project → nat_le (unit_count project) unit ≡ false
  below unit lt = lt-leb (unit_count project) unit lt

  by_name : (name : List ℕ) (out : ℕ → Bool) → ((unit : ℕ) → unit < unit_count project → is_plain project unit ≡ false → out unit ≡ false) → option_map_or out (find_unit project name) false ≡ false
  by_name name out h = by (find_unit project name) refl
    where
      by : (r : Option ℕ) → find_unit project name ≡ r → option_map_or out r false ≡ false
      by None e = refl
      by (Some unit) e = h unit (find_by-within own_name project.units name unit e) (found_named name unit e)

  by_ident : (ident : List ℕ) (out : ℕ → Bool) → ((unit : ℕ) → unit < unit_count project → out unit ≡ false) → option_map_or out (find_ident project ident) false ≡ false
  by_ident ident out h = by (find_ident project ident) refl
    where
      by : (r : Option ℕ) → find_ident project ident ≡ r → option_map_or out r false ≡ false
      by None e = refl
      by (Some unit) e = h unit (find_by-within own_ident project.units ident unit e)

  neither : (unit : ℕ) → unit < unit_count project → is_plain project unit ≡ false → (nat_le (unit_count project) unit || is_plain project unit) ≡ false
  neither unit lt named = ap (λ b. b || is_plain project unit) (below unit lt) ∙ named

  above_not : (unit : ℕ) → unit < unit_count project → (nat_le (unit_count project) unit || false) ≡ false
  above_not unit lt = ap (λ b. b || false) (below unit lt)

  -- a report without an item
  whole_report : (unit : Option ℕ) → has_its_unit (act.Compiled unit false) ≡ true
  whole_report None = refl
  whole_report (Some unit) = refl

  can_ask : (asks : asked.Asked) → CanAsk project (act_by project asks false)
  can_ask (asked.Hello version compiler ident) = record { asks = refl; request = refl; range = by_ident ident (is_unit_out_of_range project (act.Hello version (find_ident project ident))) (λ unit lt. above_not unit lt); whole = refl; plain = refl }
  can_ask asked.Repo = record { asks = refl; request = refl; range = refl; whole = refl; plain = refl }
  can_ask (asked.Export name flags) = record { asks = refl; request = refl; range = by_name name (is_unit_out_of_range project (act.Export (find_unit project name))) (λ unit lt named. neither unit lt named); whole = refl; plain = refl }
  can_ask (asked.Import name flags) = record { asks = refl; request = refl; range = by_name name (is_unit_out_of_range project (act_by project (asked.Import name flags) false)) (λ unit lt named. neither unit lt named); whole = refl; plain = refl }
  can_ask (asked.Compiled name flags) = record { asks = refl; request = refl; range = by_name name (is_unit_out_of_range project (act_by project (asked.Compiled name flags) false)) (λ unit lt named. neither unit lt named); whole = whole_report (find_unit project name); plain = refl }
  can_ask (asked.Translate name flags) = record { asks = refl; request = refl; range = refl; whole = refl; plain = refl }
  can_ask (asked.Bad why) = record { asks = refl; request = refl; range = refl; whole = refl; plain = refl }

  line_can : (m : Meaning) → LineCanAsk project (asked_in project m)
  line_can Blank = record { asks = refl; request = refl; range = refl; whole = refl; plain = refl }
  line_can (Words words) = can_ask (request words)
  line_can (MalformedLine place reason) = tt

  lines_can : (block : Block) → AllByRecursion (LineCanAsk project) (asked_of project block)
  lines_can [] = tt
  lines_can (line ∷ block) = (line_can (meaning line), lines_can block)

  pub block_can : (seen : ProjectView) (block : Block) (lines : List Asked) → project ≡ seen → lines ≡ asked_of project block → AllByRecursion (LineCanAsk seen) lines
  block_can seen block lines same kept =
      subst (λ (p : ProjectView). AllByRecursion (LineCanAsk p) lines) same (subst (λ (xs : List Asked). AllByRecursion (LineCanAsk project) xs) (sym kept) (lines_can block))

pub kept_length : (project : ProjectView) (block : Block) (lines : List Asked) → lines ≡ asked_of project block → length lines ≡ length block
kept_length project block lines kept = ap length kept ∙ length-map block (asked_by project)
