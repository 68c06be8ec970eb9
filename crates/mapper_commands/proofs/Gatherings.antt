-- What the files of units hold, one unit after another.
use Rattle.std.proofs.Common.{◌≡◌, ◌≢◌, ◌⊎◌, inl, inr, ℕ, zero, suc, ◌+◌, ◌<◌, ◌≤◌, Bool, true, false, List, [], ◌∷◌, ◌++◌, length, take, get_or, Option, Some, None, Result, Ok, Err, refl, sym, ap, subst, ◌∙◌, arith}
use Rattle.std.specs.Prelude.{slice_get, count_by, IfOk, IfErr, not, ◌||◌}
use Rattle.std.specs.List.{list_any}
use Rattle.std.proofs.lemmas.List.Folds.{list_any_at, list_any_more}
use Rattle.std.specs.Option.{option_map_or}
use Rattle.std.proofs.Math.Nat.{eq-or-lt_of_le}
use Rattle.std.proofs.lemmas.List.{length-append}
use Rattle.std.proofs.lemmas.List.Elements.{All-push}
use Rattle.std.proofs.lemmas.List.Sums.{count_by_more_yes, count_by_more_no}
use Rattle.std.proofs.lemmas.Option.{slice_get-get_or, slice_get_within, get_or_from_slice_get}
use Rattle.mm_outside.specs.Files.{Lookup, Finds}
use Rattle.mm_outside.specs.Told.{Told}
use Rattle.mm_outside.proofs.ToldLemmas.{Told-map, Told-then}
use Rattle.unit_registry.specs.declared.unit.Declared.{Declared}
use Rattle.unit_registry.specs.declared.kind.Kind.TheVariants as kinds
use Rattle.unit_registry.specs.declared.kind.Kind.{Kind}
use Rattle.unit_registry.specs.Projects.{ProjectView, unit_count, is_built, ident_of, name_of, kind_of, NamesFit}
use Rattle.unit_registry.specs.Kinds.{fits, is_module_name, is_header_name}
use Rattle.unit_registry.specs.Grammar.{CanFollow, MayBeBuilt}
use Rattle.header_units.specs.Names.{name_kind}
use Rattle.export_lists.specs.declared.cmi.Cmi.{Cmi}
use Rattle.export_lists.specs.Listings.{built_before}
use Rattle.mm_outside.specs.declared.files.ReadAllError.TheVariants as errors
use Rattle.mapper_commands.specs.declared.unit_files.Fault.{Fault}
use Rattle.mapper_commands.specs.Endings.{Ended}
use Rattle.mapper_commands.specs.ProjectFiles.{KeepsReads, none_failed, at_file, for_memory}
use Rattle.mapper_commands.specs.FileReadings.{Stay}
use Rattle.mapper_commands.specs.ListRuns.{Fit, HoldsWithin, HoldsCmi, HoldsSource, HoldsBuilt, HoldUnits, most_source_octets, most_cmi_octets, most_by, file_by, cmi_file, RefusesFile, no_memory, too_long, RefusesUnit, as_file, as_cmi, IsNoCmiOf, not_a_cmi, FileSo, SourceSo, TextSo, CmiSo, StopsAt, IsDeclared, BuiltHaveNames, has_failed, ended_at, ended_for, other_unit, unit_file, KeepsReadsAt, reads_stay, at_read, at_memory}
use Rattle.mapper_commands.specs.declared.unit_files.Fault.TheVariants as faults
use Rattle.export_lists.specs.declared.outcome.Outcome.{Outcome}
use Rattle.export_lists.specs.CmiFaults.{IsCmiText}

-- ---- how many units were built before

nowhere : Declared
nowhere = record { kind = kinds.Plain; name = []; ident = []; built = false }

built_at : (project : ProjectView) (k : ℕ) (flag : Bool) → k < unit_count project → is_built project k ≡ flag → (get_or project.units k nowhere).built ≡ flag
built_at project k flag lt e = sym (ap (λ found. option_map_or (λ (entry : Declared). entry.built) found false) (slice_get-get_or project.units k nowhere lt)) ∙ e

more_yes : (project : ProjectView) (k : ℕ) → k < unit_count project → is_built project k ≡ true → built_before project (suc k) ≡ built_before project k + 1
more_yes project k lt is =
    let next : suc k ≡ k + 1 = omega arith in
    ap (λ n. count_by (λ (unit : Declared). unit.built) (take n project.units)) next ∙ count_by_more_yes (λ (unit : Declared). unit.built) project.units k nowhere lt (built_at project k true lt is)

more_no : (project : ProjectView) (k : ℕ) → k < unit_count project → is_built project k ≡ false → built_before project (suc k) ≡ built_before project k
more_no project k lt isnt =
    let next : suc k ≡ k + 1 = omega arith in
    ap (λ n. count_by (λ (unit : Declared). unit.built) (take n project.units)) next ∙ count_by_more_no (λ (unit : Declared). unit.built) project.units k nowhere lt (built_at project k false lt isnt)

-- ---- places

get_before : {X : Type 0} (xs ys : List X) (k : ℕ) (x : X) → slice_get xs k ≡ Some x → slice_get (xs ++ ys) k ≡ Some x
get_before [] ys k x e = absurd (cc)
get_before (z ∷ xs) ys zero x e = e
get_before (z ∷ xs) ys (suc k) x e = get_before xs ys k x e

get_last : {X : Type 0} (xs : List X) (k : ℕ) (x : X) → length xs ≡ k → slice_get (xs ++ x ∷ []) k ≡ Some x
get_last [] zero x e = refl
get_last [] (suc k) x e = absurd (omega (arith, e))
get_last (z ∷ xs) zero x e = absurd (omega (arith, e))
get_last (z ∷ xs) (suc k) x e = get_last xs k x (omega (arith, e))

-- ---- as many as there are

pub fit_source : (project : ProjectView) (k : ℕ) (sources : List (List ℕ)) (built : List Cmi) (text : List ℕ) → k < unit_count project → is_built project k ≡ false → length text ≤ most_source_octets → Fit project k sources built → Fit project (suc k) (sources ++ text ∷ []) built
fit_source project k sources built text lt isnt within fit = record {
  sources_fit = omega (arith, length-append sources (text ∷ []), fit.sources_fit);
  short = All-push (λ (source : List ℕ). length source ≤ most_source_octets) sources text fit.short within;
  built_fit = fit.built_fit ∙ sym (more_no project k lt isnt);
}

pub fit_built : (project : ProjectView) (k : ℕ) (sources : List (List ℕ)) (built : List Cmi) (cmi : Cmi) → k < unit_count project → is_built project k ≡ true → Fit project k sources built → Fit project (suc k) (sources ++ [] ∷ []) (built ++ cmi ∷ [])
fit_built project k sources built cmi lt is fit = record {
  sources_fit = omega (arith, length-append sources ([] ∷ []), fit.sources_fit);
  short = All-push (λ (source : List ℕ). length source ≤ most_source_octets) sources [] fit.short (omega arith);
  built_fit = omega (arith, length-append built (cmi ∷ []), fit.built_fit, more_yes project k lt is);
}

-- ---- what they hold

other : (b : Bool) → b ≡ true → b ≡ false → ⊥
other b is isnt = cc

before_or_here : (unit k : ℕ) → unit < suc k → (unit ≡ k) ⊎ (unit < k)
before_or_here unit k lt = eq-or-lt_of_le (omega arith)

module _ (project : ProjectView) (content : Lookup) (k : ℕ) (sources : List (List ℕ)) (built : List Cmi) (lt : k < unit_count project) where
  source_by : (text : List ℕ) → HoldsWithin content (ident_of project k) most_source_octets text → HoldUnits project content k sources built → (unit : ℕ) → (unit ≡ k) ⊎ (unit < k) → is_built project unit ≡ false → HoldsSource project content (sources ++ text ∷ []) unit
  source_by text holds before unit (inl here) isnt = subst (HoldsSource project content (sources ++ text ∷ [])) (sym here) (record { text = text; place = get_last sources k text before.fit.sources_fit; holds = holds })
  source_by text holds before unit (inr below) isnt = let was = before.source unit below isnt in record { text = was.text; place = get_before sources (text ∷ []) unit was.text was.place; holds = was.holds }

  interface_by : is_built project k ≡ false → HoldUnits project content k sources built → (unit : ℕ) → (unit ≡ k) ⊎ (unit < k) → is_built project unit ≡ true → HoldsBuilt project content built unit
  interface_by isnt before unit (inl here) is = absurd (other (is_built project unit) is (ap (is_built project) here ∙ isnt))
  interface_by isnt before unit (inr below) is = before.interface unit below is

  -- one source more
  pub hold_source : (text : List ℕ) → is_built project k ≡ false → HoldsWithin content (ident_of project k) most_source_octets text → HoldUnits project content k sources built → HoldUnits project content (suc k) (sources ++ text ∷ []) built
  hold_source text isnt holds before = record {
    fit = fit_source project k sources built text lt isnt holds.within before.fit;
    source = λ unit below none. source_by text holds before unit (before_or_here unit k below) none;
    interface = λ unit below is. interface_by isnt before unit (before_or_here unit k below) is;
  }

  older_source : is_built project k ≡ true → HoldUnits project content k sources built → (unit : ℕ) → (unit ≡ k) ⊎ (unit < k) → is_built project unit ≡ false → HoldsSource project content (sources ++ [] ∷ []) unit
  older_source is before unit (inl here) isnt = absurd (other (is_built project unit) (ap (is_built project) here ∙ is) isnt)
  older_source is before unit (inr below) isnt = let was = before.source unit below isnt in record { text = was.text; place = get_before sources ([] ∷ []) unit was.text was.place; holds = was.holds }

  newer_interface : (cmi : Cmi) → HoldsCmi project content k cmi → HoldUnits project content k sources built → (unit : ℕ) → (unit ≡ k) ⊎ (unit < k) → is_built project unit ≡ true → HoldsBuilt project content (built ++ cmi ∷ []) unit
  newer_interface cmi holds before unit (inl here) is = subst (HoldsBuilt project content (built ++ cmi ∷ [])) (sym here) (record { cmi = cmi; place = get_last built (built_before project k) cmi before.fit.built_fit; holds = holds })
  newer_interface cmi holds before unit (inr below) is = let was = before.interface unit below is in record { cmi = was.cmi; place = get_before built (cmi ∷ []) (built_before project unit) was.cmi was.place; holds = was.holds }

  -- one interface more
  pub hold_built : (cmi : Cmi) → is_built project k ≡ true → HoldsCmi project content k cmi → HoldUnits project content k sources built → HoldUnits project content (suc k) (sources ++ [] ∷ []) (built ++ cmi ∷ [])
  hold_built cmi is holds before = record {
    fit = fit_built project k sources built cmi lt is before.fit;
    source = λ unit below isnt. older_source is before unit (before_or_here unit k below) isnt;
    interface = λ unit below built_too. newer_interface cmi holds before unit (before_or_here unit k below) built_too;
  }

-- ---- what files tell

-- what is told, put differently
pub Stay-map : {R S : Lookup → Type 0} {a b : Option Lookup} → ((content : Lookup) → R content → S content) → Told (Stay R) a b → Told (Stay S) a b
Stay-map {R} {S} step told = Told-map {R = Stay R} {S = Stay S} (λ x y stay. record { same = stay.same; so = step x stay.so }) told

-- one read behind another
pub Stay-then : {R S Q : Lookup → Type 0} {a b c : Option Lookup} → ((content : Lookup) → R content → S content → Q content) → Told (Stay R) a b → Told (Stay S) b c → Told (Stay Q) a c
Stay-then {R} {S} {Q} step first second = Told-then {R = Stay R} {S = Stay S} {Q = Stay Q} (λ x y z p q. record { same = q.same ∙ p.same; so = step x p.so (subst S p.same q.so) }) first second

-- ---- one file

-- a file above its limit
pub told_too_long : (failed : Type 0) (name : List ℕ) (most : ℕ) (a b : Option Lookup) → Told (Finds (Err errors.TooLong) name most) a b → Told (Stay (FileSo failed name most (Err faults.TooLong))) a b
told_too_long failed name most a b = Told-map {R = Finds (Err errors.TooLong) name most} {S = Stay (FileSo failed name most (Err faults.TooLong))} (λ x y found. record { same = found.same; so = too_long found.answer.0 refl found.answer.1 found.answer.2 })

module _ (failed : Type 0) (project : ProjectView) (unit : ℕ) where
  -- the file of a unit that isn't taken
  file_of_unit : (built : Bool) (content : Lookup) (ended : Ended) → is_built project unit ≡ built → RefusesFile failed (file_by built project unit) (most_by built) content ended → RefusesUnit failed project unit content ended
  file_of_unit built content ended is refuses = as_file (subst (λ b. RefusesFile failed (file_by b project unit) (most_by b) content ended) (sym is) refuses)

  named_for : (built : Bool) → is_built project unit ≡ built → (found : Fault) → ended_at (file_by built project unit) found ≡ ended_for project unit found
  named_for built is found = ap (λ b. ended_at (file_by b project unit) found) (sym is)

  source_told : (result : Result (List ℕ) Fault) (content : Lookup) → is_built project unit ≡ false → FileSo failed (ident_of project unit) most_source_octets result content → SourceSo failed project unit result content
  source_told (Ok text) content isnt holds = holds
  source_told (Err found) content isnt refuses = subst (RefusesUnit failed project unit content) (named_for false isnt found) (file_of_unit false content (ended_at (ident_of project unit) found) isnt refuses)

  -- a source
  pub source_so : (result : Result (List ℕ) Fault) (name : List ℕ) (a b : Option Lookup) → is_built project unit ≡ false → name ≡ ident_of project unit → Told (Stay (FileSo failed name most_source_octets result)) a b → Told (Stay (SourceSo failed project unit result)) a b
  source_so result name a b isnt named told = Stay-map {R = FileSo failed name most_source_octets result} {S = SourceSo failed project unit result} (λ content so. source_told result content isnt (subst (λ n. FileSo failed n most_source_octets result content) named so)) told

  -- the file of an interface that isn't taken
  pub cmi_refused : (found : Fault) (name : List ℕ) (a b : Option Lookup) → is_built project unit ≡ true → name ≡ cmi_file project unit → Told (Stay (FileSo failed name most_cmi_octets (Err found))) a b → Told (Stay (CmiSo failed project unit (Err found))) a b
  cmi_refused found name a b is named told = Stay-map {R = FileSo failed name most_cmi_octets (Err found)} {S = CmiSo failed project unit (Err found)} (λ content refuses.
      subst (RefusesUnit failed project unit content) (named_for true is found)
      (file_of_unit true content (ended_at (cmi_file project unit) found) is (subst (λ n. FileSo failed n most_cmi_octets (Err found) content) named refuses))) told

  -- a text that is no interface of the unit
  text_refused : (text : List ℕ) (content : Lookup) (ended : Ended) → is_built project unit ≡ true → HoldsWithin content (cmi_file project unit) most_cmi_octets text → IsNoCmiOf (cmi_file project unit) (name_of project unit) text ended → RefusesUnit failed project unit content ended
  text_refused text content ended is holds bad = as_cmi text is
      (subst (λ b. HoldsWithin content (file_by b project unit) most_cmi_octets text) (sym is) holds)
      (subst (λ b. IsNoCmiOf (file_by b project unit) (name_of project unit) text ended) (sym is) bad)

  text_told : (result : Result Cmi Fault) (text : List ℕ) (content : Lookup) → is_built project unit ≡ true → HoldsWithin content (cmi_file project unit) most_cmi_octets text → TextSo (name_of project unit) text result → CmiSo failed project unit result content
  text_told (Ok cmi) text content is holds so = record { text = text; holds = holds; reads = so.0; named = so.1 }
  text_told (Err faults.Unreadable) text content is holds so = absurd so
  text_told (Err faults.TooLong) text content is holds so = absurd so
  text_told (Err (faults.NotCmi line)) text content is holds so = subst (RefusesUnit failed project unit content) (named_for true is (faults.NotCmi line)) (text_refused text content _ is holds (not_a_cmi line refl so))
  text_told (Err faults.OtherUnit) text content is holds so = subst (RefusesUnit failed project unit content) (named_for true is faults.OtherUnit) (text_refused text content _ is holds (other_unit so.0 refl so.1 so.2))
  text_told (Err faults.Memory) text content is holds so = as_file (no_memory refl)

  -- an interface's file that was read
  pub cmi_so : (result : Result Cmi Fault) (file declared text octets : List ℕ) (a b : Option Lookup) → is_built project unit ≡ true → file ≡ cmi_file project unit → declared ≡ name_of project unit → octets ≡ text → Told (Stay (FileSo failed file most_cmi_octets (Ok text))) a b → TextSo declared octets result → Told (Stay (CmiSo failed project unit result)) a b
  cmi_so result file declared text octets a b is filed known same told so = Stay-map {R = FileSo failed file most_cmi_octets (Ok text)} {S = CmiSo failed project unit result} (λ content holds. text_told result text content is
      (subst (λ n. HoldsWithin content n most_cmi_octets text) filed holds)
      (subst (λ t. TextSo (name_of project unit) t result) same (subst (λ d. TextSo d octets result) known so))) told

  -- ---- what is added

  pub source_adds : (sources new : List (List ℕ)) (built : List Cmi) (text : List ℕ) (a b : Option Lookup) → unit < unit_count project → is_built project unit ≡ false → new ≡ sources ++ text ∷ [] → Told (Stay (SourceSo failed project unit (Ok text))) a b
      → Told (Stay (λ content. HoldUnits project content unit sources built → HoldUnits project content (suc unit) new built)) a b
  source_adds sources new built text a b lt isnt e told = Stay-map {R = SourceSo failed project unit (Ok text)} {S = λ content. HoldUnits project content unit sources built → HoldUnits project content (suc unit) new built} (λ content holds before.
      subst (λ all. HoldUnits project content (suc unit) all built) (sym e) (hold_source project content unit sources built lt text isnt holds before)) told

  pub built_adds : (sources new : List (List ℕ)) (built more : List Cmi) (cmi : Cmi) (a b : Option Lookup) → unit < unit_count project → is_built project unit ≡ true → new ≡ sources ++ [] ∷ [] → more ≡ built ++ cmi ∷ [] → Told (Stay (CmiSo failed project unit (Ok cmi))) a b
      → Told (Stay (λ content. HoldUnits project content unit sources built → HoldUnits project content (suc unit) new more)) a b
  built_adds sources new built more cmi a b lt is e d told = Stay-map {R = CmiSo failed project unit (Ok cmi)} {S = λ content. HoldUnits project content unit sources built → HoldUnits project content (suc unit) new more} (λ content holds before.
      subst (λ all. HoldUnits project content (suc unit) all more) (sym e) (subst (λ all. HoldUnits project content (suc unit) (sources ++ [] ∷ []) all) (sym d) (hold_built project content unit sources built lt cmi is holds before))) told

-- an interface that was read, where it is checked whose it is
pub checked : (result : Result Cmi Fault) (declared text : List ℕ) (cmi : Cmi) → IsCmiText text cmi → IfOk result (λ found. (found ≡ cmi) × (cmi.unit ≡ declared)) → IfErr result (λ found. (found ≡ faults.OtherUnit) × (cmi.unit ≢ declared)) → TextSo declared text result
checked (Ok found) declared text cmi read taken refused = (subst (IsCmiText text) (sym taken.0) read, ap (λ (c : Cmi). c.unit) taken.0 ∙ taken.1)
checked (Err found) declared text cmi read taken refused = subst (λ f. TextSo declared text (Err f)) (sym refused.0) (cmi, read, refused.1)

-- ---- whether a unit failed

-- one failed
pub one_failed : (outcomes : List Outcome) (k : ℕ) (outcome : Outcome) → slice_get outcomes k ≡ Some outcome → true ≡ has_failed outcome → false ≡ not (list_any has_failed outcomes)
one_failed outcomes k outcome at failed = sym (ap not (list_any_at has_failed outcomes k outcome (slice_get_within outcomes k outcome at) (ap has_failed (get_or_from_slice_get outcomes k outcome outcome at) ∙ sym failed)))

-- one more didn't
pub none_is_failed : (outcomes : List Outcome) (k : ℕ) (outcome : Outcome) → slice_get outcomes k ≡ Some outcome → false ≡ has_failed outcome → list_any has_failed (take k outcomes) ≡ false → list_any has_failed (take (k + 1) outcomes) ≡ false
none_is_failed outcomes k outcome at good before =
    list_any_more has_failed outcomes k outcome (slice_get_within outcomes k outcome at)
    ∙ ap (λ b. b || has_failed (get_or outcomes k outcome)) before
    ∙ ap has_failed (get_or_from_slice_get outcomes k outcome outcome at) ∙ sym good

-- ---- all files

-- a unit's file isn't taken
pub stops : (failed : Type 0) (project : ProjectView) (unit : ℕ) (sources : List (List ℕ)) (built : List Cmi) (ended : Ended) (a b c : Option Lookup) → unit < unit_count project → Told (Stay (λ content. HoldUnits project content unit sources built)) a b → Told (Stay (λ content. RefusesUnit failed project unit content ended)) b c
    → Told (Stay (λ content. StopsAt failed project content ended)) a c
stops failed project unit sources built ended a b c lt = Stay-then {R = λ content. HoldUnits project content unit sources built} {S = λ content. RefusesUnit failed project unit content ended} {Q = λ content. StopsAt failed project content ended} (λ content before refused. record { unit = unit; declared = lt; sources = sources; built = built; before = before; refused = refused })

-- ---- names of units that were built before

can_be_built : (before units : List Declared) (k : ℕ) (unit : Declared) → CanFollow before units → slice_get units k ≡ Some unit → MayBeBuilt unit.kind unit.built
can_be_built before [] k unit follow at = absurd (cc)
can_be_built before (u ∷ units) zero unit follow at = let same : u ≡ unit = cc in subst (λ (d : Declared). MayBeBuilt d.kind d.built) same follow.1
can_be_built before (u ∷ units) (suc k) unit follow at = can_be_built (before ++ u ∷ []) units k unit follow.2 at

named_by : (kind : Kind) (name : List ℕ) (built : Bool) → MayBeBuilt kind built → built ≡ true → fits kind name ≡ true → name_kind name ≢ None
named_by kinds.Module name built may is fit none = other (is_module_name (name_kind name)) fit (ap is_module_name none)
named_by kinds.Header name built may is fit none = other (is_header_name (name_kind name)) fit (ap is_header_name none)
named_by kinds.Plain name built may is fit none = other built is may

-- each has one
pub built_have_names : (project : ProjectView) → IsDeclared project → NamesFit project → BuiltHaveNames project
built_have_names project declared fit unit lt is =
    let at = slice_get-get_or project.units unit nowhere lt in
    let entry = get_or project.units unit nowhere in
    let kind_is : kind_of project unit ≡ entry.kind = ap (λ found. option_map_or (λ (e : Declared). e.kind) found kinds.Plain) at in
    let name_is : name_of project unit ≡ entry.name = ap (λ found. option_map_or (λ (e : Declared). e.name) found []) at in
    named_by (kind_of project unit) (name_of project unit) entry.built
    (subst (λ kind. MayBeBuilt kind entry.built) (sym kind_is) (can_be_built [] project.units unit entry declared.declares.units at))
    (built_at project unit true lt is) (fit unit lt)

-- ---- reads that failed

-- what is so at a unit is so at a stop there
pub stop_keeps : (project : ProjectView) (unit : ℕ) (found : Fault) (b n : ℕ) → KeepsReadsAt found b n → KeepsReads (ended_for project unit found) b n
stop_keeps project unit found b n (reads_stay same) = none_failed same
stop_keeps project unit found b n (at_read is) = at_file (unit_file project unit) (ap (ended_for project unit) is)
stop_keeps project unit found b n (at_memory is) = for_memory (ap (ended_for project unit) is)
