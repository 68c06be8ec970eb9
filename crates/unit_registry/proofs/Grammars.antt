-- A text declares a project exactly where its lines, one by one, reach the end of that project.
use Rattle.std.proofs.Common.{◌≡◌, ◌≢◌, ℕ, ◌⊎◌, inl, inr, Bool, true, false, List, [], ◌∷◌, ◌++◌, refl, sym, ap, subst, ◌∙◌, rules}
use Rattle.std.specs.Prelude.{Result, Ok, Err, Option, Some, None, codes, if◌then◌else◌}
use Rattle.std.specs.Str.{bytes_eq}
use Rattle.std.proofs.lemmas.List.{append-nil, append_assoc}
use Rattle.cody_words.specs.Lines.{Meaning, Blank, Words, Malformed, Says}
use Rattle.cody_words.specs.Meanings.{meaning, is_marked}
use Rattle.cody_words.proofs.Means.{says_meaning}
use Rattle.unit_registry.specs.declared.draft.Draft.{Draft}
use Rattle.unit_registry.specs.declared.kind.Kind.{Kind}
use Rattle.unit_registry.specs.declared.kind.Kind.TheVariants.{Module, Header, Plain}
use Rattle.unit_registry.specs.declared.line.Stage.{Stage}
use Rattle.unit_registry.specs.declared.line.Stage.TheVariants as stage
use Rattle.unit_registry.specs.declared.reason.ProjectReason.{ProjectReason}
use Rattle.unit_registry.specs.declared.reason.ProjectReason.TheVariants.{BadText}
use Rattle.unit_registry.specs.Kinds.{fits}
use Rattle.unit_registry.specs.declared.unit.Declared.{Declared}
use Rattle.unit_registry.specs.Projects.{ProjectView}
use Rattle.unit_registry.specs.Lines.{Form, Heading, Repository, Entry, Ending, lines_of, head_form, repo_form, named_form, unit_form, form, is_text, declared}
use Rattle.unit_registry.specs.Drafts.{blank_draft, unit_fault, with_unit, with_repo, with_entry, with_form, with_said, with_line, Leads}
use Rattle.unit_registry.specs.Grammar.{kind_words, built_words, unit_words, head_words, repo_words, end_words, unit_lines, project_lines, SayLines, MayBeBuilt, CanFollow}
use Rattle.unit_registry.specs.Readings.{Declares, ReachesEnd}
use Rattle.unit_registry.proofs.Said.{with_line-said}

-- ---- forms and their words

head_is : (words : List (List ℕ)) (f : Form) → head_form words ≡ Some f → (f ≡ Heading) × (words ≡ head_words)
head_is [] f e = let no : ⊥ = cc in absurd no
head_is (a ∷ []) f e = let no : ⊥ = cc in absurd no
head_is (a ∷ b ∷ []) f e = search rules
head_is (a ∷ b ∷ c ∷ rest) f e = search rules

repo_is : (words : List (List ℕ)) (f : Form) → repo_form words ≡ Some f → (path : List ℕ) × (f ≡ Repository path) × (words ≡ repo_words path)
repo_is [] f e = let no : ⊥ = cc in absurd no
repo_is (a ∷ []) f e = let no : ⊥ = cc in absurd no
repo_is (a ∷ b ∷ []) f e = search rules
repo_is (a ∷ b ∷ c ∷ rest) f e = search rules

-- a line with a name: its unit
abbrev NamedForm : Bool → List ℕ → List ℕ → List ℕ → Form → Type 0
NamedForm built verb name ident f =
    (unit : Declared) × (f ≡ Entry unit) × (built_words built (verb ∷ name ∷ ident ∷ []) ≡ unit_words unit) × MayBeBuilt unit.kind unit.built

named_is : (built : Bool) (verb name ident : List ℕ) (f : Form) → named_form built (verb ∷ name ∷ ident ∷ []) 0 ≡ Some f → NamedForm built verb name ident f
named_is built verb name ident f e = by (bytes_eq verb (codes "module")) (bytes_eq verb (codes "header")) refl refl e
  where
    by : (x y : Bool) → bytes_eq verb (codes "module") ≡ x → bytes_eq verb (codes "header") ≡ y
        → (if x then Some (Entry (declared built Module name ident)) else if y then Some (Entry (declared built Header name ident)) else None) ≡ Some f
        → NamedForm built verb name ident f
    by true y p q e = (declared built Module name ident, search rules, search rules, tt)
    by false true p q e = (declared built Header name ident, search rules, search rules, tt)
    by false false p q e = let no : ⊥ = cc in absurd no

-- a unit's line, or the last
abbrev UnitForm : List (List ℕ) → Form → Type 0
UnitForm words f =
    ((f ≡ Ending) × (words ≡ end_words))
    ⊎ ((unit : Declared) × (f ≡ Entry unit) × (words ≡ unit_words unit) × MayBeBuilt unit.kind unit.built)

unit_is : (words : List (List ℕ)) (f : Form) → unit_form words ≡ Some f → UnitForm words f
unit_is [] f e = let no : ⊥ = cc in absurd no
unit_is (a ∷ []) f e = inl (search rules)
unit_is (a ∷ b ∷ []) f e = inr (declared false Plain [] b, search rules, search rules, refl)
unit_is (a ∷ b ∷ c ∷ []) f e = inr (named_is false a b c f e)
unit_is (a ∷ b ∷ c ∷ d ∷ []) f e = by (bytes_eq a (codes "built")) refl e
  where
    by : (x : Bool) → bytes_eq a (codes "built") ≡ x → (if x then named_form true (b ∷ c ∷ d ∷ []) 0 else None) ≡ Some f → UnitForm (a ∷ b ∷ c ∷ d ∷ []) f
    by true p e =
        let named = named_is true b c d f e in
        let first : a ≡ codes "built" = search rules in
        inr (named.0, named.1, ap (λ w. w ∷ b ∷ c ∷ d ∷ []) first ∙ named.2, named.3)
    by false p e = let no : ⊥ = cc in absurd no
unit_is (a ∷ b ∷ c ∷ d ∷ other ∷ rest) f e = let no : ⊥ = search rules in absurd no

unit_form-words : (built : Bool) (kind : Kind) (name ident : List ℕ) → (kind ≡ Plain → name ≡ []) → MayBeBuilt kind built → unit_form (built_words built (kind_words kind name ident)) ≡ Some (Entry (declared built kind name ident))
unit_form-words true Module name ident empty may = refl
unit_form-words false Module name ident empty may = refl
unit_form-words true Header name ident empty may = refl
unit_form-words false Header name ident empty may = refl
unit_form-words true Plain name ident empty may = let no : ⊥ = cc in absurd no
unit_form-words false Plain name ident empty may = ap (λ n. Some (Entry (declared false Plain n ident))) (sym (empty refl))

-- ---- one line

-- a line that was taken is blank, or has a form
abbrev Step : Draft → List ℕ → Draft → Type 0
Step draft line next =
    (Says line Blank false × (next ≡ draft))
    ⊎ ((words : List (List ℕ)) × (f : Form) × Says line (Words words) false × (form draft.stage words ≡ Some f) × (with_form draft (Some f) ≡ Ok next))

step : (draft : Draft) (line : List ℕ) (next : Draft) → with_line draft line ≡ Ok next → Step draft line next
unfolding with_line
step draft line next e = by (meaning line) (is_marked line) (says_meaning line) e
  where
    formed : (words : List (List ℕ)) → Says line (Words words) false → (o : Option Form) → form draft.stage words ≡ o → with_form draft o ≡ Ok next → Step draft line next
    formed words s (Some f) p e = inr (words, f, s, p, e)
    formed words s None p e = let no : ⊥ = cc in absurd no

    same : (a b : Draft) → (let r : Result Draft ProjectReason = Ok a in r) ≡ Ok b → b ≡ a
    same a b e = cc

    by : (m : Meaning) (marked : Bool) → Says line m marked → with_said draft m marked ≡ Ok next → Step draft line next
    by Blank false s e = inl (s, same draft next e)
    by Blank true s e = let no : ⊥ = cc in absurd no
    by (Words words) false s e = formed words s (form draft.stage words) refl e
    by (Words words) true s e = let no : ⊥ = cc in absurd no
    by (Malformed at why) marked s e = let no : ⊥ = cc in absurd no

same_draft : (a b : Draft) → (let r : Result Draft ProjectReason = Ok a in r) ≡ Ok b → a ≡ b
same_draft a b e = cc

-- ---- where the lines reach the end, the text declares

-- what stands behind `end` says nothing
over_leads : (lines : List (List ℕ)) (draft last : Draft) → draft.stage ≡ stage.Over → Leads draft lines last → (last ≡ draft) × SayLines lines []
over_leads [] draft last o e = (e, refl)
over_leads (line ∷ lines) draft last o h = by (step draft line h.0 h.1) (λ o'. over_leads lines h.0 last o' h.2)
  where
    by : Step draft line h.0 → (h.0.stage ≡ stage.Over → (last ≡ h.0) × SayLines lines []) → (last ≡ draft) × SayLines (line ∷ lines) []
    by (inl blank) again =
        let rest = again (ap (λ (d : Draft). d.stage) blank.1 ∙ o) in
        (rest.0 ∙ blank.1, inl (blank.0, rest.1))
    by (inr said) again =
        let none = subst (λ (s : Stage). form s said.0 ≡ Some said.1) o said.3 in
        let no : ⊥ = cc in absurd no

-- the lines of units and the last one
record UnitsSaid (draft : Draft) (lines : List (List ℕ)) (last : Draft) : Type 0 where
  more : List Declared
  project_is : last.project ≡ record { repo = draft.project.repo; units = draft.project.units ++ more }
  say : SayLines lines (unit_lines more)
  follow : CanFollow draft.project.units more

entry_is : (draft : Draft) (unit : Declared) (o : Option ProjectReason) (next : Draft) → with_entry draft o unit ≡ Ok next → (o ≡ None) × (record { stage = stage.Units; project = with_unit draft.project unit } ≡ next)
entry_is draft unit None next e = (refl, same_draft _ next e)
entry_is draft unit (Some why) next e = let no : ⊥ = cc in absurd no

not_units : stage.Over ≢ stage.Units
not_units e = cc

units_leads : (lines : List (List ℕ)) (draft last : Draft) → draft.stage ≡ stage.Units → Leads draft lines last → last.stage ≡ stage.Over → UnitsSaid draft lines last
units_leads [] draft last u e over = absurd (not_units (sym over ∙ ap (λ (d : Draft). d.stage) e ∙ u))
units_leads (line ∷ lines) draft last u h over = by (step draft line h.0 h.1) (λ u'. units_leads lines h.0 last u' h.2 over)
  where
    ends : (words : List (List ℕ)) (f : Form) → Says line (Words words) false → f ≡ Ending → words ≡ end_words → with_form draft (Some f) ≡ Ok h.0 → UnitsSaid draft (line ∷ lines) last
    ends words f s is same e =
        let next : record { stage = stage.Over; project = draft.project } ≡ h.0 = same_draft _ h.0 (ap (λ (g : Form). with_form draft (Some g)) (sym is) ∙ e) in
        let rest = over_leads lines h.0 last (sym (ap (λ (d : Draft). d.stage) next)) h.2 in
        record {
          more = [];
          project_is = ap (λ (d : Draft). d.project) (rest.0 ∙ sym next) ∙ ap (λ us. record { repo = draft.project.repo; units = us }) (sym (append-nil draft.project.units));
          say = inr (words, [], ap (λ w. w ∷ []) (sym same), s, rest.1);
          follow = tt;
        }

    entry : (words : List (List ℕ)) (f : Form) (unit : Declared) → Says line (Words words) false → f ≡ Entry unit → words ≡ unit_words unit → MayBeBuilt unit.kind unit.built
        → with_form draft (Some f) ≡ Ok h.0 → (h.0.stage ≡ stage.Units → UnitsSaid h.0 lines last) → UnitsSaid draft (line ∷ lines) last
    entry words f unit s is same may e again =
        let one = entry_is draft unit (unit_fault draft.project.units unit) h.0 (ap (λ (g : Form). with_form draft (Some g)) (sym is) ∙ e) in
        let rest = subst (λ (d : Draft). UnitsSaid d lines last) (sym one.1) (again (sym (ap (λ (d : Draft). d.stage) one.1))) in
        record {
          more = unit ∷ rest.more;
          project_is = rest.project_is ∙ ap (λ us. record { repo = draft.project.repo; units = us }) (append_assoc draft.project.units (unit ∷ []) rest.more);
          say = inr (words, unit_lines rest.more, ap (λ w. w ∷ unit_lines rest.more) (sym same), s, rest.say);
          follow = (one.0, may, rest.follow);
        }

    formed : (words : List (List ℕ)) (f : Form) → Says line (Words words) false → UnitForm words f → with_form draft (Some f) ≡ Ok h.0 → (h.0.stage ≡ stage.Units → UnitsSaid h.0 lines last) → UnitsSaid draft (line ∷ lines) last
    formed words f s (inl last_line) e again = ends words f s last_line.0 last_line.1 e
    formed words f s (inr unit) e again = entry words f unit.0 s unit.1 unit.2 unit.3 e again

    by : Step draft line h.0 → (h.0.stage ≡ stage.Units → UnitsSaid h.0 lines last) → UnitsSaid draft (line ∷ lines) last
    by (inl blank) again =
        let rest = subst (λ (d : Draft). UnitsSaid d lines last) blank.1 (again (ap (λ (d : Draft). d.stage) blank.1 ∙ u)) in
        record { more = rest.more; project_is = rest.project_is; say = inl (blank.0, rest.say); follow = rest.follow }
    by (inr said) again =
        formed said.0 said.1 said.2 (unit_is said.0 said.1 (subst (λ (s : Stage). form s said.0 ≡ Some said.1) u said.3)) said.4 again

-- the line of the repository, and those behind it
record RepoSaid (lines : List (List ℕ)) (project : ProjectView) : Type 0 where
  say : SayLines lines (repo_words project.repo ∷ unit_lines project.units)
  text : is_text project.repo ≡ true
  follow : CanFollow [] project.units

not_repo : stage.Over ≢ stage.Repo
not_repo e = cc

path_is : (draft : Draft) (path : List ℕ) (good : Bool) (next : Draft) → is_text path ≡ good
    → (if good then Ok (record { stage = stage.Units; project = with_repo draft.project path }) else Err BadText) ≡ Ok next
    → (is_text path ≡ true) × (record { stage = stage.Units; project = with_repo draft.project path } ≡ next)
path_is draft path true next g e = (g, same_draft _ next e)
path_is draft path false next g e = let no : ⊥ = cc in absurd no

repo_leads : (lines : List (List ℕ)) (draft last : Draft) → draft.stage ≡ stage.Repo → draft.project.units ≡ [] → Leads draft lines last → last.stage ≡ stage.Over → RepoSaid lines last.project
repo_leads [] draft last u empty e over = absurd (not_repo (sym over ∙ ap (λ (d : Draft). d.stage) e ∙ u))
repo_leads (line ∷ lines) draft last u empty h over = by (step draft line h.0 h.1) (λ u' empty'. repo_leads lines h.0 last u' empty' h.2 over)
  where
    repository : (words : List (List ℕ)) (f : Form) (path : List ℕ) → Says line (Words words) false → f ≡ Repository path → words ≡ repo_words path → with_form draft (Some f) ≡ Ok h.0 → RepoSaid (line ∷ lines) last.project
    repository words f path s is same e =
        let one = path_is draft path (is_text path) h.0 refl (ap (λ (g : Form). with_form draft (Some g)) (sym is) ∙ e) in
        let rest = units_leads lines h.0 last (sym (ap (λ (d : Draft). d.stage) one.1)) h.2 over in
        let project : last.project ≡ record { repo = path; units = rest.more } =
        rest.project_is
        ∙ ap (λ (d : Draft). record { repo = d.project.repo; units = d.project.units ++ rest.more }) (sym one.1)
        ∙ ap (λ us. record { repo = path; units = us ++ rest.more }) empty in
        let none : h.0.project.units ≡ [] = sym (ap (λ (d : Draft). d.project.units) one.1) ∙ empty in
        subst (λ (p : ProjectView). RepoSaid (line ∷ lines) p) (sym project) (record {
          say = inr (words, unit_lines rest.more, ap (λ w. w ∷ unit_lines rest.more) (sym same), s, rest.say);
          text = one.0;
          follow = subst (λ us. CanFollow us rest.more) none rest.follow;
        })

    by : Step draft line h.0 → (h.0.stage ≡ stage.Repo → h.0.project.units ≡ [] → RepoSaid lines last.project) → RepoSaid (line ∷ lines) last.project
    by (inl blank) again =
        let rest = again (ap (λ (d : Draft). d.stage) blank.1 ∙ u) (ap (λ (d : Draft). d.project.units) blank.1 ∙ empty) in
        record { say = inl (blank.0, rest.say); text = rest.text; follow = rest.follow }
    by (inr said) again =
        let form = repo_is said.0 said.1 (subst (λ (s : Stage). form s said.0 ≡ Some said.1) u said.3) in
        repository said.0 said.1 form.0 said.2 form.1 form.2 said.4

-- the first line, and those behind it
record HeadSaid (lines : List (List ℕ)) (project : ProjectView) : Type 0 where
  say : SayLines lines (project_lines project)
  text : is_text project.repo ≡ true
  follow : CanFollow [] project.units

not_head : stage.Over ≢ stage.Head
not_head e = cc

head_leads : (lines : List (List ℕ)) (draft last : Draft) → draft ≡ blank_draft → Leads draft lines last → last.stage ≡ stage.Over → HeadSaid lines last.project
head_leads [] draft last u e over = absurd (not_head (sym over ∙ ap (λ (d : Draft). d.stage) (e ∙ u)))
head_leads (line ∷ lines) draft last u h over = by (step draft line h.0 h.1) (λ u'. head_leads lines h.0 last u' h.2 over)
  where
    first : (words : List (List ℕ)) (f : Form) → Says line (Words words) false → f ≡ Heading → words ≡ head_words → with_form draft (Some f) ≡ Ok h.0 → HeadSaid (line ∷ lines) last.project
    first words f s is same e =
        let next : record { stage = stage.Repo; project = draft.project } ≡ h.0 = same_draft _ h.0 (ap (λ (g : Form). with_form draft (Some g)) (sym is) ∙ e) in
        let none : h.0.project.units ≡ [] = sym (ap (λ (d : Draft). d.project.units) next) ∙ ap (λ (d : Draft). d.project.units) u in
        let rest = repo_leads lines h.0 last (sym (ap (λ (d : Draft). d.stage) next)) none h.2 over in
        record {
          say = inr (words, repo_words last.project.repo ∷ unit_lines last.project.units, ap (λ w. w ∷ repo_words last.project.repo ∷ unit_lines last.project.units) (sym same), s, rest.say);
          text = rest.text;
          follow = rest.follow;
        }

    by : Step draft line h.0 → (h.0 ≡ blank_draft → HeadSaid lines last.project) → HeadSaid (line ∷ lines) last.project
    by (inl blank) again =
        let rest = again (blank.1 ∙ u) in
        record { say = inl (blank.0, rest.say); text = rest.text; follow = rest.follow }
    by (inr said) again =
        let form = head_is said.0 said.1 (subst (λ (s : Stage). form s said.0 ≡ Some said.1) (ap (λ (d : Draft). d.stage) u) said.3) in
        first said.0 said.1 said.2 form.0 form.1 said.4

pub reached_declares : (text : List ℕ) (project : ProjectView) → ReachesEnd text project → Declares text project
reached_declares text project h =
    let said = head_leads (lines_of text) blank_draft h.last refl h.good h.over in
    subst (λ (p : ProjectView). Declares text p) (sym h.declared) (record { lines = said.say; repo = said.text; units = said.follow })

-- ---- where the text declares, the lines reach the end

blank_line : (draft : Draft) (line : List ℕ) → Says line Blank false → with_line draft line ≡ Ok draft
blank_line draft line s = with_line-said draft line Blank false s

formed_line : (draft : Draft) (line : List ℕ) (words : List (List ℕ)) (o : Option Form) (next : Draft) → Says line (Words words) false → form draft.stage words ≡ o → with_form draft o ≡ Ok next → with_line draft line ≡ Ok next
formed_line draft line words o next s p e =
    with_line-said draft line (Words words) false s ∙ ap (λ (g : Option Form). with_form draft g) p ∙ e

nothing_said : (words : List (List ℕ)) (behind : List (List (List ℕ))) → [] ≢ words ∷ behind
nothing_said words behind e = cc

over_lines : (lines : List (List ℕ)) (draft : Draft) → draft.stage ≡ stage.Over → SayLines lines [] → Leads draft lines draft
over_lines [] draft o e = refl
over_lines (line ∷ lines) draft o (inl blank) = (draft, blank_line draft line blank.0, over_lines lines draft o blank.1)
over_lines (line ∷ lines) draft o (inr said) = absurd (nothing_said said.0 said.1 said.2)

-- Lines lead from a draft to the end of this project.
record Reaches (draft : Draft) (lines : List (List ℕ)) (project : ProjectView) : Type 0 where
  last : Draft
  leads : Leads draft lines last
  over : last.stage ≡ stage.Over
  project_is : last.project ≡ project

first_of : (words other : List (List ℕ)) (behind rest : List (List (List ℕ))) → words ∷ behind ≡ other ∷ rest → words ≡ other
first_of words other behind rest e = cc

rest_of : (words other : List (List ℕ)) (behind rest : List (List (List ℕ))) → words ∷ behind ≡ other ∷ rest → behind ≡ rest
rest_of words other behind rest e = cc

some_said : (words : List (List ℕ)) (behind : List (List (List ℕ))) → words ∷ behind ≢ []
some_said words behind e = cc

plain_name : (kind : Kind) (name : List ℕ) → fits kind name ≡ true → kind ≡ Plain → name ≡ []
plain_name kind [] fit e = refl
plain_name kind (c ∷ name) fit e =
    let plain = subst (λ (k : Kind). fits k (c ∷ name) ≡ true) e fit in
    let no : ⊥ = search rules in absurd no

follow_fits : (before : List Declared) (unit : Declared) → unit_fault before unit ≡ None → fits unit.kind unit.name ≡ true
follow_fits before unit e = by (is_text unit.ident) (fits unit.kind unit.name) refl refl
  where
    by : (x y : Bool) → is_text unit.ident ≡ x → fits unit.kind unit.name ≡ y → fits unit.kind unit.name ≡ true
    by x true p q = q
    by true false p q = let no : ⊥ = search rules in absurd no
    by false false p q = let no : ⊥ = search rules in absurd no

unit_line : (before : List Declared) (unit : Declared) → unit_fault before unit ≡ None → MayBeBuilt unit.kind unit.built → unit_form (unit_words unit) ≡ Some (Entry unit)
unit_line before unit none may =
    unit_form-words unit.built unit.kind unit.name unit.ident (plain_name unit.kind unit.name (follow_fits before unit none)) may

units_lines : (lines : List (List ℕ)) (draft : Draft) (more : List Declared) → draft.stage ≡ stage.Units → SayLines lines (unit_lines more) → CanFollow draft.project.units more → Reaches draft lines (record { repo = draft.project.repo; units = draft.project.units ++ more })
units_lines [] draft [] u e c = absurd (some_said _ _ e)
units_lines [] draft (unit ∷ more) u e c = absurd (some_said _ _ e)
units_lines (line ∷ lines) draft more u (inl blank) c =
    let rest = units_lines lines draft more u blank.1 c in
    record { last = rest.last; leads = (draft, blank_line draft line blank.0, rest.leads); over = rest.over; project_is = rest.project_is }
units_lines (line ∷ lines) draft [] u (inr said) c =
    let next : Draft = record { stage = stage.Over; project = draft.project } in
    let is : form draft.stage said.0 ≡ Some Ending = ap (λ (s : Stage). form s said.0) u ∙ ap unit_form (sym (first_of _ _ _ _ said.2)) in
    record {
      last = next;
      leads = (next, formed_line draft line said.0 (Some Ending) next said.3 is refl, over_lines lines next refl (subst (λ b. SayLines lines b) (sym (rest_of _ _ _ _ said.2)) said.4));
      over = refl;
      project_is = ap (λ us. record { repo = draft.project.repo; units = us }) (sym (append-nil draft.project.units));
    }
units_lines (line ∷ lines) draft (unit ∷ more) u (inr said) c =
    let next : Draft = record { stage = stage.Units; project = with_unit draft.project unit } in
    let is : form draft.stage said.0 ≡ Some (Entry unit) = ap (λ (s : Stage). form s said.0) u ∙ ap unit_form (sym (first_of _ _ _ _ said.2)) ∙ unit_line draft.project.units unit c.0 c.1 in
    let rest = units_lines lines next more refl (subst (λ b. SayLines lines b) (sym (rest_of _ _ _ _ said.2)) said.4) c.2 in
    record {
      last = rest.last;
      leads = (next, formed_line draft line said.0 (Some (Entry unit)) next said.3 is (ap (λ (o : Option ProjectReason). with_entry draft o unit) c.0), rest.leads);
      over = rest.over;
      project_is = rest.project_is ∙ ap (λ us. record { repo = draft.project.repo; units = us }) (append_assoc draft.project.units (unit ∷ []) more);
    }

repo_lines : (lines : List (List ℕ)) (draft : Draft) (project : ProjectView) → draft.stage ≡ stage.Repo → draft.project.units ≡ [] → SayLines lines (repo_words project.repo ∷ unit_lines project.units) → is_text project.repo ≡ true → CanFollow [] project.units → Reaches draft lines project
repo_lines [] draft project u empty e text c = absurd (some_said _ _ e)
repo_lines (line ∷ lines) draft project u empty (inl blank) text c =
    let rest = repo_lines lines draft project u empty blank.1 text c in
    record { last = rest.last; leads = (draft, blank_line draft line blank.0, rest.leads); over = rest.over; project_is = rest.project_is }
repo_lines (line ∷ lines) draft project u empty (inr said) text c =
    let next : Draft = record { stage = stage.Units; project = with_repo draft.project project.repo } in
    let is : form draft.stage said.0 ≡ Some (Repository project.repo) = ap (λ (s : Stage). form s said.0) u ∙ ap repo_form (sym (first_of _ _ _ _ said.2)) in
    let taken : with_form draft (Some (Repository project.repo)) ≡ Ok next = ap (λ (good : Bool). if good then Ok next else Err BadText) text in
    let rest = units_lines lines next project.units refl (subst (λ b. SayLines lines b) (sym (rest_of _ _ _ _ said.2)) said.4) (subst (λ us. CanFollow us project.units) (sym empty) c) in
    record {
      last = rest.last;
      leads = (next, formed_line draft line said.0 (Some (Repository project.repo)) next said.3 is taken, rest.leads);
      over = rest.over;
      project_is = rest.project_is ∙ ap (λ us. record { repo = project.repo; units = us ++ project.units }) empty;
    }

head_lines : (lines : List (List ℕ)) (project : ProjectView) → SayLines lines (project_lines project) → is_text project.repo ≡ true → CanFollow [] project.units → Reaches blank_draft lines project
head_lines [] project e text c = absurd (some_said _ _ e)
head_lines (line ∷ lines) project (inl blank) text c =
    let rest = head_lines lines project blank.1 text c in
    record { last = rest.last; leads = (blank_draft, blank_line blank_draft line blank.0, rest.leads); over = rest.over; project_is = rest.project_is }
head_lines (line ∷ lines) project (inr said) text c =
    let next : Draft = record { stage = stage.Repo; project = blank_draft.project } in
    let rest = repo_lines lines next project refl refl (subst (λ b. SayLines lines b) (sym (rest_of _ _ _ _ said.2)) said.4) text c in
    record {
      last = rest.last;
      leads = (next, formed_line blank_draft line said.0 (Some Heading) next said.3 (ap head_form (sym (first_of _ _ _ _ said.2))) refl, rest.leads);
      over = rest.over;
      project_is = rest.project_is;
    }

pub declared_reaches : (text : List ℕ) (project : ProjectView) → Declares text project → ReachesEnd text project
declared_reaches text project h =
    let found = head_lines (lines_of text) project h.lines h.repo h.units in
    record { last = found.last; good = found.leads; over = found.over; declared = sym found.project_is }
