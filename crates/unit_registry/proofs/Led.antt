-- Good lines lead from kept units to kept units.
use Rattle.std.proofs.Common.{◌≡◌, ℕ, Bool, true, false, cond, List, [], ◌∷◌, length, Option, Some, None, refl, sym, subst}
use Rattle.std.specs.Prelude.{Result, Ok, Err}
use Rattle.cody_words.specs.Lines.{Meaning, Blank, Words, Malformed}
use Rattle.cody_words.specs.Meanings.{meaning, is_marked}
use Rattle.unit_registry.specs.declared.draft.Draft.{Draft}
use Rattle.unit_registry.specs.declared.unit.Declared.{Declared}
use Rattle.unit_registry.specs.declared.line.Stage.TheVariants.{Repo, Units, Over}
use Rattle.unit_registry.specs.declared.reason.ProjectReason.{ProjectReason}
use Rattle.unit_registry.specs.declared.reason.ProjectReason.TheVariants as reason
use Rattle.unit_registry.specs.Projects.{ProjectView, IdentsDiffer, NamesDiffer, NamesFit}
use Rattle.unit_registry.specs.Kept.{IsKept}
use Rattle.unit_registry.specs.Numbers.{with_number}
use Rattle.unit_registry.specs.Lines.{Form, Heading, Repository, Entry, Ending, form, is_text, lines_of}
use Rattle.unit_registry.specs.Drafts.{blank_draft, unit_fault, with_unit, with_repo, with_entry, with_form, with_said, with_line, Leads}
use Rattle.unit_registry.specs.Readings.{ReachesEnd}
use Rattle.unit_registry.proofs.Keeping.{kept_empty, kept_push, can_follow, idents_differ, names_differ, names_fit}

-- The units are kept with some numbers.
pub record HasNumbers (units : List Declared) : Type 0 where
  pub names : List (List ℕ × ℕ)
  pub idents : List (List ℕ × ℕ)
  pub kept : IsKept units names idents

same_draft : (draft next : Draft) → (let r : Result Draft ProjectReason = Ok draft in r) ≡ Ok next → draft ≡ next
same_draft draft next e = cc

keeps : (draft next : Draft) → (let r : Result Draft ProjectReason = Ok draft in r) ≡ Ok next → HasNumbers draft.project.units → HasNumbers next.project.units
keeps draft next e has = subst (λ (d : Draft). HasNumbers d.project.units) (same_draft draft next e) has

entry_keeps : (draft : Draft) (fault : Option ProjectReason) (unit : Declared) (next : Draft) → unit_fault draft.project.units unit ≡ fault → with_entry draft fault unit ≡ Ok next → HasNumbers draft.project.units → HasNumbers next.project.units
entry_keeps draft (Some why) unit next f e has = let g : ⊥ = cc in absurd g
entry_keeps draft None unit next f e has =
    keeps (record { stage = Units; project = with_unit draft.project unit }) next e
    (record {
      names = with_number has.names unit.name (length draft.project.units);
      idents = with_number has.idents unit.ident (length draft.project.units);
      kept = kept_push draft.project.units unit (can_follow draft.project.units unit f) has.kept;
    })

form_keeps : (draft : Draft) (found : Option Form) (next : Draft) → with_form draft found ≡ Ok next → HasNumbers draft.project.units → HasNumbers next.project.units
form_keeps draft None next e has = let g : ⊥ = cc in absurd g
form_keeps draft (Some Heading) next e has = keeps (record { stage = Repo; project = draft.project }) next e has
form_keeps draft (Some (Repository path)) next e has = by (is_text path) e
  where
    by : (b : Bool) → cond b (Ok (record { stage = Units; project = with_repo draft.project path })) (Err reason.BadText) ≡ Ok next → HasNumbers next.project.units
    by true s = keeps (record { stage = Units; project = with_repo draft.project path }) next s has
    by false s = let g : ⊥ = cc in absurd g
form_keeps draft (Some (Entry unit)) next e has = entry_keeps draft (unit_fault draft.project.units unit) unit next refl e has
form_keeps draft (Some Ending) next e has = keeps (record { stage = Over; project = draft.project }) next e has

said_keeps : (draft : Draft) (said : Meaning) (marked : Bool) (next : Draft) → with_said draft said marked ≡ Ok next → HasNumbers draft.project.units → HasNumbers next.project.units
said_keeps draft (Malformed place why) marked next e has = let g : ⊥ = cc in absurd g
said_keeps draft Blank true next e has = let g : ⊥ = cc in absurd g
said_keeps draft Blank false next e has = keeps draft next e has
said_keeps draft (Words words) true next e has = let g : ⊥ = cc in absurd g
said_keeps draft (Words words) false next e has = form_keeps draft (form draft.stage words) next e has

line_keeps : (draft : Draft) (line : List ℕ) (next : Draft) → with_line draft line ≡ Ok next → HasNumbers draft.project.units → HasNumbers next.project.units
unfolding with_line
line_keeps draft line next e has = said_keeps draft (meaning line) (is_marked line) next e has

lines_keep : (draft : Draft) (lines : List (List ℕ)) (last : Draft) → Leads draft lines last → HasNumbers draft.project.units → HasNumbers last.project.units
lines_keep draft [] last good has = subst (λ (d : Draft). HasNumbers d.project.units) (sym good) has
lines_keep draft (line ∷ lines) last good has = lines_keep good.0 lines last good.2 (line_keeps draft line good.0 good.1 has)

-- the units of a project whose end a text reaches
reached_kept : (text : List ℕ) (project : ProjectView) → ReachesEnd text project → HasNumbers project.units
reached_kept text project d =
    subst (λ (p : ProjectView). HasNumbers p.units) (sym d.declared)
    (lines_keep blank_draft (lines_of text) d.last d.good (record { names = []; idents = []; kept = kept_empty }))

pub reached_idents : (text : List ℕ) (project : ProjectView) → ReachesEnd text project → IdentsDiffer project
reached_idents text project d = let has = reached_kept text project d in idents_differ project has.names has.idents has.kept

pub reached_names : (text : List ℕ) (project : ProjectView) → ReachesEnd text project → NamesDiffer project
reached_names text project d = let has = reached_kept text project d in names_differ project has.names has.idents has.kept

pub reached_fit : (text : List ℕ) (project : ProjectView) → ReachesEnd text project → NamesFit project
reached_fit text project d = let has = reached_kept text project d in names_fit project has.names has.idents has.kept
