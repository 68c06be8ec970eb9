-- A line by what it says.
use Rattle.std.proofs.Common.{◌≡◌, ℕ, Bool, List, sym, ap, subst, ◌∙◌}
use Rattle.std.specs.Prelude.{Result}
use Rattle.cody_words.specs.Lines.{Meaning, Says}
use Rattle.cody_words.specs.Meanings.{is_marked}
use Rattle.cody_words.proofs.Means.{meaning_is}
use Rattle.unit_registry.specs.declared.draft.Draft.{Draft}
use Rattle.unit_registry.specs.declared.draft.LineError.{LineError}
use Rattle.unit_registry.specs.declared.reason.ProjectReason.{ProjectReason}
use Rattle.unit_registry.specs.Taken.{Takes}
use Rattle.unit_registry.specs.Drafts.{with_line, with_said}

-- a line is taken as what it says
pub with_line-said : (draft : Draft) (line : List ℕ) (said : Meaning) (marked : Bool) → Says line said marked → with_line draft line ≡ with_said draft said marked
unfolding with_line
with_line-said draft line said marked says =
    let same = meaning_is line said marked says in
    ap (λ (m : Meaning). with_said draft m (is_marked line)) (sym same.0) ∙ ap (λ (b : Bool). with_said draft said b) (sym same.1)

pub takes_said : (draft : Draft) (line : List ℕ) (said : Meaning) (marked : Bool) (answer : Result Draft LineError) → Says line said marked → Takes (with_said draft said marked) answer → Takes (with_line draft line) answer
takes_said draft line said marked answer says takes =
    subst (λ (r : Result Draft ProjectReason). Takes r answer) (sym (with_line-said draft line said marked says)) takes
