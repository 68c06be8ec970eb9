-- Which octets are the text of an interface, and where others are first at fault.
use Rattle.std.specs.Prelude.{◌≡◌, ℕ, zero, suc, ◌==◌, if◌then◌else◌, List, [], ◌∷◌}
use Rattle.cody_words.specs.Octets.{newline}
use Rattle.export_lists.specs.Lists.{Cmi}
use Rattle.export_lists.specs.CmiTexts.{cmi_text, IsGoodCmi}
use Rattle.export_lists.specs.declared.cmi_error.CmiError.{CmiError}
use Rattle.export_lists.specs.declared.cmi_error.CmiError.TheVariants as errors

-- The octets are the text of this interface, which may be read.
pub record IsCmiText (text : List ℕ) (cmi : Cmi) : Type 0 where
  pub good : IsGoodCmi cmi
  pub written : text ≡ cmi_text cmi

-- so many first lines of a text, with their NEWLINEs, or all of it where it has fewer
abbrev pub first_lines : ℕ → List ℕ → List ℕ
first_lines zero text = []
first_lines (suc count) [] = []
first_lines (suc count) (octet ∷ text) = if octet == newline then octet ∷ first_lines count text else octet ∷ first_lines (suc count) text

-- The text of some interface has the same first lines, so many of them.
pub record BeginsAsOne (text : List ℕ) (count : ℕ) : Type 0 where
  pub cmi : Cmi
  pub good : IsGoodCmi cmi
  pub same : first_lines count (cmi_text cmi) ≡ first_lines count text

-- The line of this number, counted from 1, is the first at fault: up to the line before it the text begins as one of an
-- interface, and up to it as none.
pub record IsFaultyLine (text : List ℕ) (line : ℕ) : Type 0 where
  pub before : ℕ
  pub counted : line ≡ suc before
  pub begins : BeginsAsOne text before
  pub differs : BeginsAsOne text (suc before) → ⊥

-- what an error tells of a text, unless memory ran out
abbrev pub TellsCmiFault : List ℕ → CmiError → Type 0
TellsCmiFault text (errors.Text line) = IsFaultyLine text line
TellsCmiFault text errors.Memory = Unit {0}
