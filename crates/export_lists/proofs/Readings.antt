-- Working definitions: the words of the lines of an interface, and a text that is read up to a rest.
use Rattle.std.specs.Prelude.{◌≡◌, ℕ, suc, Bool, true, ◌&&◌, List, [], ◌∷◌, ◌++◌, length, map, flat_map, option_and_then, Option, Some, is_some, codes}
use Rattle.std.specs.List.{AllByRecursion}
use Rattle.header_units.specs.Names.{name_kind}
use Rattle.export_lists.specs.Entries.{Listed}
use Rattle.export_lists.specs.Lists.{Cmi}
use Rattle.export_lists.specs.Words.{Row, line_of, entry_row}
use Rattle.export_lists.specs.CmiTexts.{head_row, unit_row, end_row}
use Rattle.export_lists.specs.declared.draft.Draft.{Draft}
use Rattle.export_lists.specs.declared.draft.Draft.TheVariants.{Start, Headed, Listing, Over}
use Rattle.export_lists.specs.Drafts.{IsRow, may_follow, cmi_of, next}

-- the words of the lines of an interface before its last
abbrev pub rows_before : Cmi → List Row
rows_before cmi = head_row ∷ unit_row cmi.unit cmi.interface ∷ map (entry_row (codes "export")) cmi.exports ++ map (entry_row (codes "inner")) cmi.view

-- the words of the lines of an interface
abbrev pub rows_of : Cmi → List Row
rows_of cmi = rows_before cmi ++ end_row ∷ []

-- the text of lines of these words
abbrev pub text_of : List Row → List ℕ
text_of rows = flat_map line_of rows

-- whether entries may follow these, one by one
abbrev pub may_all_follow : List Listed → List Listed → Bool
may_all_follow before [] = true
may_all_follow before (entry ∷ entries) = may_follow before entry && may_all_follow (before ++ entry ∷ []) entries

-- An interface whose lines may be read one by one.
pub record MayBeRead (cmi : Cmi) : Type 0 where
  pub named : is_some (name_kind cmi.unit) ≡ true
  pub exports : may_all_follow [] cmi.exports ≡ true
  pub view : may_all_follow [] cmi.view ≡ true

-- the draft behind lines of these words, if there is one
abbrev pub led : Draft → List Row → Option Draft
led draft [] = Some draft
led draft (words ∷ rows) = option_and_then (λ after. led after rows) (next draft words)

-- the lines of these words are those behind which the draft stands
abbrev pub Stands : Draft → List Row → Type 0
Stands Start rows = rows ≡ []
Stands Headed rows = rows ≡ head_row ∷ []
Stands (Listing lists) rows = MayBeRead (cmi_of lists) × (rows ≡ rows_before (cmi_of lists))
Stands (Over cmi) rows = MayBeRead cmi × (rows ≡ rows_of cmi)

-- The text up to the rest was read: its lines led to the draft, and the next line has this number.
pub record HasRead (text : List ℕ) (draft : Draft) (number : ℕ) (rest : List ℕ) : Type 0 where
  pub rows : List Row
  pub each : AllByRecursion IsRow rows
  pub leads : led Start rows ≡ Some draft
  pub whole : text ≡ text_of rows ++ rest
  pub counted : number ≡ suc (length rows)
