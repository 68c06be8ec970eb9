-- Reading a unit terminal by terminal: where a reader stands, and where one terminal takes it.
use Rattle.std.specs.Prelude.{◌≡◌, ℕ, ◌<◌, Bool, true, false, List, [], ◌∷◌, ◌++◌, length, Option, Some, None, Result, Ok, Err, is_some}
use Rattle.module_units.specs.Terminals.{Terminal, Name, Quoted, Export, Module, Import, Colon, Plain, Struct, Class, Using, Const, BuiltIn, Semicolon, Dot, Comma, LeftParen, RightParen, LeftBrace, RightBrace, Star, Ampersand, Equals}
use Rattle.header_units.specs.Octets.{dot, colon}
use Rattle.module_units.specs.Grammar.{Ident}
use Rattle.module_units.specs.Unit.{TypeUse, UnitOf, declared, first_line, kind_of, headed, with_parts}
use Rattle.module_units.specs.declared.parts.UnitKind.TheVariants as UnitKinds
use Rattle.module_units.specs.declared.parts.DeclKind.TheVariants as kinds
pub use Rattle.module_units.specs.declared.places.TypePlace.{TypePlace}
pub use Rattle.module_units.specs.declared.places.TypePlace.TheVariants.{Begin, AfterConst, AfterBase, AfterReference}
pub use Rattle.module_units.specs.declared.places.Owner.{Owner}
pub use Rattle.module_units.specs.declared.places.Owner.TheVariants.{OfAlias, OfDeclared, OfParameter}
pub use Rattle.module_units.specs.declared.places.ItemPlace.{ItemPlace}
pub use Rattle.module_units.specs.declared.places.ItemPlace.TheVariants.{WantsName, WantsAliasName, WantsEquals, InType, AfterName, AfterOpen, WantsEnd}
pub use Rattle.module_units.specs.declared.places.ItemStep.{ItemStep}
pub use Rattle.module_units.specs.declared.places.ItemStep.TheVariants.{Fails, Goes, Ends}
pub use Rattle.module_units.specs.declared.places.Stage.{Stage}
pub use Rattle.module_units.specs.declared.places.Stage.TheVariants.{AtHead, AtImports, AtDecls}
pub use Rattle.module_units.specs.declared.places.NamePlace.{NamePlace}
pub use Rattle.module_units.specs.declared.places.NamePlace.TheVariants.{Wants, Has}
pub use Rattle.module_units.specs.declared.places.Context.{Context}
pub use Rattle.module_units.specs.declared.places.Context.TheVariants.{Alone, Grouped}
pub use Rattle.module_units.specs.declared.places.Place.{Place}
pub use Rattle.module_units.specs.declared.places.Place.TheVariants.{Between, Exported, InModule, InPartition, AfterImport, InImport, AfterHeader, InItem, InGroup}
pub use Rattle.module_units.specs.declared.places.Parser.{Parser}
use Rattle.module_units.specs.declared.places.StepError.{StepError}
use Rattle.module_units.specs.declared.places.StepError.TheVariants as errors

-- an identifier
abbrev pub named : List ℕ → ℕ → Ident
named name line = record { name = name; line = line }

-- a type's owner goes on where the type has ended
abbrev pub after_type : Owner → List TypeUse → Terminal → ItemStep
after_type (OfAlias identifier) types (Plain Semicolon) = Ends kinds.Alias identifier types
after_type OfDeclared types (Name name line) = Goes (AfterName types (named name line))
after_type (OfParameter identifier) types (Plain Comma) = Goes (InType (OfParameter identifier) types Begin)
after_type (OfParameter identifier) types (Plain RightParen) = Goes (WantsEnd kinds.Function identifier types)
after_type owner types terminal = Fails

-- a type, terminal by terminal
abbrev pub type_step : Owner → List TypeUse → TypePlace → Terminal → ItemStep
type_step owner types Begin (Plain Const) = Goes (InType owner types AfterConst)
type_step owner types Begin (Plain BuiltIn) = Goes (InType owner types AfterBase)
type_step owner types Begin (Name name line) = Goes (InType owner (types ++ record { name = name; line = line } ∷ []) AfterBase)
type_step owner types Begin terminal = Fails
type_step owner types AfterConst (Plain BuiltIn) = Goes (InType owner types AfterBase)
type_step owner types AfterConst (Name name line) = Goes (InType owner (types ++ record { name = name; line = line } ∷ []) AfterBase)
type_step owner types AfterConst terminal = Fails
type_step owner types AfterBase (Plain Star) = Goes (InType owner types AfterBase)
type_step owner types AfterBase (Plain Ampersand) = Goes (InType owner types AfterReference)
type_step owner types AfterBase terminal = after_type owner types terminal
type_step owner types AfterReference terminal = after_type owner types terminal

-- an item, terminal by terminal, behind its first
abbrev pub item_step : ItemPlace → Terminal → ItemStep
item_step (WantsName kind) (Name name line) = Goes (WantsEnd kind (named name line) [])
item_step WantsAliasName (Name name line) = Goes (WantsEquals (named name line))
item_step (WantsEquals identifier) (Plain Equals) = Goes (InType (OfAlias identifier) [] Begin)
item_step (InType owner types type_place) terminal = type_step owner types type_place terminal
item_step (AfterName types identifier) (Plain Semicolon) = Ends kinds.Variable identifier types
item_step (AfterName types identifier) (Plain LeftParen) = Goes (AfterOpen types identifier)
item_step (AfterOpen types identifier) (Plain RightParen) = Goes (WantsEnd kinds.Function identifier types)
item_step (AfterOpen types identifier) terminal = type_step (OfParameter identifier) types Begin terminal
item_step (WantsEnd kind identifier types) (Plain Semicolon) = Ends kind identifier types
item_step place terminal = Fails

-- the first token of an item
abbrev pub item_start : Terminal → ItemStep
item_start (Plain Struct) = Goes (WantsName kinds.Struct)
item_start (Plain Class) = Goes (WantsName kinds.Class)
item_start (Plain Using) = Goes WantsAliasName
item_start terminal = type_step OfDeclared [] Begin terminal

-- the reader stands there
abbrev pub at : UnitOf → Place → Option Parser
at unit place = Some (record { unit = unit; place = place })

-- whether an item in this place is exported
abbrev pub context_marked : Context → Bool
context_marked (Alone export) = is_some export
context_marked (Grouped line) = true

-- where a reader stands behind the item
abbrev pub after_item : Context → Place
after_item (Alone export) = Between AtDecls
after_item (Grouped line) = InGroup line

-- the step of an item, as a step of its unit
abbrev pub lift : UnitOf → Context → ItemStep → Option Parser
lift unit context Fails = None
lift unit context (Goes place) = at unit (InItem context place)
lift unit context (Ends kind identifier types) = at (with_parts unit [] (declared (context_marked context) kind identifier types ∷ [])) (after_item context)

-- the unit with one import more
abbrev pub with_import : UnitOf → Option ℕ → ℕ → List ℕ → UnitOf
with_import unit export line name = with_parts unit (record { exported = is_some export; name = name; line = first_line export line } ∷ []) []

-- one terminal more of a dotted name
abbrev pub name_step : NamePlace → Terminal → Option NamePlace
name_step (Wants so_far) (Name name line) = Some (Has (so_far ++ name))
name_step (Has so_far) (Plain Dot) = Some (Wants (so_far ++ dot ∷ []))
name_step place terminal = None

-- a place in a name goes on
abbrev pub in_name : (NamePlace → Place) → UnitOf → Option NamePlace → Option Parser
in_name place unit None = None
in_name place unit (Some name_place) = at unit (place name_place)

-- between the parts of a unit
abbrev pub between : UnitOf → Stage → Terminal → Option Parser
between unit stage (Export line) = at unit (Exported stage line)
between unit AtHead (Module line) = at unit (InModule None line (Wants []))
between unit AtHead (Import line) = at unit (AfterImport None line)
between unit AtImports (Import line) = at unit (AfterImport None line)
between unit stage terminal = lift unit (Alone None) (item_start terminal)

-- behind an `export`
abbrev pub exported : UnitOf → Stage → ℕ → Terminal → Option Parser
exported unit AtHead export (Module token_line) = at unit (InModule (Some export) token_line (Wants []))
exported unit AtHead export (Import token_line) = at unit (AfterImport (Some export) token_line)
exported unit AtImports export (Import token_line) = at unit (AfterImport (Some export) token_line)
exported unit stage export (Plain LeftBrace) = at unit (InGroup export)
exported unit stage export terminal = lift unit (Alone (Some export)) (item_start terminal)

-- in the name behind `module`
abbrev pub in_module : UnitOf → Option ℕ → ℕ → NamePlace → Terminal → Option Parser
in_module unit export line (Has so_far) (Colon colon_line) = at unit (InPartition export line so_far (Wants []))
in_module unit export line (Has so_far) (Plain Semicolon) = at (headed (kind_of (is_some export) false) so_far [] (first_line export line)) (Between AtImports)
in_module unit export line name_place terminal = in_name (InModule export line) unit (name_step name_place terminal)

-- in the name of a partition
abbrev pub in_partition : UnitOf → Option ℕ → ℕ → List ℕ → NamePlace → Terminal → Option Parser
in_partition unit export line module_name (Has so_far) (Plain Semicolon) = at (headed (kind_of (is_some export) true) module_name so_far (first_line export line)) (Between AtImports)
in_partition unit export line module_name name_place terminal = in_name (InPartition export line module_name) unit (name_step name_place terminal)

-- behind `import`
abbrev pub after_import : UnitOf → Option ℕ → ℕ → Terminal → Option Parser
after_import unit export line (Name name token_line) = at unit (InImport export line (Has name))
after_import unit export line (Colon token_line) = at unit (InImport export line (Wants (unit.module ++ colon ∷ [])))
after_import unit export line (Quoted name token_line) = at unit (AfterHeader export line name)
after_import unit export line terminal = None

-- in the name of an import
abbrev pub in_import : UnitOf → Option ℕ → ℕ → NamePlace → Terminal → Option Parser
in_import unit export line (Has so_far) (Plain Semicolon) = at (with_import unit export line so_far) (Between AtImports)
in_import unit export line name_place terminal = in_name (InImport export line) unit (name_step name_place terminal)

-- behind the string of an import
abbrev pub after_header : UnitOf → Option ℕ → ℕ → List ℕ → Terminal → Option Parser
after_header unit export line name (Plain Semicolon) = at (with_import unit export line name) (Between AtImports)
after_header unit export line name terminal = None

-- between the items of a group
abbrev pub in_group : UnitOf → ℕ → Terminal → Option Parser
in_group unit line (Plain RightBrace) = at unit (Between AtDecls)
in_group unit line terminal = lift unit (Grouped line) (item_start terminal)

-- one terminal more
abbrev pub step : UnitOf → Place → Terminal → Option Parser
step unit (Between stage) terminal = between unit stage terminal
step unit (Exported stage line) terminal = exported unit stage line terminal
step unit (InModule export line name_place) terminal = in_module unit export line name_place terminal
step unit (InPartition export line module_name name_place) terminal = in_partition unit export line module_name name_place terminal
step unit (AfterImport export line) terminal = after_import unit export line terminal
step unit (InImport export line name_place) terminal = in_import unit export line name_place terminal
step unit (AfterHeader export line name) terminal = after_header unit export line name terminal
step unit (InItem context item_place) terminal = lift unit context (item_step item_place terminal)
step unit (InGroup line) terminal = in_group unit line terminal

-- nothing is read yet
abbrev pub start : Parser
start = record { unit = headed UnitKinds.Plain [] [] 1; place = Between AtHead }

-- the reader over terminals
abbrev pub run : Option Parser → List Terminal → Option Parser
run parser [] = parser
run None (terminal ∷ more) = None
run (Some parser) (terminal ∷ more) = run (step parser.unit parser.place terminal) more

-- a step of the program answers as a step of the definition, but for want of memory
abbrev pub StepAnswer : Result Parser StepError → Option Parser → Type 0
StepAnswer (Ok parser) answer = answer ≡ Some parser
StepAnswer (Err errors.Syntax) answer = answer ≡ None
StepAnswer (Err errors.Memory) answer = Unit {0}

-- and so does a step of a dotted name
abbrev pub NameAnswer : Result NamePlace StepError → Option NamePlace → Type 0
NameAnswer (Ok place) answer = answer ≡ Some place
NameAnswer (Err errors.Syntax) answer = answer ≡ None
NameAnswer (Err errors.Memory) answer = Unit {0}

-- a list of types can grow
abbrev pub HasRoom : ItemPlace → Type 0
HasRoom (InType owner types type_place) = length types < 2147483648
HasRoom (AfterName types identifier) = length types < 2147483648
HasRoom (AfterOpen types identifier) = length types < 2147483648
HasRoom place = Unit {0}

-- the lists of a place can grow
abbrev pub PlaceHasRoom : Place → Type 0
PlaceHasRoom (InItem context item_place) = HasRoom item_place
PlaceHasRoom place = Unit {0}

-- the lists of a reader can grow
pub record ParserHasRoom (parser : Parser) : Type 0 where
  pub place : PlaceHasRoom parser.place
  pub imports : length parser.unit.imports < 2147483648
  pub decls : length parser.unit.decls < 2147483648
