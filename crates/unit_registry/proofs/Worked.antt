-- A worked project, and one that declares a name twice, computed by the definitions.
use Rattle.std.proofs.Common.{◌≡◌, ℕ, false, List, [], ◌∷◌, ◌++◌, refl}
use Rattle.std.specs.Prelude.{codes, Ok, Err}
use Rattle.cody_words.specs.Octets.{newline}
use Rattle.cody_words.specs.Meanings.{meaning, is_marked, marked_body}
use Rattle.header_units.specs.Octets.{is_letter, is_letter_or_digit}
use Rattle.header_units.specs.Names.{name_kind}
use Rattle.unit_registry.specs.declared.kind.Kind.TheVariants.{Module, Header, Plain}
use Rattle.unit_registry.specs.declared.reason.ProjectReason.TheVariants.{TwiceName}
use Rattle.unit_registry.specs.Projects.{find_by}
use Rattle.unit_registry.specs.Lines.{declared}
use Rattle.unit_registry.specs.Drafts.{with_line}
use Rattle.unit_registry.specs.Readings.{reading}

-- a project file, by its fourth line
unfoldable worked_text : List ℕ → List ℕ
worked_text fourth =
    codes "modmap-project 1" ++ newline
    ∷ (codes "repo gcm.cache" ++ newline
    ∷ (codes "module a a.cc" ++ newline
    ∷ (fourth ++ newline
    ∷ (codes "header ./x.h x.h" ++ newline
    ∷ (codes "plain main.cc" ++ newline
    ∷ (codes "end" ++ newline ∷ []))))))

worked : reading (worked_text (codes "module b b.cc")) ≡ Ok (record {
  repo = codes "gcm.cache";
  units =
      declared false Module (codes "a") (codes "a.cc")
      ∷ declared false Module (codes "b") (codes "b.cc")
      ∷ declared false Header (codes "./x.h") (codes "x.h")
      ∷ declared false Plain [] (codes "main.cc")
      ∷ [];
})
unfolding reading with_line meaning is_marked marked_body find_by name_kind is_letter is_letter_or_digit worked_text
worked = refl

twice : reading (worked_text (codes "module a c.cc")) ≡ Err (record { line = 4; reason = TwiceName })
unfolding reading with_line meaning is_marked marked_body find_by name_kind is_letter is_letter_or_digit worked_text
twice = refl
