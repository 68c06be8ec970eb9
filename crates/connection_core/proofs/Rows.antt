-- Worked connections, each alone over a project of four units, which the definitions compute.
use Rattle.std.proofs.Common.{◌≡◌, ℕ, false, List, [], ◌∷◌, ◌++◌, Some, None, refl}
use Rattle.std.specs.Prelude.{codes}
use Rattle.std.specs.Fmt.{digits}
use Rattle.cody_words.specs.Octets.{newline}
use Rattle.cody_words.specs.Meanings.{meaning, is_marked, marked_body}
use Rattle.cody_words.specs.Canonical.{is_bare_letter, quoted_octet}
use Rattle.cody_batches.specs.Blocks.{blocks}
use Rattle.header_units.specs.CmiNames.{cmi_stem}
use Rattle.mapper_requests.specs.Requests.{request}
use Rattle.mapper_requests.specs.Numbers as numbers
use Rattle.unit_registry.specs.declared.kind.Kind.TheVariants.{Module, Header, Plain}
use Rattle.unit_registry.specs.declared.act.Act.TheVariants.{Open, Hello, Repo, Export, Import, Pause, Lost, Done}
use Rattle.unit_registry.specs.Projects.{ProjectView, find_by}
use Rattle.connection_core.specs.Asking.{Block, acts}
use Rattle.connection_core.specs.Answers.{answers}
use Rattle.connection_core.specs.Alone.{alone, own_answers, solo_by}

-- the modules a and b, the header ./x.h, and main.cc, which has no name
abbrev four_units : ProjectView
four_units = record {
  repo = codes "gcm.cache";
  units = record { kind = Module; name = codes "a"; ident = codes "a.cc"; built = false }
      ∷ record { kind = Module; name = codes "b"; ident = codes "b.cc"; built = false }
      ∷ record { kind = Header; name = codes "./x.h"; ident = codes "x.h"; built = false }
      ∷ record { kind = Plain; name = []; ident = codes "main.cc"; built = false }
      ∷ [];
}

abbrev hello_a : List ℕ
hello_a = codes "HELLO 1 GCC a.cc ;"

-- the lines of octets make these blocks
two_blocks : blocks (codes "FOO" ++ newline ∷ (codes "FOO ;" ++ newline ∷ (codes "BAR" ++ newline ∷ []))) ≡ (codes "FOO" ∷ []) ∷ (codes "FOO ;" ∷ codes "BAR" ∷ []) ∷ []
unfolding meaning is_marked marked_body
two_blocks = refl

-- ---- HELLO and MODULE-REPO in one block

first_two_acts : acts four_units ((hello_a ∷ codes "MODULE-REPO" ∷ []) ∷ []) ≡ Hello 1 (Some 0) ∷ Repo ∷ Pause ∷ []
unfolding meaning is_marked marked_body request find_by numbers.number_of
first_two_acts = refl

first_two_requests : own_answers four_units ((hello_a ∷ codes "MODULE-REPO" ∷ []) ∷ []) ≡ Some (codes "HELLO 1 modmap ;" ++ newline ∷ (codes "PATHNAME gcm.cache" ++ newline ∷ []))
unfolding meaning is_marked marked_body request find_by numbers.number_of is_bare_letter quoted_octet
first_two_requests = refl

-- ---- an unclosed quote refuses the whole block

block_refused_by_line : own_answers four_units ((hello_a ∷ codes "MODULE-EXPORT 'a ;" ∷ codes "MODULE-REPO" ∷ []) ∷ (codes "MODULE-REPO" ∷ []) ∷ [])
    ≡ Some (codes "ERROR 'batch refused: line 2' ;" ++ newline ∷ (codes "ERROR 'line 2: unclosed quote' ;" ++ newline ∷ (codes "ERROR 'batch refused: line 2'" ++ newline ∷ (codes "ERROR 'not connected'" ++ newline ∷ []))))
unfolding meaning is_marked marked_body request find_by numbers.number_of is_bare_letter quoted_octet digits
block_refused_by_line = refl

refused_acts : acts four_units ((hello_a ∷ codes "MODULE-EXPORT 'a ;" ∷ codes "MODULE-REPO" ∷ []) ∷ (codes "MODULE-REPO" ∷ []) ∷ []) ≡ Repo ∷ Pause ∷ []
unfolding meaning is_marked marked_body request find_by numbers.number_of
refused_acts = refl

-- ---- a connection imports what it has compiled

own_report_read_back : own_answers four_units ((hello_a ∷ codes "MODULE-EXPORT a ;" ∷ codes "MODULE-COMPILED a ;" ∷ codes "MODULE-IMPORT a" ∷ []) ∷ [])
    ≡ Some (codes "HELLO 1 modmap ;" ++ newline ∷ (codes "PATHNAME a.gcm ;" ++ newline ∷ (codes "OK ;" ++ newline ∷ (codes "PATHNAME a.gcm" ++ newline ∷ []))))
unfolding meaning is_marked marked_body request find_by numbers.number_of is_bare_letter quoted_octet cmi_stem
own_report_read_back = refl

-- ---- one connection waits for a unit that nobody holds

stall_in_pipe : own_answers four_units ((hello_a ∷ codes "MODULE-IMPORT b" ∷ []) ∷ []) ≡ Some (codes "HELLO 1 modmap ;" ++ newline ∷ (codes "ERROR 'unit failed'" ++ newline ∷ []))
unfolding meaning is_marked marked_body request find_by numbers.number_of is_bare_letter quoted_octet cmi_stem
stall_in_pipe = refl

-- before the Pause the import has no reply, and so the block has no answer
waits_before_the_pause : answers four_units 1 (alone (Open ∷ Hello 1 (Some 0) ∷ Import (Some 1) false ∷ [])) 0 ((hello_a ∷ codes "MODULE-IMPORT b" ∷ []) ∷ []) ≡ None
unfolding meaning is_marked marked_body request find_by numbers.number_of is_bare_letter quoted_octet cmi_stem
waits_before_the_pause = refl

-- ---- a history of six entries has no room for the block

full_history : solo_by 6 9 (acts four_units ((hello_a ∷ codes "MODULE-REPO ;" ∷ codes "MODULE-EXPORT a ;" ∷ codes "MODULE-COMPILED a" ∷ []) ∷ []))
    ≡ alone (Open ∷ Hello 1 (Some 0) ∷ Repo ∷ Export (Some 0) ∷ Lost ∷ []) ++ record { conn = 4294967295; act = Done } ∷ []
unfolding meaning is_marked marked_body request find_by numbers.number_of
full_history = refl

-- ---- NameOnly, INCLUDE-TRANSLATE and a bad number

abbrev translating : Block
translating =
    codes "HELLO 1 GCC main.cc ;" ∷ codes "MODULE-IMPORT b 1 ;" ∷ codes "INCLUDE-TRANSLATE ./x.h ;"
    ∷ codes "INCLUDE-TRANSLATE /usr/include/c++/14/vector ;" ∷ codes "MODULE-IMPORT b x" ∷ []

flags_and_translate : own_answers four_units (translating ∷ [])
    ≡ Some (codes "HELLO 1 modmap ;" ++ newline ∷ (codes "PATHNAME b.gcm ;" ++ newline ∷ (codes "BOOL TRUE ;" ++ newline ∷ (codes "BOOL FALSE ;" ++ newline ∷ (codes "ERROR 'bad number'" ++ newline ∷ [])))))
unfolding meaning is_marked marked_body request find_by numbers.number_of is_bare_letter quoted_octet cmi_stem
flags_and_translate = refl
