-- The classes of octets of the subset of C++, and its reserved words.
use Rattle.std.specs.Prelude.{ℕ, Bool, ◌&&◌, ◌||◌, ◌==◌, not, nat_le, List, [], ◌∷◌, codes}
use Rattle.std.specs.List.{list_any}
use Rattle.std.specs.Str.{bytes_eq}
use Rattle.std.specs.Char.{is_ascii_digit}

-- NEWLINE
abbrev pub is_newline : ℕ → Bool
is_newline octet = octet == 10

-- SPACE, TAB, 0x0d and NEWLINE
abbrev pub is_white : ℕ → Bool
is_white octet = (octet == 32) || (octet == 9) || (octet == 13) || (octet == 10)

-- what an identifier may begin with: letters of ASCII and '_'
abbrev pub is_letter : ℕ → Bool
is_letter octet = (nat_le 65 octet && nat_le octet 90) || (nat_le 97 octet && nat_le octet 122) || (octet == 95)

-- what an identifier may go on with
abbrev pub is_letter_or_digit : ℕ → Bool
is_letter_or_digit octet = is_letter octet || is_ascii_digit octet

-- ; : . , ( ) { } * & =
abbrev pub is_punctuator : ℕ → Bool
is_punctuator octet = list_any (λ mark. octet == mark) (codes ";:.,(){}*&=")

-- what may stand in a string: neither '"' nor an octet below 0x20 nor 0x7f
abbrev pub is_string_octet : ℕ → Bool
is_string_octet octet = nat_le 32 octet && not (octet == 34) && not (octet == 127)

-- the reserved words
abbrev pub reserved_words : List (List ℕ)
reserved_words = codes "export" ∷ codes "module" ∷ codes "import" ∷ codes "struct" ∷ codes "class" ∷ codes "using" ∷ codes "const"
    ∷ codes "void" ∷ codes "bool" ∷ codes "char" ∷ codes "int" ∷ codes "unsigned" ∷ codes "long" ∷ []

-- one of the reserved words
abbrev pub is_reserved : List ℕ → Bool
is_reserved word = list_any (λ reserved. bytes_eq word reserved) reserved_words
