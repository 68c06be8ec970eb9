-- The words that a request is written as.
use Rattle.std.specs.Prelude.{ℕ, ◌+◌, ◌*◌, ◌==◌, if◌then◌else◌, List, [], ◌∷◌, length, codes, decimal}
use Rattle.mapper_requests.specs.Asked.{Asked, Hello, Repo, Export, Import, Compiled, Translate, Bad}

-- a text, left out where it is empty
abbrev pub given_text : List ℕ → List (List ℕ)
given_text text = if length text == 0 then [] else text ∷ []

-- flags, left out where they are 0
abbrev pub given_flags : ℕ → List (List ℕ)
given_flags flags = if flags == 0 then [] else decimal flags ∷ []

-- the words of a request; what is bad has none
unfoldable pub request_words : Asked → List (List ℕ)
request_words (Hello version compiler ident) = codes "HELLO" ∷ decimal version ∷ compiler ∷ given_text ident
request_words Repo = codes "MODULE-REPO" ∷ []
request_words (Export name flags) = codes "MODULE-EXPORT" ∷ name ∷ given_flags flags
request_words (Import name flags) = codes "MODULE-IMPORT" ∷ name ∷ given_flags flags
request_words (Compiled name flags) = codes "MODULE-COMPILED" ∷ name ∷ given_flags flags
request_words (Translate name flags) = codes "INCLUDE-TRANSLATE" ∷ name ∷ given_flags flags
request_words (Bad why) = []

-- the octets of a request's texts
abbrev pub text_octets : Asked → ℕ
text_octets (Hello version compiler ident) = length compiler + length ident
text_octets Repo = 0
text_octets (Export name flags) = length name
text_octets (Import name flags) = length name
text_octets (Compiled name flags) = length name
text_octets (Translate name flags) = length name
text_octets (Bad why) = 0

-- room for a request's line
abbrev pub request_room : Asked → ℕ
request_room asked = 3 * text_octets asked + 64
