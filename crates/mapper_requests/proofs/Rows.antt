-- Worked rows, which the definitions compute.
use Rattle.std.proofs.Common.{◌≡◌, [], ◌∷◌, refl}
use Rattle.std.specs.Prelude.{codes, Some, None}
use Rattle.std.specs.Fmt.{digits}
use Rattle.mapper_requests.specs.declared.request.Bad.TheVariants.{UnknownVerb, WrongWords, BadNumber}
use Rattle.mapper_requests.specs.Asked.{Hello, Repo, Import, Translate, Bad}
use Rattle.mapper_requests.specs.Numbers.{number_of}
use Rattle.mapper_requests.specs.Requests.{request}
use Rattle.mapper_requests.specs.Writing.{request_words}

-- a HELLO with an ident
hello : request (codes "HELLO" ∷ codes "1" ∷ codes "GCC" ∷ codes "a.cc" ∷ []) ≡ Hello 1 (codes "GCC") (codes "a.cc")
unfolding request number_of
hello = refl

-- a missing ident is empty
hello_three : request (codes "HELLO" ∷ codes "1" ∷ codes "GCC" ∷ []) ≡ Hello 1 (codes "GCC") []
unfolding request number_of
hello_three = refl

-- too few words, and too many; the count is tried before the number
hello_two : request (codes "HELLO" ∷ codes "1" ∷ []) ≡ Bad WrongWords
unfolding request number_of
hello_two = refl

hello_five : request (codes "HELLO" ∷ codes "x" ∷ codes "GCC" ∷ codes "a.cc" ∷ codes "b.cc" ∷ []) ≡ Bad WrongWords
unfolding request number_of
hello_five = refl

hello_bad_version : request (codes "HELLO" ∷ codes "x" ∷ codes "GCC" ∷ codes "a.cc" ∷ []) ≡ Bad BadNumber
unfolding request number_of
hello_bad_version = refl

repo : request (codes "MODULE-REPO" ∷ []) ≡ Repo
unfolding request
repo = refl

-- flags that are no number
import_bad : request (codes "MODULE-IMPORT" ∷ codes "b" ∷ codes "x" ∷ []) ≡ Bad BadNumber
unfolding request number_of
import_bad = refl

import_flags : request (codes "MODULE-IMPORT" ∷ codes "b" ∷ codes "1" ∷ []) ≡ Import (codes "b") 1
unfolding request number_of
import_flags = refl

-- missing flags are 0
translate : request (codes "INCLUDE-TRANSLATE" ∷ codes "./x.h" ∷ []) ≡ Translate (codes "./x.h") 0
unfolding request number_of
translate = refl

unknown : request (codes "FOO" ∷ []) ≡ Bad UnknownVerb
unfolding request
unknown = refl

-- the greatest number, and one more
greatest : number_of (codes "4294967295") ≡ Some 4294967295
unfolding number_of
greatest = refl

too_great : number_of (codes "4294967296") ≡ None
unfolding number_of
too_great = refl

-- leading zeros, up to ten digits
leading_zeros : number_of (codes "0000000001") ≡ Some 1
unfolding number_of
leading_zeros = refl

eleven_digits : number_of (codes "00000000001") ≡ None
unfolding number_of
eleven_digits = refl

no_digits : number_of [] ≡ None
unfolding number_of
no_digits = refl

-- flags 0 and an empty ident are left out
import_words : request_words (Import (codes "b") 0) ≡ codes "MODULE-IMPORT" ∷ codes "b" ∷ []
unfolding request_words
import_words = refl

hello_words : request_words (Hello 1 (codes "GCC") []) ≡ codes "HELLO" ∷ codes "1" ∷ codes "GCC" ∷ []
unfolding request_words digits
hello_words = refl

import_words_flags : request_words (Import (codes "b") 10) ≡ codes "MODULE-IMPORT" ∷ codes "b" ∷ codes "10" ∷ []
unfolding request_words digits
import_words_flags = refl
