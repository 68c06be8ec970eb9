-- Worked rows, which the definitions compute.
use Rattle.std.proofs.Common.{◌≡◌, [], ◌∷◌, ◌++◌, refl, true, false}
use Rattle.std.specs.Prelude.{codes, replicate}
use Rattle.cody_words.specs.declared.reason.Reason.TheVariants.{StraySemicolon, UnclosedQuote}
use Rattle.cody_words.specs.Lines.{Blank, Words, Malformed}
use Rattle.cody_words.specs.Meanings.{marked_body, is_marked, meaning}
use Rattle.cody_words.specs.Canonical.{is_bare_letter, quoted_octet, quote, canonical_line}

-- parts that abut are one word
one_word : meaning (codes "FOO' 'bar") ≡ Words (codes "FOO bar" ∷ [])
unfolding meaning marked_body
one_word = refl

-- escapes of one and of two digits
escapes : meaning (codes "HELLO 1 GCC '\\c3\\a9\\1'") ≡ Words (codes "HELLO" ∷ codes "1" ∷ codes "GCC" ∷ (195 ∷ 169 ∷ 1 ∷ []) ∷ [])
unfolding meaning marked_body
escapes = refl

-- a quote that isn't closed, at the end of the body
unclosed : meaning (codes "MODULE-EXPORT 'a ;") ≡ Malformed 16 UnclosedQuote
unfolding meaning marked_body
unclosed = refl

unclosed_marked : is_marked (codes "MODULE-EXPORT 'a ;") ≡ true
unfolding is_marked marked_body
unclosed_marked = refl

-- a semicolon before the end of the line is no mark
stray : meaning (codes "FOO ; ") ≡ Malformed 4 StraySemicolon
unfolding meaning marked_body
stray = refl

stray_unmarked : is_marked (codes "FOO ; ") ≡ false
unfolding is_marked marked_body
stray_unmarked = refl

-- the mark alone
blank : meaning (codes ";") ≡ Blank
unfolding meaning marked_body
blank = refl

empty_word : meaning (codes "''") ≡ Words ([] ∷ [])
unfolding meaning marked_body
empty_word = refl

quoted_semicolon : meaning (codes "';'") ≡ Words (codes ";" ∷ [])
unfolding meaning marked_body
quoted_semicolon = refl

inner_semicolon : meaning (codes "a;b") ≡ Words (codes "a;b" ∷ [])
unfolding meaning marked_body
inner_semicolon = refl

-- a canonical line with the mark
refusal : canonical_line (codes "ERROR" ∷ codes "line 2: unclosed quote" ∷ []) true ≡ codes "ERROR 'line 2: unclosed quote' ;" ++ 10 ∷ []
unfolding is_bare_letter quoted_octet
refusal = refl

-- each escape of canonical writing
odd_octets : quote (10 ∷ 9 ∷ 39 ∷ 92 ∷ 1 ∷ 127 ∷ 195 ∷ []) ≡ codes "'\\n\\t\\'\\\\\\01\\7f" ++ 195 ∷ 39 ∷ []
unfolding is_bare_letter quoted_octet
odd_octets = refl

long_word : meaning (codes "MODULE-EXPORT " ++ replicate 200 120) ≡ Words (codes "MODULE-EXPORT" ∷ replicate 200 120 ∷ [])
unfolding meaning marked_body
long_word = refl
