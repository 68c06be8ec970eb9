-- A text with a colon behind which there is none, and the ports that its end spells.
use Rattle.std.proofs.Common.{◌≡◌, ◌≢◌, ◌<◌, ◌^◌, ℕ, ◌+◌, ◌%◌, ◌≤◌, List, [], ◌∷◌, ◌++◌, refl, sym, ap, subst, ◌∙◌, append_assoc, arith}
use Rattle.std.specs.Prelude.{codes, decimal}
use Rattle.std.proofs.lemmas.Fmt.{decimal_by_steps, decimal_injective}
use Rattle.std.proofs.lemmas.List.Elements.{All-append, All-cons, All-nil, All-head, All-tail}
use Rattle.mapper_commands.specs.Addresses.{IsPort, Lacks, SpellsPort}

-- no digit is a colon
one_lacks : (digit : ℕ) → digit < 10 → Lacks 58 ((48 + digit) ∷ [])
one_lacks digit small = All-cons (λ (other : ℕ). other ≢ 58) (48 + digit) [] (λ e. omega arith) (All-nil (λ (other : ℕ). other ≢ 58))

decimal_lacks : (n : ℕ) → n < 2 ^ 64 → Lacks 58 (decimal n)
decimal_lacks n small = decimal_by_steps (λ m ds. Lacks 58 ds) (λ m lt. one_lacks m lt) (λ m ds ge e. All-append (λ (other : ℕ). other ≢ 58) ds _ e (one_lacks (m % 10) (omega arith))) n small

-- a text with a colon in it does not lack it
lacks_no_colon : (host digits : List ℕ) → Lacks 58 (host ++ 58 ∷ digits) → ⊥
lacks_no_colon [] digits lacks = All-head (λ (other : ℕ). other ≢ 58) 58 digits lacks refl
lacks_no_colon (h ∷ host) digits lacks = lacks_no_colon host digits (All-tail (λ (other : ℕ). other ≢ 58) h (host ++ 58 ∷ digits) lacks)

-- the last colon of a text stands at one place
same_split : (front back host digits : List ℕ) → front ++ 58 ∷ back ≡ host ++ 58 ∷ digits → Lacks 58 back → Lacks 58 digits → (front ≡ host) × (back ≡ digits)
same_split [] back [] digits e here there = (refl, cc)
same_split [] back (h ∷ host) digits e here there = let rest : back ≡ host ++ 58 ∷ digits = cc in absurd (lacks_no_colon host digits (subst (λ t. Lacks 58 t) rest here))
same_split (f ∷ front) back [] digits e here there = let rest : digits ≡ front ++ 58 ∷ back = cc in absurd (lacks_no_colon front back (subst (λ t. Lacks 58 t) rest there))
same_split (f ∷ front) back (h ∷ host) digits e here there =
    let heads : f ≡ h = cc in
    let rest : front ++ 58 ∷ back ≡ host ++ 58 ∷ digits = cc in
    let same = same_split front back host digits rest here there in
    (cc, same.1)

-- behind the mark, host and port are what the last colon parts
behind_mark : (rest host : List ℕ) (port : ℕ) → codes "tcp:" ++ rest ≡ codes "tcp:" ++ host ++ codes ":" ++ decimal port → rest ≡ host ++ 58 ∷ decimal port
behind_mark rest host port e =
    let whole : codes "tcp:" ++ rest ≡ codes "tcp:" ++ (host ++ 58 ∷ decimal port) = e ∙ simp append_assoc in
    cc

parted : (text rest host digits : List ℕ) → text ≡ codes "tcp:" ++ rest → rest ≡ host ++ 58 ∷ digits → Lacks 58 digits → (name : List ℕ) (port : ℕ) → SpellsPort text name port → (host ≡ name) × (digits ≡ decimal port)
parted text rest host digits begun split lacks name port spells =
    let fits : port ≤ 65535 = spells.is_port.greatest in
    same_split host digits name (decimal port) (sym split ∙ behind_mark rest name port (sym begun ∙ spells.spelled)) lacks (decimal_lacks port (omega arith))

-- a text whose digits behind the last colon are no port spells none
pub no_digits : (text rest host digits : List ℕ) → text ≡ codes "tcp:" ++ rest → rest ≡ host ++ 58 ∷ digits → Lacks 58 digits → ((port : ℕ) → IsPort port → digits ≢ decimal port) → (name : List ℕ) (port : ℕ) → SpellsPort text name port → ⊥
no_digits text rest host digits begun split lacks none name port spells = none port spells.is_port (parted text rest host digits begun split lacks name port spells).1

-- nor does one with nothing in front of that colon
pub no_host : (text rest host digits : List ℕ) → text ≡ codes "tcp:" ++ rest → rest ≡ host ++ 58 ∷ digits → Lacks 58 digits → host ≡ [] → (name : List ℕ) (port : ℕ) → SpellsPort text name port → ⊥
no_host text rest host digits begun split lacks empty name port spells = spells.has_host (sym (parted text rest host digits begun split lacks name port spells).0 ∙ empty)

-- nor does one without the mark
pub no_mark : (text : List ℕ) → ((rest : List ℕ) → text ≢ codes "tcp:" ++ rest) → (name : List ℕ) (port : ℕ) → SpellsPort text name port → ⊥
no_mark text none name port spells =
    let whole : text ≡ codes "tcp:" ++ (name ++ 58 ∷ decimal port) = spells.spelled ∙ simp append_assoc in
    none (name ++ 58 ∷ decimal port) whole

-- nor does one without a colon behind the mark
pub no_colon : (text rest : List ℕ) → text ≡ codes "tcp:" ++ rest → Lacks 58 rest → (name : List ℕ) (port : ℕ) → SpellsPort text name port → ⊥
no_colon text rest begun lacks name port spells = lacks_no_colon name (decimal port) (subst (λ t. Lacks 58 t) (behind_mark rest name port (sym begun ∙ spells.spelled)) lacks)

-- mark, host, colon and port spell an address
pub spells : (text rest host digits : List ℕ) (port : ℕ) → text ≡ codes "tcp:" ++ rest → rest ≡ host ++ 58 ∷ digits → host ≢ [] → IsPort port → digits ≡ decimal port → SpellsPort text host port
spells text rest host digits port begun split some is spelled = record {
  spelled = begun ∙ ap (λ t. codes "tcp:" ++ t) (split ∙ ap (λ t. host ++ 58 ∷ t) spelled) ∙ simp append_assoc;
  has_host = some;
  is_port = is;
}

-- digits of a number that is no port are no port's
pub no_port : (digits : List ℕ) (number : ℕ) → digits ≡ decimal number → number < 2 ^ 32 → (IsPort number → ⊥) → (port : ℕ) → IsPort port → digits ≡ decimal port → ⊥
no_port digits number spelled small none port is other =
    let fits : port ≤ 65535 = is.greatest in
    none (subst (λ n. IsPort n) (sym (decimal_injective number port (omega arith) (omega arith) (sym spelled ∙ other))) is)
