-- Files whose names and contents stand in one list of octets.
use Rattle.std.proofs.Common.{◌≡◌, ◌≢◌, ℕ, zero, suc, ◌+◌, ◌≤◌, List, [], ◌∷◌, ◌++◌, length, take, drop, All, Option, Some, None, IfNone, Bool, true, false, Ok, refl, sym, ◌∙◌, ap, subst, arith, if◌then◌else◌, get_or, set, length-drop}
use Rattle.std.proofs.lemmas.List.{take-append-le, drop-append-le}
use Rattle.std.proofs.lemmas.Bool.{false_from_ne_true}
use Rattle.std.proofs.lemmas.Slice.Eq.{bytes_eq-Decides}
use Rattle.std.specs.Str.{bytes_eq}
use Rattle.mm_outside.specs.Files.{Stores}
use Rattle.mm_outside.specs.MemFiles.{Space, space_for}
use Rattle.mm_outside.specs.Slots.{text_at, lookup, IsWithin, IsFirst}
use Rattle.mm_outside.specs.declared.mem_files.Span.{Span}
use Rattle.mm_outside.specs.declared.mem_files.Slot.{Slot}

bytes-same : (xs ys : List ℕ) → xs ≡ ys → bytes_eq xs ys ≡ true
bytes-same xs ys e = (bytes_eq-Decides xs ys).1 e

bytes-other : (xs ys : List ℕ) → xs ≢ ys → bytes_eq xs ys ≡ false
bytes-other xs ys ne = false_from_ne_true (bytes_eq xs ys) (λ e. ne ((bytes_eq-Decides xs ys).0 e))

pub text-grown : (octets more : List ℕ) (span : Span) → span.start + span.len ≤ length octets → text_at (octets ++ more) span ≡ text_at octets span
text-grown octets more span within =
    ap (take span.len) (drop-append-le span.start octets more (omega arith))
    ∙ take-append-le span.len (drop span.start octets) more (omega (arith, length-drop span.start octets))

step : Bool → List ℕ → Option (List ℕ) → Option (List ℕ)
step t content rest = if t then Some content else rest

lookup-grown : (octets more : List ℕ) (slots : List Slot) (name : List ℕ) → All (IsWithin (length octets)) slots → lookup (octets ++ more) slots name ≡ lookup octets slots name
lookup-grown octets more [] name within = refl
lookup-grown octets more (slot ∷ slots) name within =
    let here : IsWithin (length octets) slot = within 0 slot (omega arith) in
    ap (λ t. if bytes_eq t name then Some (text_at (octets ++ more) slot.content) else lookup (octets ++ more) slots name) (text-grown octets more slot.name here.name)
    ∙ ap (λ t. if bytes_eq (text_at octets slot.name) name then Some t else lookup (octets ++ more) slots name) (text-grown octets more slot.content here.content)
    ∙ ap (λ r. if bytes_eq (text_at octets slot.name) name then Some (text_at octets slot.content) else r)
    (lookup-grown octets more slots name (λ k d below. within (suc k) d (omega arith)))

pub lookup-none : (octets : List ℕ) (slots : List Slot) (name : List ℕ) → All (λ slot. text_at octets slot.name ≢ name) slots → lookup octets slots name ≡ None
lookup-none octets [] name never = refl
lookup-none octets (slot ∷ slots) name never =
    ap (λ t. if t then Some (text_at octets slot.content) else lookup octets slots name) (bytes-other (text_at octets slot.name) name (never 0 slot (omega arith)))
    ∙ lookup-none octets slots name (λ k d below. never (suc k) d (omega arith))

-- the first slot of a name decides
pub lookup-first : (octets : List ℕ) (slots : List Slot) (name : List ℕ) (k : ℕ) (d : Slot) → IsFirst octets slots name k
    → lookup octets slots name ≡ Some (text_at octets (get_or slots k d).content)
lookup-first octets [] name k d first = absurd (omega (arith, first.within))
lookup-first octets (slot ∷ slots) name zero d first =
    ap (λ t. if t then Some (text_at octets slot.content) else lookup octets slots name) (bytes-same (text_at octets slot.name) name (first.found d))
lookup-first octets (slot ∷ slots) name (suc k) d first =
    ap (λ t. if t then Some (text_at octets slot.content) else lookup octets slots name) (bytes-other (text_at octets slot.name) name (first.before 0 slot (omega arith)))
    ∙ lookup-first octets slots name k d (record { within = omega (arith, first.within); found = λ e. first.found e; before = λ j e below. first.before (suc j) e (omega arith) })

lookup-set-same : (octets : List ℕ) (slots : List Slot) (name : List ℕ) (k : ℕ) (slot' : Slot) → IsFirst octets slots name k → text_at octets slot'.name ≡ name
    → lookup octets (set slots k slot') name ≡ Some (text_at octets slot'.content)
lookup-set-same octets [] name k slot' first e = absurd (omega (arith, first.within))
lookup-set-same octets (slot ∷ slots) name zero slot' first e =
    ap (λ t. if t then Some (text_at octets slot'.content) else lookup octets slots name) (bytes-same (text_at octets slot'.name) name e)
lookup-set-same octets (slot ∷ slots) name (suc k) slot' first e =
    ap (λ t. if t then Some (text_at octets slot.content) else lookup octets (set slots k slot') name) (bytes-other (text_at octets slot.name) name (first.before 0 slot (omega arith)))
    ∙ lookup-set-same octets slots name k slot' (record { within = omega (arith, first.within); found = λ d. first.found d; before = λ j d below. first.before (suc j) d (omega arith) }) e

lookup-set-other : (octets : List ℕ) (slots : List Slot) (other name : List ℕ) (k : ℕ) (slot' : Slot) → IsFirst octets slots name k → text_at octets slot'.name ≡ name → other ≢ name
    → lookup octets (set slots k slot') other ≡ lookup octets slots other
lookup-set-other octets [] other name k slot' first e ne = refl
lookup-set-other octets (slot ∷ slots) other name zero slot' first e ne =
    ap (λ t. if t then Some (text_at octets slot'.content) else lookup octets slots other) (bytes-other (text_at octets slot'.name) other (λ same. ne (sym same ∙ e)))
    ∙ sym (ap (λ t. if t then Some (text_at octets slot.content) else lookup octets slots other) (bytes-other (text_at octets slot.name) other (λ same. ne (sym same ∙ first.found slot))))
lookup-set-other octets (slot ∷ slots) other name (suc k) slot' first e ne =
    ap (λ r. if bytes_eq (text_at octets slot.name) other then Some (text_at octets slot.content) else r)
    (lookup-set-other octets slots other name k slot' (record { within = omega (arith, first.within); found = λ d. first.found d; before = λ j d below. first.before (suc j) d (omega arith) }) e ne)

lookup-push-same : (octets : List ℕ) (slots : List Slot) (name : List ℕ) (slot' : Slot) → lookup octets slots name ≡ None → text_at octets slot'.name ≡ name
    → lookup octets (slots ++ slot' ∷ []) name ≡ Some (text_at octets slot'.content)
lookup-push-same octets [] name slot' none e = ap (λ t. if t then Some (text_at octets slot'.content) else None) (bytes-same (text_at octets slot'.name) name e)
lookup-push-same octets (slot ∷ slots) name slot' none e =
    go (bytes_eq (text_at octets slot.name) name) (λ rest. lookup-push-same octets slots name slot' rest e) none
  where
    go : (t : Bool) → (lookup octets slots name ≡ None → lookup octets (slots ++ slot' ∷ []) name ≡ Some (text_at octets slot'.content))
        → (if t then Some (text_at octets slot.content) else lookup octets slots name) ≡ None
        → (if t then Some (text_at octets slot.content) else lookup octets (slots ++ slot' ∷ []) name) ≡ Some (text_at octets slot'.content)
    go true below none = cc
    go false below none = below none

lookup-push-other : (octets : List ℕ) (slots : List Slot) (other name : List ℕ) (slot' : Slot) → text_at octets slot'.name ≡ name → other ≢ name
    → lookup octets (slots ++ slot' ∷ []) other ≡ lookup octets slots other
lookup-push-other octets [] other name slot' e ne = ap (λ t. if t then Some (text_at octets slot'.content) else None) (bytes-other (text_at octets slot'.name) other (λ same. ne (sym same ∙ e)))
lookup-push-other octets (slot ∷ slots) other name slot' e ne =
    ap (λ r. if bytes_eq (text_at octets slot.name) other then Some (text_at octets slot.content) else r) (lookup-push-other octets slots other name slot' e ne)

first-grown : (octets more : List ℕ) (slots : List Slot) (name : List ℕ) (k : ℕ) → All (IsWithin (length octets)) slots
    → IsFirst octets slots name k → IsFirst (octets ++ more) slots name k
first-grown octets more slots name k within first = record {
  within = first.within;
  found = λ d. text-grown octets more (get_or slots k d).name (within k d first.within).name ∙ first.found d;
  before = λ j d below. subst (λ t. t ≢ name) (sym (text-grown octets more (get_or slots j d).name (within j d (omega (arith, first.within, below))).name)) (first.before j d below);
}

-- a file is written anew
pub stores-set : {T E : Type 0} (u : T) (octets more whole : List ℕ) (slots slots' : List Slot) (name content : List ℕ) (k : ℕ) (slot slot' : Slot)
    → whole ≡ octets ++ more → slots' ≡ set slots k slot' → All (IsWithin (length octets)) slots → IsFirst octets slots name k
    → slot ≡ get_or slots k slot → slot'.name ≡ slot.name → text_at whole slot'.content ≡ content
    → Stores {T = T} {E = E} (Ok u) name content (lookup octets slots) (lookup whole slots')
stores-set u octets more whole slots slots' name content k slot slot' e e' within first at named written =
    let grown : IsFirst whole slots name k = subst (λ o. IsFirst o slots name k) (sym e) (first-grown octets more slots name k within first) in
    let same : text_at whole slot'.name ≡ name = ap (text_at whole) (named ∙ ap (λ x. x.name) at) ∙ grown.found slot in
    record {
      stored = ap (λ s. lookup whole s name) e' ∙ lookup-set-same whole slots name k slot' grown same ∙ ap Some written;
      others = λ other ne. ap (λ s. lookup whole s other) e' ∙ lookup-set-other whole slots other name k slot' grown same ne
          ∙ ap (λ o. lookup o slots other) e ∙ lookup-grown octets more slots other within;
    }

-- a file is added
pub stores-push : {T E : Type 0} (u : T) (octets more whole : List ℕ) (slots slots' : List Slot) (name content : List ℕ) (slot' : Slot)
    → whole ≡ octets ++ more → slots' ≡ slots ++ slot' ∷ [] → All (IsWithin (length octets)) slots → lookup octets slots name ≡ None
    → text_at whole slot'.name ≡ name → text_at whole slot'.content ≡ content
    → Stores {T = T} {E = E} (Ok u) name content (lookup octets slots) (lookup whole slots')
stores-push u octets more whole slots slots' name content slot' e e' within absent named written =
    let none : lookup whole slots name ≡ None = ap (λ o. lookup o slots name) e ∙ lookup-grown octets more slots name within ∙ absent in
    record {
      stored = ap (λ s. lookup whole s name) e' ∙ lookup-push-same whole slots name slot' none named ∙ ap Some written;
      others = λ other ne. ap (λ s. lookup whole s other) e' ∙ lookup-push-other whole slots other name slot' named ne
          ∙ ap (λ o. lookup o slots other) e ∙ lookup-grown octets more slots other within;
    }

pub content-some : (octets octets' : List ℕ) (slots slots' : List Slot) (name held : List ℕ) (k : ℕ) (slot : Slot) → octets' ≡ octets → slots' ≡ slots
    → slot ≡ get_or slots' k slot → IsFirst octets' slots' name k → held ≡ text_at octets' slot.content → Some held ≡ lookup octets slots name
content-some octets octets' slots slots' name held k slot e e' at first is =
    ap Some (is ∙ ap (λ x. text_at octets' x.content) at) ∙ sym (lookup-first octets' slots' name k slot first)
    ∙ ap (λ o. lookup o slots' name) e ∙ ap (λ s. lookup octets s name) e'

pub content-none : (octets octets' : List ℕ) (slots slots' : List Slot) (name : List ℕ) → octets' ≡ octets → slots' ≡ slots
    → All (λ slot. text_at octets' slot.name ≢ name) slots' → None ≡ lookup octets slots name
content-none octets octets' slots slots' name e e' never =
    sym (lookup-none octets' slots' name never) ∙ ap (λ o. lookup o slots' name) e ∙ ap (λ s. lookup octets s name) e'

-- a name that is there takes no name's space
pub space-found : (octets : List ℕ) (slots : List Slot) (name content : List ℕ) (k : ℕ) → IsFirst octets slots name k
    → space_for (lookup octets slots name) name content ≡ record { names = 0; octets = length content }
space-found octets [] name content k first = absurd (omega (arith, first.within))
space-found octets (slot ∷ slots) name content k first =
    ap (λ held. space_for held name content) (lookup-first octets (slot ∷ slots) name k slot first)

-- spaces with the same numbers
pub same-space : (a b : Space) → a.names ≡ b.names → a.octets ≡ b.octets → a ≡ b
same-space a b e e' = ap (λ names. space names a.octets) e ∙ ap (space b.names) e'
  where
    space : ℕ → ℕ → Space
    space names octets = record { names = names; octets = octets }

-- a name that no slot has holds nothing
pub place-absent : (place : Option ℕ) (octets : List ℕ) (slots : List Slot) (name : List ℕ)
    → IfNone place (All (λ slot. text_at octets slot.name ≢ name) slots) → IfNone place (lookup octets slots name ≡ None)
place-absent None octets slots name never = lookup-none octets slots name never
place-absent (Some k) octets slots name never = tt
