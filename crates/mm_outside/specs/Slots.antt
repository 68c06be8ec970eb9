-- Files whose names and contents stand in one list of octets.
use Rattle.std.specs.Prelude.{◌≡◌, ◌≢◌, ℕ, ◌+◌, ◌<◌, ◌≤◌, List, [], ◌∷◌, length, take, drop, Option, Some, None, if◌then◌else◌, slice_index_or, bytes_eq}
use Rattle.mm_outside.specs.declared.mem_files.Span.{Span}
use Rattle.mm_outside.specs.declared.mem_files.Slot.{Slot}

-- the text of a span
abbrev pub text_at : List ℕ → Span → List ℕ
text_at octets span = take span.len (drop span.start octets)

-- the spans of a slot stand in so many octets
pub record IsWithin (count : ℕ) (slot : Slot) : Type 0 where
  pub name : slot.name.start + slot.name.len ≤ count
  pub content : slot.content.start + slot.content.len ≤ count

-- what the first slot of a name holds
abbrev pub lookup : List ℕ → List Slot → List ℕ → Option (List ℕ)
lookup octets [] name = None
lookup octets (slot ∷ slots) name = if bytes_eq (text_at octets slot.name) name then Some (text_at octets slot.content) else lookup octets slots name

-- k is the place of the first slot of the name
pub record IsFirst (octets : List ℕ) (slots : List Slot) (name : List ℕ) (k : ℕ) : Type 0 where
  pub within : k < length slots
  pub found : (d : Slot) → text_at octets (slice_index_or slots k d).name ≡ name
  pub before : (j : ℕ) (d : Slot) → j < k → text_at octets (slice_index_or slots j d).name ≢ name
