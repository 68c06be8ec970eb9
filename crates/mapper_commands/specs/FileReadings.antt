-- What a file is read as, whatever its kind: by the most octets of one, by what its text says, and by where and why a
-- text is refused.
use Rattle.std.specs.Prelude.{◌≡◌, ℕ, ◌≤◌, ◌<◌, ◌⊎◌, List, length, Option, Some, None, Result, Ok, Err}
use Rattle.mm_outside.specs.Files.{Lookup}
use Rattle.mapper_commands.specs.Endings.{Ended, BadWords, OutOfMemory, CannotRead, FileTooLong, Refused, CannotOpen, Served, Reported, Cut, WriteFailed}

-- the file holds a text within the limit that says this
pub record Holds {A : Type 0} (most : ℕ) (Says : List ℕ → A → Type 0) (held : Option (List ℕ)) (value : A) : Type 0 where
  pub text : List ℕ
  pub held_is : held ≡ Some text
  pub within : length text ≤ most
  pub says : Says text value

-- there is no such file, or reading it failed
pub record IsUnreadable (failed : Type 0) (name : List ℕ) (held : Option (List ℕ)) (named : List ℕ) : Type 0 where
  pub named_is : named ≡ name
  pub cause : (held ≡ None) ⊎ failed

-- the file holds more octets than a file of its kind may have
pub record IsTooLong (most : ℕ) (name : List ℕ) (held : Option (List ℕ)) (named : List ℕ) : Type 0 where
  pub named_is : named ≡ name
  pub text : List ℕ
  pub held_is : held ≡ Some text
  pub above : most < length text

-- the file holds a text within the limit that is refused at this line, for this reason
pub record IsRefused (most : ℕ) (Refuses : List ℕ → ℕ → List ℕ → Type 0) (name : List ℕ) (held : Option (List ℕ)) (named : List ℕ) (line : ℕ) (reason : List ℕ) : Type 0 where
  pub named_is : named ≡ name
  pub text : List ℕ
  pub held_is : held ≡ Some text
  pub within : length text ≤ most
  pub refuses : Refuses text line reason

module _ {A : Type 0} (most : ℕ) (Says : List ℕ → A → Type 0) (Refuses : List ℕ → ℕ → List ℕ → Type 0) (failed : Type 0) (name : List ℕ) where
  -- What the file of this name is read as, by what it holds: what its text says, or why nothing. `failed` says that a
  -- read failed.
  abbrev pub IsFileReadAs : Result A Ended → Option (List ℕ) → Type 0
  IsFileReadAs (Ok value) held = Holds most Says held value
  IsFileReadAs (Err BadWords) held = ⊥
  IsFileReadAs (Err OutOfMemory) held = Unit {0}
  IsFileReadAs (Err (CannotRead named)) held = IsUnreadable failed name held named
  IsFileReadAs (Err (FileTooLong named)) held = IsTooLong most name held named
  IsFileReadAs (Err (Refused named line reason)) held = IsRefused most Refuses name held named line reason
  IsFileReadAs (Err (CannotOpen address)) held = ⊥
  IsFileReadAs (Err (Served how)) held = ⊥
  IsFileReadAs (Err (Reported report)) held = ⊥
  IsFileReadAs (Err (Cut report)) held = ⊥
  IsFileReadAs (Err WriteFailed) held = ⊥

-- no file changed, and this is so of what they hold
pub record Stay (R : Lookup → Type 0) (before now : Lookup) : Type 0 where
  pub same : now ≡ before
  pub so : R before
