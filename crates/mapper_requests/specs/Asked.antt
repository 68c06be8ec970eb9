-- What is asked by a request.
use Rattle.std.specs.Prelude.{ℕ, List}
use Rattle.mapper_requests.specs.declared.request.Bad.{Bad as Cause}
use Rattle.mapper_requests.specs.declared.request.Request.{Request}
use Rattle.mapper_requests.specs.declared.request.Request.TheVariants as lent
use Rattle.mapper_requests.specs.Numbers.{IsNumber}

-- What a request asks: HELLO with its version, compiler and ident, MODULE-REPO, the requests with a name and flags,
-- and words that are none of these.
pub data Asked : Type 0 where
  Hello : ℕ → List ℕ → List ℕ → Asked
  Repo : Asked
  Export : List ℕ → ℕ → Asked
  Import : List ℕ → ℕ → Asked
  Compiled : List ℕ → ℕ → Asked
  Translate : List ℕ → ℕ → Asked
  Bad : Cause → Asked

-- what a request of the program asks, its texts as they are lent
abbrev pub asked_by : Request → Asked
asked_by (lent.Hello version compiler ident) = Hello version compiler.now ident.now
asked_by lent.Repo = Repo
asked_by (lent.Export name flags) = Export name.now flags
asked_by (lent.Import name flags) = Import name.now flags
asked_by (lent.Compiled name flags) = Compiled name.now flags
asked_by (lent.Translate name flags) = Translate name.now flags
asked_by (lent.Bad why) = Bad why

-- anything but words that are no request
abbrev pub IsGood : Asked → Type 0
IsGood (Hello version compiler ident) = Unit {0}
IsGood Repo = Unit {0}
IsGood (Export name flags) = Unit {0}
IsGood (Import name flags) = Unit {0}
IsGood (Compiled name flags) = Unit {0}
IsGood (Translate name flags) = Unit {0}
IsGood (Bad why) = ⊥

-- the version or the flags are a number
abbrev pub HasNumbers : Asked → Type 0
HasNumbers (Hello version compiler ident) = IsNumber version
HasNumbers Repo = Unit {0}
HasNumbers (Export name flags) = IsNumber flags
HasNumbers (Import name flags) = IsNumber flags
HasNumbers (Compiled name flags) = IsNumber flags
HasNumbers (Translate name flags) = IsNumber flags
HasNumbers (Bad why) = Unit {0}
