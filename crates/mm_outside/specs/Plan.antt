-- Which calls of one method of a memory form fail, and in what sizes its octets are cut.
use Rattle.std.specs.Prelude.{ℕ, ◌+◌, ◌-◌, ◌^◌, List, min, slice_index_or, Contains, Result, Ok, Err}

-- how many calls were made, the numbers of the calls that are to fail, and the sizes of the cuts
pub record Plan : Type 0 where
  pub calls : ℕ
  pub failing : List ℕ
  pub sizes : List ℕ

-- no call was made yet
abbrev pub planned : List ℕ → List ℕ → Plan
planned sizes failing = record { calls = 0; failing = failing; sizes = sizes }

-- the next call is to fail
abbrev pub IsDue : Plan → Type 0
IsDue plan = Contains plan.failing plan.calls

-- how many of so many octets the next call handles: the size of its number, and behind the end of the sizes all
abbrev pub next_size : Plan → ℕ → ℕ
next_size plan most = min (slice_index_or plan.sizes plan.calls most) most

-- one call more was made, up to the last value of the counter
abbrev pub called : Plan → Plan
called plan = record plan { calls = min (plan.calls + 1) (2 ^ 64 - 1) }

-- how many octets a call handled
abbrev pub handled : {E : Type 0} → Result ℕ E → ℕ
handled (Ok count) = count
handled (Err _) = 0
