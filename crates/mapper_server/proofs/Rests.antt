-- The octets of a room that are still to be taken.
use Rattle.std.proofs.Common.{◌≡◌, ℕ, ◌+◌, ◌≤◌, List, [], length, take, drop, sym, arith}
use Rattle.std.proofs.lemmas.List.{drop_all, drop-drop, length-take-le}
use Rattle.mapper_server.specs.Steps.{rest_of}

pub none_left : (end : ℕ) (room : List ℕ) → end ≤ length room → rest_of end end room ≡ []
none_left end room le = drop_all end (take end room) (omega (arith, length-take-le end room le))

pub fewer_left : (at used end : ℕ) (room : List ℕ) → rest_of (at + used) end room ≡ drop used (rest_of at end room)
fewer_left at used end room = sym (drop-drop used at (take end room))
