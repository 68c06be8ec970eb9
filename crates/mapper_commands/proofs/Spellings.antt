-- Which octets spell an address.
use Rattle.std.proofs.Common.{List, ℕ}
use Rattle.mapper_commands.specs.Addresses.{IsAddress, Spells, SpellsNone, unix, tcp}
use Rattle.mapper_commands.specs.declared.address.Address.{Address}
use Rattle.mapper_commands.specs.declared.address.Address.TheVariants.{Unix, Tcp}

-- those that spell this one
pub spelled : (text : List ℕ) (address : Address) → Spells text address → IsAddress text
spelled text (Unix path) spells = unix path.now spells
spelled text (Tcp host port) spells = tcp host.now port spells

-- and none that spell none
pub unspelled : (text : List ℕ) → SpellsNone text → IsAddress text → ⊥
unspelled text none (unix path spells) = none.no_path path spells
unspelled text none (tcp host port spells) = none.no_port host port spells
