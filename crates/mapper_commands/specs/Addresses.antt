-- What spells the address of a socket.
use Rattle.std.specs.Prelude.{◌≡◌, ◌≢◌, ℕ, ◌≤◌, List, [], ◌++◌, codes, decimal, All}
use Rattle.mapper_commands.specs.declared.address.Address.{Address}
use Rattle.mapper_commands.specs.declared.address.Address.TheVariants.{Unix, Tcp}

-- the octet stands nowhere in the text
abbrev pub Lacks : ℕ → List ℕ → Type 0
Lacks octet text = All (λ other. other ≢ octet) text

-- a number that a port may have
pub record IsPort (port : ℕ) : Type 0 where
  pub least : 1 ≤ port
  pub greatest : port ≤ 65535

-- the text is `unix:` and the path, which has an octet
pub record SpellsPath (text path : List ℕ) : Type 0 where
  pub spelled : text ≡ codes "unix:" ++ path
  pub has_path : path ≢ []

-- the text is `tcp:`, the host, which has an octet, a colon, and the port in decimal
pub record SpellsPort (text host : List ℕ) (port : ℕ) : Type 0 where
  pub spelled : text ≡ codes "tcp:" ++ host ++ codes ":" ++ decimal port
  pub has_host : host ≢ []
  pub is_port : IsPort port

-- the text spells the address
abbrev pub Spells : List ℕ → Address → Type 0
Spells text (Unix path) = SpellsPath text path.now
Spells text (Tcp host port) = SpellsPort text host.now port

-- the text spells an address
pub data IsAddress (text : List ℕ) : Type 0 where
  unix : (path : List ℕ) → SpellsPath text path → IsAddress text
  tcp : (host : List ℕ) (port : ℕ) → SpellsPort text host port → IsAddress text

-- the text spells no address
pub record SpellsNone (text : List ℕ) : Type 0 where
  pub no_path : (path : List ℕ) → ¬ SpellsPath text path
  pub no_port : (host : List ℕ) (port : ℕ) → ¬ SpellsPort text host port
