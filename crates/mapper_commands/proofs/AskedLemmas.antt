-- Which words have the form that `gen` asks for.
use Rattle.std.proofs.Common.{◌≡◌, ℕ, ◌≤◌, ◌<◌, ◌^◌, List, [], ◌∷◌, length, map, get_or, sym, ap, ◌∙◌, arith, decimal}
use Rattle.std.proofs.lemmas.Bool.{and_parts, leb-true}
use Rattle.std.proofs.lemmas.Fmt.{decimal_injective}
use Rattle.std.specs.Prelude.{true, not, nat_le, ◌&&◌, ◌==◌}
use Rattle.std.specs.List.{list_all}
use Rattle.header_units.specs.Octets.{is_path_octet}
use Rattle.mapper_commands.specs.Askings.{IsNumberWithin, is_folder, longest_folder}

-- a number that the word spells lies between the bounds
pub lies_between : (low high : ℕ) (word : List ℕ) (read number : ℕ) → high < 2 ^ 32 → word ≡ decimal read → read < 2 ^ 32 → IsNumberWithin low high word number → (low ≤ read) × (read ≤ high)
lies_between low high word read number few spelled small h =
    let same : read ≡ number = decimal_injective read number (omega (arith, small)) (omega (arith, few, h.at_most)) (sym spelled ∙ h.decimal_is) in
    (omega (arith, same, h.at_least), omega (arith, same, h.at_most))

-- three items
pub three_items : {X Y : Type 0} (f : X → Y) (xs : List X) (x y z : X) → length xs ≡ 3 → x ≡ get_or xs 0 x → y ≡ get_or xs 1 y → z ≡ get_or xs 2 z → map f xs ≡ f x ∷ f y ∷ f z ∷ []
three_items f [] x y z three a b c = absurd (omega (arith, three))
three_items f (p ∷ []) x y z three a b c = absurd (omega (arith, three))
three_items f (p ∷ q ∷ []) x y z three a b c = absurd (omega (arith, three))
three_items f (p ∷ q ∷ r ∷ []) x y z three a b c = ap (λ v. f v ∷ f q ∷ f r ∷ []) (sym a) ∙ ap (λ v. f x ∷ f v ∷ f r ∷ []) (sym b) ∙ ap (λ v. f x ∷ f y ∷ f v ∷ []) (sym c)
three_items f (p ∷ q ∷ r ∷ s ∷ xs) x y z three a b c = absurd (omega (arith, three))

-- a folder that is asked for isn't too long
pub folder_bound : (folder : List ℕ) → is_folder folder ≡ true → length folder ≤ longest_folder
folder_bound folder is =
    let front : (not (length folder == 0) && nat_le (length folder) longest_folder) ≡ true = (and_parts (not (length folder == 0) && nat_le (length folder) longest_folder) (list_all is_path_octet folder) is).0 in
    leb-true (length folder) longest_folder (and_parts (not (length folder == 0)) (nat_le (length folder) 400) front).1
