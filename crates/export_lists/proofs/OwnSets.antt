-- Entries that are read, and one more.
use Rattle.std.proofs.Common.{◌≡◌, ◌<◌, Bool, true, false, not, ◌&&◌, List, [], ◌∷◌, ◌++◌, length, Some, None, if◌then◌else◌, ap, sym, ◌∙◌, refl}
use Rattle.std.specs.Prelude.{nat_lt}
use Rattle.std.specs.List.{list_any}
use Rattle.std.proofs.lemmas.Bool.{lt-ltb}
use Rattle.export_lists.specs.Entries.{Listed, is_same}
use Rattle.export_lists.specs.Compiling.{most_names}
use Rattle.export_lists.specs.CmiTexts.{is_good_entry}
use Rattle.export_lists.specs.Drafts.{added}

none_there : (good room : Bool) (entries : List Listed) → (if good && (room && not true) then Some entries else None) ≡ None
none_there true true entries = refl
none_there true false entries = refl
none_there false room entries = refl

-- an entry that is there isn't taken
pub refused_there : (entries seen : List Listed) (entry : Listed) (test : Bool) → entries ≡ seen → test ≡ list_any (is_same entry) entries → test ≡ true → added seen entry ≡ None
refused_there entries seen entry test same is h =
    ap (λ es. added es entry) (sym same)
    ∙ ap (λ (b : Bool). if is_good_entry entry.name entry.owner && (nat_lt (length entries) most_names && not b) then Some (entries ++ entry ∷ []) else None) (sym is ∙ h)
    ∙ none_there (is_good_entry entry.name entry.owner) (nat_lt (length entries) most_names) (entries ++ entry ∷ [])

-- a good one that isn't there goes last, where there is room
pub taken_last : (entries seen new : List Listed) (entry other : Listed) (test : Bool) → entries ≡ seen → is_good_entry entry.name entry.owner ≡ true → length entries < most_names
    → test ≡ list_any (is_same entry) entries → test ≡ false → other ≡ entry → new ≡ entries ++ other ∷ [] → added seen entry ≡ Some new
taken_last entries seen new entry other test same good room is h copied more =
    let any : list_any (is_same entry) entries ≡ false = sym is ∙ h in
    let few : nat_lt (length entries) most_names ≡ true = lt-ltb (length entries) most_names room in
    ap (λ es. added es entry) (sym same)
    ∙ (λ k. if good k && (few k && not (any k)) then Some (entries ++ entry ∷ []) else None)
    ∙ ap Some (ap (λ e. entries ++ e ∷ []) (sym copied) ∙ sym more)
