-- Entries and names as the keys of sets.
use Rattle.std.proofs.Common.{◌≡◌, Bool, true, false, ◌&&◌, ◌||◌, ◌==◌, List, [], ◌∷◌, ◌++◌, map, if◌then◌else◌, ap, sym, ◌∙◌, refl}
use Rattle.std.specs.List.{list_any}
use Rattle.std.specs.Str.{bytes_eq}
use Rattle.export_lists.specs.Entries.{Listed, is_same, with_entry}
use Rattle.export_lists.specs.Keys.{Parts, key_of}

-- a test of what items stand for
pub any_map : {K P : Type 0} (part : K → P) (test : P → Bool) (items : List K) → list_any (λ k. test (part k)) items ≡ list_any test (map part items)
any_map part test [] = refl
any_map part test (k ∷ items) = ap (λ b. test (part k) || b) (any_map part test items)

-- whether parts are the same
abbrev pub same_parts : Parts → Parts → Bool
same_parts p q = p.0 == q.0 && (bytes_eq p.1 q.1 && bytes_eq p.2 q.2)

-- a key is there exactly where its entry is, by what keys tell
pub key_is_there : {K : Type 0} (tells : K → Parts) (keys : List K) (entries : List Listed) (key : K) (entry : Listed) → map tells keys ≡ map key_of entries → tells key ≡ key_of entry
    → list_any (λ other. same_parts (tells key) (tells other)) keys ≡ list_any (is_same entry) entries
key_is_there tells keys entries key entry same e =
    any_map tells (same_parts (tells key)) keys
    ∙ ap (list_any (same_parts (tells key))) same
    ∙ ap (λ p. list_any (same_parts p) (map key_of entries)) e
    ∙ sym (any_map key_of (same_parts (key_of entry)) entries)

-- an entry that is there adds nothing
pub there : (entries seen : List Listed) (entry : Listed) (test : Bool) → entries ≡ seen → test ≡ list_any (is_same entry) entries → test ≡ true → entries ≡ with_entry seen entry
there entries seen entry test same same_test h = sym (ap (λ b. if b then entries else entries ++ entry ∷ []) (sym same_test ∙ h)) ∙ ap (λ es. with_entry es entry) same

-- an entry that isn't there goes last
pub not_there : (entries seen new : List Listed) (entry other : Listed) (test : Bool) → entries ≡ seen → test ≡ list_any (is_same entry) entries → test ≡ false → other ≡ entry → new ≡ entries ++ other ∷ [] → new ≡ with_entry seen entry
not_there entries seen new entry other test same same_test h copied added =
    added ∙ ap (λ e. entries ++ e ∷ []) copied
    ∙ sym (ap (λ b. if b then entries else entries ++ entry ∷ []) (sym same_test ∙ h)) ∙ ap (λ es. with_entry es entry) same
