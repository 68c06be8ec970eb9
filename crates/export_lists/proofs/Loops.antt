-- What one item more adds.
use Rattle.std.proofs.Common.{◌≡◌, ℕ, zero, suc, ◌+◌, ◌<◌, ◌≤◌, List, [], ◌∷◌, ◌++◌, length, take, drop, get_or, Some, ap, sym, ◌∙◌, refl, arith, ◌⊎◌, inl, inr}
use Rattle.std.specs.Prelude.{slice_get, zip, flat_map}
use Rattle.std.specs.Borrow.{Bor}
use Rattle.std.proofs.lemmas.Grind.{fold-append, flat_map-append}
use Rattle.export_lists.specs.Entries.{Listed, with_entry, with_entries}
use Rattle.std.proofs.lemmas.List.{take_all, append-nil, take_more, drop_more}
use Rattle.std.proofs.lemmas.Option.{slice_get_read, slice_get_within, get_or_from_slice_get}
use Rattle.module_units.specs.declared.unit.Unit.{Unit as UnitOf}
use Rattle.module_units.specs.declared.parts.Import.{Import as ImportOf}
use Rattle.export_lists.specs.Lists.{Cmi, Imported, imported}
use Rattle.export_lists.specs.Lent.{lent}

-- the items up to the next place
pub taken : {X : Type 0} (xs : List X) (k : ℕ) (x : X) → slice_get xs k ≡ Some x → take (k + 1) xs ≡ take k xs ++ x ∷ []
taken xs k x e = take_more xs k x (slice_get_within xs k x e) ∙ ap (λ y. take k xs ++ y ∷ []) (get_or_from_slice_get xs k x x e)

-- the items from a place on
pub dropped : {X : Type 0} (xs : List X) (k : ℕ) (x : X) → slice_get xs k ≡ Some x → drop k xs ≡ x ∷ drop (k + 1) xs
dropped xs k x e = drop_more xs k x (slice_get_within xs k x e) ∙ ap (λ y. y ∷ drop (k + 1) xs) (get_or_from_slice_get xs k x x e)

-- a pair of two lists
pub paired : {X Y : Type 0} (xs : List X) (ys : List Y) (k : ℕ) (x : X) (y : Y) → slice_get xs k ≡ Some x → slice_get ys k ≡ Some y → slice_get (zip xs ys) k ≡ Some (x, y)
paired [] ys k x y e f = absurd (cc)
paired (a ∷ xs) [] k x y e f = absurd (cc)
paired (a ∷ xs) (b ∷ ys) zero x y e f = let one : a ≡ x = cc in let two : b ≡ y = cc in λ i. Some (one i, two i)
paired (a ∷ xs) (b ∷ ys) (suc k) x y e f = paired xs ys k x y e f

-- an interface that is lent
pub lent_at : (cmis : List (Bor Cmi)) (k : ℕ) (cmi : Bor Cmi) → slice_get cmis k ≡ Some cmi → slice_get (lent cmis) k ≡ Some cmi.now
lent_at [] k cmi e = absurd (cc)
lent_at (b ∷ cmis) zero cmi e = let same : b ≡ cmi = cc in ap (λ c. Some c.now) same
lent_at (b ∷ cmis) (suc k) cmi e = lent_at cmis k cmi e

-- the entries of one item more
pub entries_more : {X : Type 0} (f : X → List Listed) (before : List Listed) (xs : List X) (k : ℕ) (x : X) → slice_get xs k ≡ Some x
    → with_entries before (flat_map f (take (k + 1) xs)) ≡ with_entries (with_entries before (flat_map f (take k xs))) (f x)
entries_more f before xs k x e =
    ap (λ ys. with_entries before (flat_map f ys)) (taken xs k x e)
    ∙ ap (with_entries before) (flat_map-append f (take k xs) (x ∷ []))
    ∙ fold-append with_entry before (flat_map f (take k xs)) (f x ++ [])
    ∙ ap (with_entries (with_entries before (flat_map f (take k xs)))) (append-nil (f x))

-- the import at a place, with its interface
pub import_at : (unit : UnitOf) (cmis : List (Bor Cmi)) (k : ℕ) (import : ImportOf) (cmi : Bor Cmi) → length cmis ≡ length unit.imports → k < length cmis → slice_get unit.imports k ≡ Some import → cmi ≡ get_or cmis k cmi
    → slice_get (imported unit (lent cmis)) k ≡ Some (import, cmi.now)
import_at unit cmis k import cmi same lt e is = paired unit.imports (lent cmis) k import cmi.now e (lent_at cmis k cmi (slice_get_read cmis (length cmis) k cmi refl lt is))

-- what the entries are behind one import more
pub more : {X : Type 0} (f : X → List Listed) (before entries after : List Listed) (xs : List X) (k : ℕ) (x : X) (listed : List Listed) → slice_get xs k ≡ Some x → listed ≡ f x
    → entries ≡ with_entries before (flat_map f (take k xs)) → after ≡ with_entries entries listed → after ≡ with_entries before (flat_map f (take (k + 1) xs))
more f before entries after xs k x listed e same was now =
    now ∙ ap (with_entries entries) same ∙ ap (λ es. with_entries es (f x)) was ∙ sym (entries_more f before xs k x e)

pub zip_all : {X Y : Type 0} (xs : List X) (ys : List Y) (k : ℕ) → length xs ≤ k → take k (zip xs ys) ≡ zip xs ys
zip_all [] ys k le = take_all k [] (omega arith)
zip_all (x ∷ xs) [] k le = take_all k [] (omega arith)
zip_all (x ∷ xs) (y ∷ ys) zero le = absurd (omega arith)
zip_all (x ∷ xs) (y ∷ ys) (suc k) le = ap (λ zs. (x, y) ∷ zs) (zip_all xs ys k (omega arith))

-- the same where either list has no more items
pub zip_ends : {X Y : Type 0} (xs : List X) (ys : List Y) (k : ℕ) → (length xs ≤ k) ⊎ (length ys ≤ k) → take k (zip xs ys) ≡ zip xs ys
zip_ends [] ys k le = take_all k [] (omega arith)
zip_ends (x ∷ xs) [] k le = take_all k [] (omega arith)
zip_ends (x ∷ xs) (y ∷ ys) zero (inl le) = absurd (omega (arith, le))
zip_ends (x ∷ xs) (y ∷ ys) zero (inr le) = absurd (omega (arith, le))
zip_ends (x ∷ xs) (y ∷ ys) (suc k) (inl le) = ap (λ zs. (x, y) ∷ zs) (zip_ends xs ys k (inl (omega (arith, le))))
zip_ends (x ∷ xs) (y ∷ ys) (suc k) (inr le) = ap (λ zs. (x, y) ∷ zs) (zip_ends xs ys k (inr (omega (arith, le))))

-- all imports were taken
pub all_imported : (unit : UnitOf) (cmis : List Cmi) (k : ℕ) → length unit.imports ≤ k → take k (imported unit cmis) ≡ imported unit cmis
all_imported unit cmis k le = zip_all unit.imports cmis k le

-- what the entries are behind all imports
pub whole : (f : Imported → List Listed) (before entries : List Listed) (unit : UnitOf) (cmis : List Cmi) (k : ℕ) → length unit.imports ≤ k
    → entries ≡ with_entries before (flat_map f (take k (imported unit cmis))) → entries ≡ with_entries before (flat_map f (imported unit cmis))
whole f before entries unit cmis k le e = e ∙ ap (λ xs. with_entries before (flat_map f xs)) (all_imported unit cmis k le)

-- no import is left
pub none_left : {X Y : Type 0} (xs : List X) (ys : List Y) (k : ℕ) → length xs ≤ k → drop k (zip xs ys) ≡ []
none_left [] ys zero le = refl
none_left [] ys (suc k) le = refl
none_left (x ∷ xs) [] zero le = refl
none_left (x ∷ xs) [] (suc k) le = refl
none_left (x ∷ xs) (y ∷ ys) zero le = absurd (omega arith)
none_left (x ∷ xs) (y ∷ ys) (suc k) le = none_left xs ys k (omega arith)
