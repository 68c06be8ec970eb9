-- How the CMI path of a path goes on from component to component.
use Rattle.std.proofs.Common.{◌≡◌, ℕ, ◌+◌, ◌*◌, ◌<◌, ◌≤◌, suc, Bool, true, false, cond, eqb, List, [], ◌∷◌, ◌++◌, length, map, get_or, refl, sym, ap, subst, ◌∙◌, append_assoc, arith}
use Rattle.std.specs.List.{position_or_len, before_first, after_first, slice_split, onto_first, join_with_byte}
use Rattle.std.proofs.lemmas.List.{length-append}
use Rattle.std.proofs.lemmas.List.Splits.{slice_split_none, slice_split_first}
use Rattle.std.proofs.lemmas.List.Sums.{split_at_first, fails_before_first}
use Rattle.cody_words.specs.Buffers.{Buffer, Appends}
use Rattle.cody_words.proofs.Written.{Appends-then}
use Rattle.header_units.specs.CmiNames.{cmi_component, cmi_path}

-- there is a first part
pub record HasFirst (parts : List (List ℕ)) : Type 0 where
  pub first : List ℕ
  pub others : List (List ℕ)
  pub whole : parts ≡ first ∷ others

-- one octet more in front of the first part
first_onto : (x : ℕ) (parts : List (List ℕ)) → HasFirst parts → HasFirst (onto_first x parts)
first_onto x [] h = record { first = x ∷ []; others = []; whole = refl }
first_onto x (part ∷ parts) h = record { first = x ∷ part; others = parts; whole = refl }

-- a cut, or one octet more in front of the first part
first_cond : (b : Bool) (x : ℕ) (parts : List (List ℕ)) → HasFirst parts → HasFirst (cond b ([] ∷ parts) (onto_first x parts))
first_cond true x parts h = record { first = []; others = parts; whole = refl }
first_cond false x parts h = first_onto x parts h

-- a list that is cut has a first part
pub split_first : (p : ℕ → Bool) (xs : List ℕ) → HasFirst (slice_split p xs)
split_first p [] = record { first = []; others = []; whole = refl }
split_first p (x ∷ xs) = first_cond (p x) x (slice_split p xs) (split_first p xs)

-- parts joined, one more in front
pub join-cons : (c : ℕ) (part : List ℕ) (f : List ℕ → List ℕ) (parts : List (List ℕ)) → HasFirst parts → join_with_byte c (part ∷ map f parts) ≡ part ++ c ∷ join_with_byte c (map f parts)
join-cons c part f [] h = absurd (let w = h.whole in cc)
join-cons c part f (x ∷ parts) h = refl

-- the first component, a slash, and the path behind it
pub cmi_path-first : (path : List ℕ) → position_or_len (λ c. eqb c 47) path < length path
    → cmi_path path ≡ cmi_component (before_first (λ c. eqb c 47) path) ++ 47 ∷ cmi_path (after_first (λ c. eqb c 47) path)
cmi_path-first path lt =
    ap (λ (parts : List (List ℕ)). join_with_byte 47 (map cmi_component parts)) (slice_split_first (λ c. eqb c 47) path 0 lt)
    ∙ join-cons 47 (cmi_component (before_first (λ c. eqb c 47) path)) cmi_component (slice_split (λ c. eqb c 47) (after_first (λ c. eqb c 47) path)) (split_first (λ c. eqb c 47) (after_first (λ c. eqb c 47) path))

-- a path of one component
pub cmi_path-one : (path : List ℕ) → length path ≤ position_or_len (λ c. eqb c 47) path → cmi_path path ≡ cmi_component path
cmi_path-one path le =
    ap (λ (parts : List (List ℕ)). join_with_byte 47 (map cmi_component parts)) (slice_split_none (λ c. eqb c 47) path (λ k d lt. fails_before_first (λ c. eqb c 47) path k d (omega arith)))

-- the path is written as far as this rest of it, and has used no more room than it is given
pub record IsWrittenTo (path rest : List ℕ) (old new : Buffer) : Type 0 where
  pub done : List ℕ
  pub appends : Appends old new done
  pub goes_on : done ++ cmi_path rest ≡ cmi_path path
  pub room : old.spare + 4 * length rest ≤ new.spare + 4 * length path

-- the component and the slash that `rest` begins with are written too
pub written_more : (path rest part behind : List ℕ) (old now more new : Buffer)
    → position_or_len (λ c. eqb c 47) rest < length rest
    → part ≡ before_first (λ c. eqb c 47) rest → behind ≡ after_first (λ c. eqb c 47) rest
    → IsWrittenTo path rest old now → Appends now more (cmi_component part)
    → now.spare ≤ more.spare + (length part + 3) → Appends more new (47 ∷ [])
    → IsWrittenTo path behind old new
written_more path rest part behind old now more new lt front back h one used slash =
    let whole : rest ≡ part ++ (get_or rest (position_or_len (λ c. eqb c 47) rest) 0 ∷ behind) =
    rw (front, back) (split_at_first (λ c. eqb c 47) rest 0 lt) in
    let long : length rest ≡ length part + suc (length behind) = ap length whole ∙ length-append part (get_or rest (position_or_len (λ c. eqb c 47) rest) 0 ∷ behind) in
    let first : cmi_path rest ≡ cmi_component part ++ 47 ∷ cmi_path behind = rw (front, back) (cmi_path-first rest lt) in
    record {
      done = (h.done ++ cmi_component part) ++ 47 ∷ [];
      appends = Appends-then _ _ _ _ _ (Appends-then _ _ _ _ _ h.appends one) slash;
      goes_on = append_assoc (h.done ++ cmi_component part) (47 ∷ []) (cmi_path behind) ∙ append_assoc h.done (cmi_component part) (47 ∷ cmi_path behind) ∙ ap (λ (t : List ℕ). h.done ++ t) (sym first) ∙ h.goes_on;
      room = omega (arith, h.room, slash.spare);
    }

-- the last component is written too
pub written_last : (path rest : List ℕ) (old now new : Buffer)
    → length rest ≤ position_or_len (λ c. eqb c 47) rest
    → IsWrittenTo path rest old now → Appends now new (cmi_component rest)
    → Appends old new (cmi_path path)
written_last path rest old now new le h one =
    subst (λ (t : List ℕ). Appends old new t) (ap (λ (t : List ℕ). h.done ++ t) (sym (cmi_path-one rest le)) ∙ h.goes_on) (Appends-then _ _ _ _ _ h.appends one)
