-- A block, line by line.
use Rattle.std.proofs.Common.{◌≡◌, ℕ, suc, zero, ◌+◌, ltb, List, [], ◌∷◌, ◌++◌, length, drop, Some, refl, sym, ap, ◌∙◌, append_assoc, arith}
use Rattle.std.specs.Prelude.{slice_get}
use Rattle.cody_words.specs.Canonical.{canonical_line}
use Rattle.mapper_requests.specs.Asked.{Asked}
use Rattle.mapper_requests.specs.Writing.{request_words}
use Rattle.client_core.specs.Scripts.{block_text}
use Rattle.client_core.proofs.Tellings.{is_more, none_some, some_same}
use Rattle.client_core.proofs.Taking.{is_more_by}

drop_at : (rs : List Asked) (k : ℕ) (r : Asked) → slice_get rs k ≡ Some r → drop k rs ≡ r ∷ drop (suc k) rs
drop_at [] k r at = absurd (none_some r at)
drop_at (q ∷ rs) zero r at = ap (λ x. x ∷ rs) (some_same q r at)
drop_at (q ∷ rs) (suc k) r at = drop_at rs k r at

pub block_step : (rs : List Asked) (k count : ℕ) (r : Asked) (out new whole : List ℕ) → slice_get rs k ≡ Some r → count ≡ length rs
    → new ≡ out ++ canonical_line (request_words r) (ltb (k + 1) count) → out ++ block_text (drop k rs) ≡ whole → new ++ block_text (drop (k + 1) rs) ≡ whole
block_step rs k count r out new whole at count_is wrote before =
    let line = canonical_line (request_words r) in
    let more : ltb (k + 1) count ≡ is_more rs k = ap (ltb (k + 1)) count_is ∙ is_more_by rs k (ltb (k + 1) (length rs)) refl in
    let next : k + 1 ≡ suc k = omega arith in
    ap (λ n. new ++ block_text (drop n rs)) next ∙ ap (λ o. o ++ block_text (drop (suc k) rs)) (wrote ∙ ap (λ b. out ++ line b) more)
    ∙ append_assoc out (line (is_more rs k)) (block_text (drop (suc k) rs)) ∙ ap (λ rest. out ++ block_text rest) (sym (drop_at rs k r at)) ∙ before
