-- How many sources are generated.
use Rattle.std.proofs.Common.{◌≡◌, ℕ, zero, suc, [], ◌∷◌, length, ap, ◌∙◌, refl, length-append, add-one}
use Rattle.export_lists.specs.Generated.{sources_of, source_of, links_from, state_before}

pub sources_count : (seed units : ℕ) → length (sources_of seed units) ≡ units
sources_count seed zero = refl
sources_count seed (suc number) =
    length-append (sources_of seed number) (source_of number (links_from number (state_before seed number)).links ∷ [])
    ∙ add-one (length (sources_of seed number)) ∙ ap suc (sources_count seed number)
