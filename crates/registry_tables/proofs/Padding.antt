-- Rows that were written, and empty ones behind them.
use Rattle.std.proofs.Common.{◌≡◌, ℕ, ◌+◌, ◌-◌, ◌<◌, ◌≤◌, List, [], ◌∷◌, ◌++◌, length, get_or, set, replicate, sym, ap, ◌∙◌, append_assoc, arith, length-set}
use Rattle.std.proofs.lemmas.List.{length-append, length-replicate, length_push, get_or_append_left, set-append_left, replicate-append-replicate}
use Rattle.registry_tables.specs.declared.conn_rows.ConnRow.{ConnRow}
use Rattle.registry_tables.specs.Tabled.{empty_row, padded}

pub length-padded : (rows : List ConnRow) (room : ℕ) → length rows ≤ room → length (padded rows room) ≡ room
length-padded rows room few = omega (arith, length-append rows (replicate (room - length rows) empty_row), length-replicate (room - length rows) empty_row)

-- one more empty row is written
pub padded-push : (rows : List ConnRow) (room : ℕ) → length rows < room → padded (rows ++ empty_row ∷ []) room ≡ padded rows room
padded-push rows room lt =
    let one : length (rows ++ empty_row ∷ []) ≡ length rows + 1 = length_push rows empty_row in
    let fewer : 1 + (room - length (rows ++ empty_row ∷ [])) ≡ room - length rows = omega arith in
    append_assoc rows (empty_row ∷ []) (replicate (room - length (rows ++ empty_row ∷ [])) empty_row)
    ∙ ap (λ (rest : List ConnRow). rows ++ rest) (replicate-append-replicate 1 (room - length (rows ++ empty_row ∷ [])) empty_row)
    ∙ ap (λ (n : ℕ). rows ++ replicate n empty_row) fewer

pub padded-row : (rows : List ConnRow) (room conn : ℕ) → conn < length rows → get_or (padded rows room) conn empty_row ≡ get_or rows conn empty_row
padded-row rows room conn lt = get_or_append_left rows _ empty_row conn lt

pub padded-set : (rows : List ConnRow) (room conn : ℕ) (row : ConnRow) → conn < length rows → padded (set rows conn row) room ≡ set (padded rows room) conn row
padded-set rows room conn row lt =
    ap (λ (n : ℕ). set rows conn row ++ replicate (room - n) empty_row) (length-set rows conn row)
    ∙ sym (set-append_left rows (replicate (room - length rows) empty_row) conn row lt)
