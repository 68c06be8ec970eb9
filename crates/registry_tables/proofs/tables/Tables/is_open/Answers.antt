use Rattle.std.proofs.Common.{◌≡◌, ◌∙◌, ◌==◌, ℕ, true, List, reverse, refl, sym, ap, subst, eqb-true, eq-eqb}
use Rattle.std.proofs.lemmas.List.{reverse-reverse}
use Rattle.std.specs.List.{list_any}
use Rattle.histories.specs.declared.answered.Answered.{Answered}
use Rattle.histories.specs.Answered.{is_open, open_connections}
use Rattle.histories.proofs.Members.{In, any_to, any_from, In-reverse}
use Rattle.histories.proofs.Stalls.{in_open, open_in}
use Rattle.registry_tables.specs.Tabled.{Tabled}
use Rattle.registry_tables.proofs.Openings.{same_bool}
use Rattle.registry_tables.proofs.tables.Tables.is_open.Goals as goal

listed_is : (numbers : List ℕ) (answered : List Answered) (conn : ℕ) → reverse numbers ≡ open_connections answered → list_any (λ other. other == conn) numbers ≡ is_open answered conn
listed_is numbers answered conn is = same_bool (list_any (λ other. other == conn) numbers) (is_open answered conn)
    (λ h. (let found = any_to (λ other. other == conn) numbers h in
    subst (λ number. is_open answered number ≡ true) (eqb-true found.0 conn found.2) (open_in answered found.0 (subst (λ ns. In found.0 ns) is (In-reverse found.0 numbers found.1)))))
    (λ h. any_from (λ other. other == conn) conn (eq-eqb conn conn refl) numbers (subst (λ ns. In conn ns) (reverse-reverse numbers) (In-reverse conn (reverse numbers) (subst (λ ns. In conn ns) (sym is) (in_open answered conn h)))))

pub returns : goal.returns
returns c = c.is_listed.ensures ∙ ap (list_any (λ other. other == c.args.conn)) c.deref.ensures.value ∙ listed_is c.self.inside.open.items (reverse c.self.inside.answered.items) c.args.conn c.self.invariant.open_is ∙ ap (λ (t : Tabled). is_open t.answered c.args.conn) c.self.view_is
