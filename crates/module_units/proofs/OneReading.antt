-- A text has one reading.
use Rattle.std.proofs.Common.{◌≡◌, ℕ, List, [], ◌∷◌, sym, ap, ◌∙◌, refl, subst, inl, inr}
use Rattle.module_units.specs.Grammar.{UnitTree, unit_tree, IsSyntaxFault}
use Rattle.module_units.specs.Unit.{UnitOf, unit_of}
use Rattle.module_units.specs.Rules.{Fault, faults_of}
use Rattle.module_units.specs.Reading.{seen_all, token_line, SourceReading, Good, Bad, ReadsUnit, HasSyntaxFault, BreaksRule, Reads}
use Rattle.module_units.proofs.Readings.{IsUnit, one_unit, one_syntax_fault, unit_no_fault}
use Rattle.module_units.proofs.UnitFaults.{one_faults}
use Rattle.module_lexer.specs.declared.token.Token.{Token}
use Rattle.module_lexer.specs.declared.reason.SourceReason.{SourceReason}
use Rattle.module_lexer.specs.Tokens.{HasTokens}
use Rattle.module_lexer.proofs.OneCut.{one_tokens, no_fault, one_fault}

-- the unit of a tree whose tokens are the text's
unit_seen : (text : List ℕ) (tokens others : List Token) (tree : UnitTree) (u : UnitOf) → HasTokens text tokens → HasTokens text others → unit_tree tree ≡ seen_all text tokens → unit_of tree ≡ u → IsUnit (seen_all text others) u
unit_seen text tokens others tree u cut other generated is = record { tree = tree; tokens_are = generated ∙ ap (seen_all text) (one_tokens text tokens others cut other); unit_is = is }

-- two trees of one text
same_trees : (text : List ℕ) (a b : List Token) (t u : UnitTree) → HasTokens text a → HasTokens text b → unit_tree t ≡ seen_all text a → unit_tree u ≡ seen_all text b → faults_of t ≡ faults_of u
same_trees text a b t u x y p q = one_faults t u (p ∙ ap (seen_all text) (one_tokens text a b x y) ∙ sym q)

good_good : (text : List ℕ) (u v : UnitOf) → ReadsUnit text u → ReadsUnit text v → u ≡ v
good_good text u v a b =
    one_unit (seen_all text b.tokens) u v (unit_seen text a.tokens b.tokens a.tree u a.cut b.cut a.generated a.unit_is) (unit_seen text b.tokens b.tokens b.tree v b.cut b.cut b.generated b.unit_is)

good_syntax : (text : List ℕ) (u : UnitOf) (l : ℕ) (r : SourceReason) → ReadsUnit text u → HasSyntaxFault text l r → ⊥
good_syntax text u l r a b = unit_no_fault (seen_all text b.tokens) u b.place (unit_seen text a.tokens b.tokens a.tree u a.cut b.cut a.generated a.unit_is) b.at

good_rule : (text : List ℕ) (u : UnitOf) (l : ℕ) (r : SourceReason) → ReadsUnit text u → BreaksRule text l r → ⊥
good_rule text u l r a b =
    let e : [] ≡ record { line = l; reason = r } ∷ b.others = sym a.lawful ∙ same_trees text a.tokens b.tokens a.tree b.tree a.cut b.cut a.generated b.generated ∙ b.first in
    cc e

syntax_syntax : (text : List ℕ) (k l : ℕ) (r s : SourceReason) → HasSyntaxFault text k r → HasSyntaxFault text l s → (k ≡ l) × (r ≡ s)
syntax_syntax text k l r s a b =
    let same : a.tokens ≡ b.tokens = one_tokens text a.tokens b.tokens a.cut b.cut in
    let here : IsSyntaxFault (seen_all text b.tokens) a.place = subst (λ t. IsSyntaxFault (seen_all text t) a.place) same a.at in
    let place : a.place ≡ b.place = one_syntax_fault (seen_all text b.tokens) a.place b.place here b.at in
    (a.line_is ∙ (λ i. token_line text (same i) (place i)) ∙ sym b.line_is, a.reason_is ∙ sym b.reason_is)

syntax_rule : (text : List ℕ) (k l : ℕ) (r s : SourceReason) → HasSyntaxFault text k r → BreaksRule text l s → ⊥
syntax_rule text k l r s a b = unit_no_fault (seen_all text a.tokens) (unit_of b.tree) a.place (unit_seen text b.tokens a.tokens b.tree (unit_of b.tree) b.cut a.cut b.generated refl) a.at

abbrev first_line : List Fault → ℕ
first_line [] = 0
first_line (f ∷ fs) = f.line

abbrev first_reason : SourceReason → List Fault → SourceReason
first_reason r [] = r
first_reason r (f ∷ fs) = f.reason

rule_rule : (text : List ℕ) (k l : ℕ) (r s : SourceReason) → BreaksRule text k r → BreaksRule text l s → (k ≡ l) × (r ≡ s)
rule_rule text k l r s a b =
    let e : record { line = k; reason = r } ∷ a.others ≡ record { line = l; reason = s } ∷ b.others = sym a.first ∙ same_trees text a.tokens b.tokens a.tree b.tree a.cut b.cut a.generated b.generated ∙ b.first in
    (ap first_line e, ap (first_reason r) e)

bad : (k l : ℕ) (r s : SourceReason) → (k ≡ l) × (r ≡ s) → Bad k r ≡ Bad l s
bad k l r s p = λ i. Bad (p.0 i) (p.1 i)

pub one_reading : (text : List ℕ) (x y : SourceReading) → Reads text x → Reads text y → x ≡ y
one_reading text (Good u) (Good v) a b = ap Good (good_good text u v a b)
one_reading text (Good u) (Bad l s) a (inl lex) = absurd (no_fault text a.tokens l s a.cut lex)
one_reading text (Good u) (Bad l s) a (inr (inl syntax')) = absurd (good_syntax text u l s a syntax')
one_reading text (Good u) (Bad l s) a (inr (inr rule)) = absurd (good_rule text u l s a rule)
one_reading text (Bad k r) (Good v) (inl lex) b = absurd (no_fault text b.tokens k r b.cut lex)
one_reading text (Bad k r) (Good v) (inr (inl syntax')) b = absurd (good_syntax text v k r b syntax')
one_reading text (Bad k r) (Good v) (inr (inr rule)) b = absurd (good_rule text v k r b rule)
one_reading text (Bad k r) (Bad l s) (inl a) (inl b) = bad k l r s (one_fault text k l r s a b)
one_reading text (Bad k r) (Bad l s) (inl a) (inr (inl b)) = absurd (no_fault text b.tokens k r b.cut a)
one_reading text (Bad k r) (Bad l s) (inl a) (inr (inr b)) = absurd (no_fault text b.tokens k r b.cut a)
one_reading text (Bad k r) (Bad l s) (inr (inl a)) (inl b) = absurd (no_fault text a.tokens l s a.cut b)
one_reading text (Bad k r) (Bad l s) (inr (inl a)) (inr (inl b)) = bad k l r s (syntax_syntax text k l r s a b)
one_reading text (Bad k r) (Bad l s) (inr (inl a)) (inr (inr b)) = absurd (syntax_rule text k l r s a b)
one_reading text (Bad k r) (Bad l s) (inr (inr a)) (inl b) = absurd (no_fault text a.tokens l s a.cut b)
one_reading text (Bad k r) (Bad l s) (inr (inr a)) (inr (inl b)) = absurd (syntax_rule text l k s r b a)
one_reading text (Bad k r) (Bad l s) (inr (inr a)) (inr (inr b)) = bad k l r s (rule_rule text k l r s a b)
