-- What follows from the answer that an act is given at once.
use Rattle.std.proofs.Common.{◌≡◌, ℕ, Bool, true, false, not, ◌==◌, List, Option, Some, None, is_none, refl, sym, ap, subst, arith, true≢false}
use Rattle.std.specs.Prelude.{if◌then◌else◌}
use Rattle.std.specs.Option.{option_map_or}
use Rattle.unit_registry.specs.declared.act.Act.{Act}
use Rattle.unit_registry.specs.declared.act.Act.TheVariants.{Hello, Repo, Export, Import, Compiled, Translate}
use Rattle.mapper_replies.specs.declared.refusal.Refusal.TheVariants.{NotConnected, AlreadyConnected, Version, UnitTaken, ImportCycle}
use Rattle.histories.specs.declared.answer.Answer.{Answer}
use Rattle.histories.specs.declared.answer.Answer.TheVariants.{Hello as Greeting, Repo as Repository, Bool as Truth}
use Rattle.histories.specs.declared.answer.Said.{Said}
use Rattle.histories.specs.declared.answer.Said.TheVariants.{Reply, Waits}
use Rattle.histories.specs.declared.standing.Fate.{Fate}
use Rattle.histories.specs.declared.standing.Fate.TheVariants.{Compiled as HasCompiled, Failed as HasFailed}
use Rattle.unit_registry.specs.Acts.{hello_of}
use Rattle.unit_registry.specs.Projects.{ProjectView}
use Rattle.histories.specs.Answered.{is_accepted}
use Rattle.histories.specs.Noted.{Noted, answered_of, fate}
use Rattle.histories.specs.declared.answered.Answered.{Answered}
use Rattle.histories.specs.Answers.{at_once, to_hello, to_export, to_compiled, to_import, by_fate, refused, is_connected, is_taken, closes_cycle}

-- a Hello that is accepted: the connection was none yet, and its unit could be taken
accepted_rows : (connected wrong taken : Bool) → is_accepted (if connected then refused AlreadyConnected else (if wrong then refused Version else (if taken then refused UnitTaken else Reply Greeting))) ≡ true → (connected ≡ false) × (taken ≡ false)
accepted_rows true wrong taken h = absurd (true≢false (sym h))
accepted_rows false true taken h = absurd (true≢false (sym h))
accepted_rows false false true h = absurd (true≢false (sym h))
accepted_rows false false false h = (refl, refl)

-- the unit of an accepted Hello, by its two parts
hello_parts : (accepted : Bool) (hello : Option (Option ℕ)) (named : Option ℕ) → (if accepted then hello else None) ≡ Some named → (accepted ≡ true) × (hello ≡ Some named)
hello_parts true hello named h = (refl, h)
hello_parts false hello named h = cc

pub greeted : (project : ProjectView) (noted : List Noted) (conn : ℕ) (act : Act) (named : Option ℕ) → (if is_accepted (at_once project noted conn act) then hello_of act else None) ≡ Some named → (is_connected (answered_of noted) conn ≡ false) × (option_map_or (is_taken project noted) named false ≡ false)
greeted project noted conn (Hello version unit) named h =
    let parts = hello_parts (is_accepted (to_hello project noted conn version unit)) (Some unit) named h in
    let rows = accepted_rows (is_connected (answered_of noted) conn) (not (version == 1)) (option_map_or (is_taken project noted) unit false) parts.0 in
    let same : unit ≡ named = cc in
    (rows.0, subst (λ n. option_map_or (is_taken project noted) n false ≡ false) same rows.1)
greeted project noted conn act named h =
    let parts = hello_parts (is_accepted (at_once project noted conn act)) None named h in
    absurd (cc)

-- an act that is told to wait
pub record IsToldToWait (project : ProjectView) (noted : List Noted) (conn : ℕ) (act : Act) (unit : ℕ) : Type 0 where
  pub is_import : act ≡ Import (Some unit) false
  pub connected : is_connected (answered_of noted) conn ≡ true
  pub no_circle : closes_cycle project noted conn unit ≡ false
  pub not_ended : is_none (fate project noted unit) ≡ true

waiting_row : (project : ProjectView) (noted : List Noted) (conn named unit : ℕ) (fate_now : Option Fate) (circle : Bool) → fate project noted named ≡ fate_now → closes_cycle project noted conn named ≡ circle → is_connected (answered_of noted) conn ≡ true → by_fate fate_now named (if circle then refused ImportCycle else Waits named) ≡ Waits unit → IsToldToWait project noted conn (Import (Some named) false) unit
waiting_row project noted conn named unit (Some HasCompiled) circle f c connected h = absurd (cc)
waiting_row project noted conn named unit (Some HasFailed) circle f c connected h = absurd (cc)
waiting_row project noted conn named unit None true f c connected h = absurd (cc)
waiting_row project noted conn named unit None false f c connected h =
    let same : named ≡ unit = cc in
    record {
      is_import = ap (λ u. Import (Some u) false) same;
      connected = connected;
      no_circle = subst (λ u. closes_cycle project noted conn u ≡ false) same c;
      not_ended = subst (λ u. is_none (fate project noted u) ≡ true) same (ap (λ o. is_none o) f);
    }

not_connected : (said : Said) (unit : ℕ) (connected : Bool) → (if connected then said else refused NotConnected) ≡ Waits unit → (connected ≡ true) × (said ≡ Waits unit)
not_connected said unit true h = (refl, h)
not_connected said unit false h = absurd (cc)

told_import : (project : ProjectView) (noted : List Noted) (conn : ℕ) (named : Option ℕ) (name_only : Bool) (unit : ℕ) → is_connected (answered_of noted) conn ≡ true → to_import project noted conn named name_only ≡ Waits unit → IsToldToWait project noted conn (Import named name_only) unit
told_import project noted conn None name_only unit connected h = absurd (cc)
told_import project noted conn (Some named) true unit connected h = absurd (cc)
told_import project noted conn (Some named) false unit connected h =
    waiting_row project noted conn named unit (fate project noted named) (closes_cycle project noted conn named) refl refl connected h

-- no other act is told to wait
hello_waits : (a b c : Bool) (unit : ℕ) → (if a then refused AlreadyConnected else (if b then refused Version else (if c then refused UnitTaken else Reply Greeting))) ≡ Waits unit → ⊥
hello_waits true b c unit h = cc
hello_waits false true c unit h = cc
hello_waits false false true unit h = cc
hello_waits false false false unit h = cc

reply_waits : (b : Bool) (answer : Answer) (unit : ℕ) → (if b then Reply answer else refused NotConnected) ≡ Waits unit → ⊥
reply_waits true answer unit h = cc
reply_waits false answer unit h = cc

export_waits : (b : Bool) (answered : List Answered) (conn : ℕ) (named : Option ℕ) (unit : ℕ) → (if b then to_export answered conn named else refused NotConnected) ≡ Waits unit → ⊥
export_waits false answered conn named unit h = cc
export_waits true answered conn None unit h = cc
export_waits true answered conn (Some named) unit h = grind arith

compiled_waits : (b : Bool) (answered : List Answered) (conn : ℕ) (named : Option ℕ) (unit : ℕ) → (if b then to_compiled answered conn named else refused NotConnected) ≡ Waits unit → ⊥
compiled_waits false answered conn named unit h = cc
compiled_waits true answered conn None unit h = cc
compiled_waits true answered conn (Some named) unit h = grind arith

pub waits_by_import : (project : ProjectView) (noted : List Noted) (conn : ℕ) (act : Act) (unit : ℕ) → at_once project noted conn act ≡ Waits unit → IsToldToWait project noted conn act unit
waits_by_import project noted conn (Import named name_only) unit h =
    let parts = not_connected (to_import project noted conn named name_only) unit (is_connected (answered_of noted) conn) h in
    told_import project noted conn named name_only unit parts.0 parts.1
waits_by_import project noted conn (Hello version named) unit h =
    absurd (hello_waits (is_connected (answered_of noted) conn) (not (version == 1)) (option_map_or (is_taken project noted) named false) unit h)
waits_by_import project noted conn Repo unit h = absurd (reply_waits (is_connected (answered_of noted) conn) Repository unit h)
waits_by_import project noted conn (Translate header) unit h =
    absurd (reply_waits (is_connected (answered_of noted) conn) (Truth header) unit h)
waits_by_import project noted conn (Export named) unit h =
    absurd (export_waits (is_connected (answered_of noted) conn) (answered_of noted) conn named unit h)
waits_by_import project noted conn (Compiled named stored) unit h =
    absurd (compiled_waits (is_connected (answered_of noted) conn) (answered_of noted) conn named unit h)
waits_by_import project noted conn act unit h = absurd (cc)
