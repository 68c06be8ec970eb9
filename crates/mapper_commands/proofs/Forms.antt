-- Which words have a form of a command.
use Rattle.std.proofs.Common.{◌≡◌, ℕ, ◌<◌, ◌^◌, List, [], ◌∷◌, length, map, get_or, Some, refl, sym, ap, subst, ◌∙◌, arith}
use Rattle.std.specs.Prelude.{find}
use Rattle.std.specs.Str.{bytes_eq}
use Rattle.std.proofs.lemmas.Fmt.{decimal_injective}
use Rattle.mapper_commands.specs.declared.verb.Verb.{Verb}
use Rattle.mapper_commands.specs.declared.verb.Verb.TheVariants as verb
use Rattle.mapper_commands.specs.declared.verb.TheConstants.{VERBS}
use Rattle.mapper_commands.specs.Askings.{IsNumberWithin, greatest_seed, most_units}
use Rattle.mapper_commands.specs.Commands.{Task, Check, Replay, ListUnits, Generate, AsksAs, AsksFor, AsksOfTrace, AsksPipe, AsksToGenerate, AsksToList, usual, counted, verb_text}

-- one item
pub one_item : {X Y : Type 0} (f : X → Y) (xs : List X) (x : X) → length xs ≡ 1 → x ≡ get_or xs 0 x → map f xs ≡ f x ∷ []
one_item f [] x one e = absurd (omega (arith, one))
one_item f (y ∷ []) x one e = ap (λ z. f z ∷ []) (sym e)
one_item f (y ∷ z ∷ xs) x one e = absurd (omega (arith, one))

-- ---- verbs

-- the verb that a verb's word is
itself : (v : Verb) → find (λ x. bytes_eq (verb_text v) (verb_text x)) VERBS ≡ Some v
itself verb.Pipe = refl
itself verb.Check = refl
itself verb.Replay = refl
itself verb.List = refl
itself verb.Gen = refl

-- words of a verb are of no other
pub same_verb : (v w : Verb) (rest more : List (List ℕ)) → verb_text v ∷ rest ≡ verb_text w ∷ more → (v ≡ w) × (rest ≡ more)
same_verb v w rest more e = (inside v w (sym (itself v) ∙ ap (λ (word : List ℕ). find (λ x. bytes_eq word (verb_text x)) VERBS) (heads (verb_text v) (verb_text w) e) ∙ itself w), cc)
  where
    heads : (x y : List ℕ) → x ∷ rest ≡ y ∷ more → x ≡ y
    heads x y h = cc

    inside : (a b : Verb) → Some a ≡ Some b → a ≡ b
    inside a b h = cc

-- ---- what words ask for

one_and_two : (x y z : List ℕ) → x ∷ [] ≡ y ∷ z ∷ [] → ⊥
one_and_two x y z e = omega (arith, ap length e)

one_of_pipe : (words : List (List ℕ)) (task other : Task) → AsksPipe words task → AsksPipe words other → task ≡ other
one_of_pipe words task other (usual project are is) (usual name also so) = cc
one_of_pipe words task other (usual project are is) (counted name word entries also spelled so) = absurd (one_and_two project name word (sym are ∙ also))
one_of_pipe words task other (counted name word entries are spelled is) (usual project also so) = absurd (one_and_two project name word (sym also ∙ are))
one_of_pipe words task other (counted project word entries are spelled is) (counted name again number also spelled_so so) =
    let same : word ≡ again = cc in
    let counts : entries ≡ number = decimal_injective entries number (omega (arith, spelled.at_most)) (omega (arith, spelled_so.at_most)) (sym spelled.decimal_is ∙ same ∙ spelled_so.decimal_is) in
    cc

one_of_trace : (asks : List ℕ → List ℕ → Task) (words : List (List ℕ)) (task other : Task) → AsksOfTrace asks words task → AsksOfTrace asks words other → task ≡ other
one_of_trace asks words task other a b = a.task_is ∙ by a.project b.project a.trace b.trace (sym a.words_are ∙ b.words_are) ∙ sym b.task_is
  where
    by : (p q t u : List ℕ) → p ∷ t ∷ [] ≡ q ∷ u ∷ [] → asks p t ≡ asks q u
    by p q t u e = cc

one_of_list : (words : List (List ℕ)) (task other : Task) → AsksToList words task → AsksToList words other → task ≡ other
one_of_list words task other a b = a.task_is ∙ by a.project b.project (sym a.words_are ∙ b.words_are) ∙ sym b.task_is
  where
    by : (p q : List ℕ) → p ∷ [] ≡ q ∷ [] → ListUnits p ≡ ListUnits q
    by p q e = cc

-- a word spells one number
spells_one : (low high : ℕ) (word again : List ℕ) (number other : ℕ) → high < 2 ^ 32 → word ≡ again → IsNumberWithin low high word number → IsNumberWithin low high again other → number ≡ other
spells_one low high word again number other few same a b = decimal_injective number other (omega (arith, few, a.at_most)) (omega (arith, few, b.at_most)) (sym a.decimal_is ∙ same ∙ b.decimal_is)

one_of_gen : (words : List (List ℕ)) (task other : Task) → AsksToGenerate words task → AsksToGenerate words other → task ≡ other
one_of_gen words task other a b =
    let same = words_same a.folder b.folder a.units_word b.units_word a.seed_word b.seed_word (sym a.words_are ∙ b.words_are) in
    let units : a.units ≡ b.units = spells_one 1 most_units a.units_word b.units_word a.units b.units (omega arith) same.1 a.units_are b.units_are in
    let seeds : a.seed ≡ b.seed = spells_one 0 greatest_seed a.seed_word b.seed_word a.seed b.seed (omega arith) same.2 a.seed_is b.seed_is in
    a.task_is ∙ by a.folder b.folder a.units b.units a.seed b.seed same.0 units seeds ∙ sym b.task_is
  where
    words_same : (f g u v s t : List ℕ) → f ∷ u ∷ s ∷ [] ≡ g ∷ v ∷ t ∷ [] → (f ≡ g) × (u ≡ v) × (s ≡ t)
    words_same f g u v s t e = (cc, cc, cc)

    by : (f g : List ℕ) (m n s t : ℕ) → f ≡ g → m ≡ n → s ≡ t → Generate f m s ≡ Generate g n t
    by f g m n s t folders units seeds = cc

one_behind : (v : Verb) (words : List (List ℕ)) (task other : Task) → AsksAs v words task → AsksAs v words other → task ≡ other
one_behind verb.Pipe words task other a b = one_of_pipe words task other a b
one_behind verb.Check words task other a b = one_of_trace Check words task other a b
one_behind verb.Replay words task other a b = one_of_trace Replay words task other a b
one_behind verb.List words task other a b = one_of_list words task other a b
one_behind verb.Gen words task other a b = one_of_gen words task other a b

-- words ask for one thing at most
pub one_task : (words : List (List ℕ)) (task other : Task) → AsksFor words task → AsksFor words other → task ≡ other
one_task words task other asks also =
    let same = same_verb asks.first also.first asks.rest also.rest (sym asks.words_are ∙ also.words_are) in
    one_behind asks.first asks.rest task other asks.asked
    (subst (λ v. AsksAs v asks.rest other) (sym same.0) (subst (λ rest. AsksAs also.first rest other) (sym same.1) also.asked))
