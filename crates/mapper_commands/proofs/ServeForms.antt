-- Which words have the form that `serve` asks for.
use Rattle.std.proofs.Common.{◌≡◌, ℕ, ◌<◌, ◌^◌, List, [], ◌∷◌, length, map, get_or, refl, sym, ap, subst, ◌∙◌, arith}
use Rattle.std.specs.Prelude.{codes}
use Rattle.std.proofs.lemmas.Fmt.{decimal_injective}
use Rattle.mapper_commands.specs.Addresses.{IsAddress}
use Rattle.mapper_commands.specs.Askings.{IsNumberWithin}
use Rattle.mapper_commands.specs.Commands.{ServeWords, AsksToServe}

-- five items
pub five_items : {X Y : Type 0} (f : X → Y) (xs : List X) (x y z u v : X) → length xs ≡ 5 → x ≡ get_or xs 0 x → y ≡ get_or xs 1 y → z ≡ get_or xs 2 z → u ≡ get_or xs 3 u → v ≡ get_or xs 4 v → map f xs ≡ f x ∷ f y ∷ f z ∷ f u ∷ f v ∷ []
five_items f [] x y z u v five a b c d e = absurd (omega (arith, five))
five_items f (p ∷ []) x y z u v five a b c d e = absurd (omega (arith, five))
five_items f (p ∷ q ∷ []) x y z u v five a b c d e = absurd (omega (arith, five))
five_items f (p ∷ q ∷ r ∷ []) x y z u v five a b c d e = absurd (omega (arith, five))
five_items f (p ∷ q ∷ r ∷ s ∷ []) x y z u v five a b c d e = absurd (omega (arith, five))
five_items f (p ∷ q ∷ r ∷ s ∷ t ∷ []) x y z u v five a b c d e =
    ap (λ w. f w ∷ f q ∷ f r ∷ f s ∷ f t ∷ []) (sym a) ∙ ap (λ w. f x ∷ f w ∷ f r ∷ f s ∷ f t ∷ []) (sym b) ∙ ap (λ w. f x ∷ f y ∷ f w ∷ f s ∷ f t ∷ []) (sym c)
    ∙ ap (λ w. f x ∷ f y ∷ f z ∷ f w ∷ f t ∷ []) (sym d) ∙ ap (λ w. f x ∷ f y ∷ f z ∷ f u ∷ f w ∷ []) (sym e)
five_items f (p ∷ q ∷ r ∷ s ∷ t ∷ w ∷ xs) x y z u v five a b c d e = absurd (omega (arith, five))

-- a word spells one number, whatever the bounds
spells_one : (low high least most : ℕ) (word again : List ℕ) (number other : ℕ) → high < 2 ^ 32 → most < 2 ^ 32 → word ≡ again → IsNumberWithin low high word number → IsNumberWithin least most again other → number ≡ other
spells_one low high least most word again number other few little same a b = decimal_injective number other (omega (arith, few, a.at_most)) (omega (arith, little, b.at_most)) (sym a.decimal_is ∙ same ∙ b.decimal_is)

words_same : (s p q a b w v l m e f : List ℕ) → s ∷ p ∷ a ∷ w ∷ l ∷ e ∷ [] ≡ s ∷ q ∷ b ∷ v ∷ m ∷ f ∷ [] → (p ≡ q) × (a ≡ b) × (w ≡ v) × (l ≡ m) × (e ≡ f)
words_same s p q a b w v l m e f h = (cc, cc, cc, cc, cc)

abbrev made : List ℕ → List ℕ → ℕ → ℕ → ℕ → ServeWords
made project address workers links entries = record { project = project; address = address; workers = workers; links = links; entries = entries }

-- words ask for one thing at most
pub one_serve : (words : List (List ℕ)) (serve other : ServeWords) → AsksToServe words serve → AsksToServe words other → serve ≡ other
one_serve words serve other a b =
    let same = words_same (codes "serve") serve.project other.project serve.address other.address a.workers_word b.workers_word a.links_word b.links_word a.entries_word b.entries_word (sym a.words_are ∙ b.words_are) in
    let workers : serve.workers ≡ other.workers = spells_one 1 64 1 64 a.workers_word b.workers_word serve.workers other.workers (omega arith) (omega arith) same.2 a.workers_are b.workers_are in
    let links : serve.links ≡ other.links = spells_one 1 65536 1 65536 a.links_word b.links_word serve.links other.links (omega arith) (omega arith) same.3 a.links_are b.links_are in
    let entries : serve.entries ≡ other.entries = spells_one serve.workers 1048576 other.workers 1048576 a.entries_word b.entries_word serve.entries other.entries (omega arith) (omega arith) same.4 a.entries_are b.entries_are in
    ap (λ p. made p serve.address serve.workers serve.links serve.entries) same.0
    ∙ ap (λ p. made other.project p serve.workers serve.links serve.entries) same.1
    ∙ ap (λ n. made other.project other.address n serve.links serve.entries) workers
    ∙ ap (λ n. made other.project other.address other.workers n serve.entries) links
    ∙ ap (λ n. made other.project other.address other.workers other.links n) entries

-- ---- five words behind `serve`

module _ (project address workers_word links_word entries_word : List ℕ) (serve : ServeWords) (asks : AsksToServe (codes "serve" ∷ project ∷ address ∷ workers_word ∷ links_word ∷ entries_word ∷ []) serve) where
  same : (project ≡ serve.project) × (address ≡ serve.address) × (workers_word ≡ asks.workers_word) × (links_word ≡ asks.links_word) × (entries_word ≡ asks.entries_word)
  same = words_same (codes "serve") project serve.project address serve.address workers_word asks.workers_word links_word asks.links_word entries_word asks.entries_word asks.words_are

  -- the second of them is an address
  pub of_address : IsAddress address
  of_address = subst IsAddress (sym same.1) asks.address_is

  -- the others are numbers within their bounds
  pub of_workers : IsNumberWithin 1 64 workers_word serve.workers
  of_workers = subst (λ word. IsNumberWithin 1 64 word serve.workers) (sym same.2) asks.workers_are

  pub of_links : IsNumberWithin 1 65536 links_word serve.links
  of_links = subst (λ word. IsNumberWithin 1 65536 word serve.links) (sym same.3) asks.links_are

  pub of_entries : (workers : ℕ) → IsNumberWithin 1 64 workers_word workers → IsNumberWithin workers 1048576 entries_word serve.entries
  of_entries workers spelled =
      let equal : serve.workers ≡ workers = spells_one 1 64 1 64 workers_word workers_word serve.workers workers (omega arith) (omega arith) refl of_workers spelled in
      subst (λ word. IsNumberWithin workers 1048576 word serve.entries) (sym same.4) (subst (λ low. IsNumberWithin low 1048576 asks.entries_word serve.entries) equal asks.entries_are)

-- ---- words behind `serve`

-- words whose first is `serve` are that and the others
pub behind_serve : {X : Type 0} (bytes : X → List ℕ) (words rest : List X) (first : X) (more : List (List ℕ)) → words ≡ first ∷ rest → map bytes words ≡ codes "serve" ∷ more → map bytes words ≡ codes "serve" ∷ map bytes rest
behind_serve bytes words rest first more split begins =
    let whole : map bytes words ≡ bytes first ∷ map bytes rest = ap (map bytes) split in
    whole ∙ ap (λ word. word ∷ map bytes rest) (heads (bytes first) (codes "serve") (map bytes rest) more (sym whole ∙ begins))
  where
    heads : (x y : List ℕ) (xs ys : List (List ℕ)) → x ∷ xs ≡ y ∷ ys → x ≡ y
    heads x y xs ys e = cc
