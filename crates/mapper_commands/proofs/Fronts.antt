-- Files that are written one after another.
use Rattle.std.proofs.Common.{◌≡◌, ◌≢◌, ℕ, suc, ◌+◌, ◌<◌, ◌≤◌, ◌^◌, List, [], ◌∷◌, ◌++◌, length, take, drop, get_or, Option, Some, Result, Ok, Err, refl, sym, ap, subst, ◌∙◌, arith, codes, decimal, append_assoc}
use Rattle.std.specs.Prelude.{All, slice_get}
use Rattle.std.proofs.lemmas.Fmt.{decimal_injective}
use Rattle.std.proofs.lemmas.List.{append_cancel_left, append_cancel_right, length-append, length-take, take_at, drop_at, take-append-drop}
use Rattle.std.proofs.lemmas.List.Elements.{All-nil, All-cons, All-push, All-head, All-tail, All-take, All-drop}
use Rattle.std.proofs.Math.Seq.{take-append-add}
use Rattle.mm_outside.specs.Files.{Lookup, Stores}
use Rattle.mm_outside.specs.Told.{Told}
use Rattle.mm_outside.proofs.ToldLemmas.{Told-map, Told-same, Told-then}
use Rattle.export_lists.specs.Generated.{numbered, source_path}
use Rattle.export_lists.proofs.Loops.{taken}
use Rattle.export_lists.specs.declared.generated.Generated.{Generated}
use Rattle.mapper_commands.specs.Generating.{NamedText, HoldTexts, StopsWithin, WritesAll, project_name, source_files, files_of}

-- all items, cut at a place
whole : {X : Type 0} (xs : List X) (k : ℕ) (x : X) → slice_get xs k ≡ Some x → xs ≡ take k xs ++ x ∷ drop (k + 1) xs
whole xs k x e = sym (take-append-drop (k + 1) xs) ∙ ap (λ front. front ++ drop (k + 1) xs) (taken xs k x e) ∙ append_assoc (take k xs) (x ∷ []) (drop (k + 1) xs)

-- ---- names that differ

same_rest : (a b c d : ℕ) (xs ys : List ℕ) → a ∷ b ∷ xs ≡ c ∷ d ∷ ys → xs ≡ ys
same_rest a b c d xs ys e = cc

second : (a b c d : ℕ) (xs ys : List ℕ) → a ∷ b ∷ xs ≡ c ∷ d ∷ ys → b ≡ d
second a b c d xs ys e = cc

-- the project file is no source
pub not_a_source : (folder : List ℕ) (number : ℕ) → project_name folder ≢ source_path folder number
not_a_source folder number e =
    let rests = append_cancel_left folder (codes "/project") (numbered (codes "/u") number ++ codes ".cc") e in
    let differ : 112 ≡ 117 = second 47 112 47 117 (codes "roject") (decimal number ++ codes ".cc") rests in
    omega (arith, differ)

-- sources of other numbers have other names
pub one_number : (folder : List ℕ) (m n : ℕ) → m < 2 ^ 64 → n < 2 ^ 64 → source_path folder m ≡ source_path folder n → m ≡ n
one_number folder m n small few e =
    let rests = append_cancel_left folder (numbered (codes "/u") m ++ codes ".cc") (numbered (codes "/u") n ++ codes ".cc") e in
    decimal_injective m n small few (append_cancel_right (decimal m) (decimal n) (codes ".cc") (same_rest 47 117 47 117 (decimal m ++ codes ".cc") (decimal n ++ codes ".cc") rests))

pub project_apart : (folder : List ℕ) (number : ℕ) (texts : List (List ℕ)) → All (λ file. project_name folder ≢ file.name) (source_files folder number texts)
project_apart folder number [] = All-nil (λ (file : NamedText). project_name folder ≢ file.name)
project_apart folder number (text ∷ texts) =
    All-cons (λ (file : NamedText). project_name folder ≢ file.name) (record { name = source_path folder number; text = text }) (source_files folder (suc number) texts) (not_a_source folder number) (project_apart folder (suc number) texts)

pub source_apart : (folder : List ℕ) (next number : ℕ) (texts : List (List ℕ)) → number + length texts ≤ next → next < 2 ^ 64 → All (λ file. source_path folder next ≢ file.name) (source_files folder number texts)
source_apart folder next number [] le small = All-nil (λ (file : NamedText). source_path folder next ≢ file.name)
source_apart folder next number (text ∷ texts) le small =
    All-cons (λ (file : NamedText). source_path folder next ≢ file.name) (record { name = source_path folder number; text = text }) (source_files folder (suc number) texts)
    (λ e. let same = one_number folder next number small (omega (arith, le, small)) e in omega (arith, same, le))
    (source_apart folder next (suc number) texts (omega (arith, le)) small)

-- ---- items in front of one, and the one behind them

front_of : (P : NamedText → Type 0) (files : List NamedText) (file : NamedText) → All P (files ++ file ∷ []) → All P files
front_of P files file all = subst (All P) (take_at files (file ∷ []) (length files) refl) (All-take P (length files) (files ++ file ∷ []) all)

last_of : (P : NamedText → Type 0) (files : List NamedText) (file : NamedText) → All P (files ++ file ∷ []) → P file
last_of P files file all = All-head P file [] (subst (All P) (drop_at files (file ∷ []) (length files) refl) (All-drop P (length files) (files ++ file ∷ []) all))

-- the front of files with one more
with_next : (files rest : List NamedText) (file : NamedText) → take (suc (length files)) (files ++ file ∷ rest) ≡ files ++ file ∷ []
with_next files rest file =
    let next : suc (length files) ≡ length files + 1 = omega arith in
    ap (λ n. take n (files ++ file ∷ rest)) next ∙ take-append-add files (file ∷ rest) 1

-- ---- one file more

module _ (T E : Type 0) where
  hold_more : (files : List NamedText) (file : NamedText) (done : T) (before mid now : Lookup) → All (λ other. file.name ≢ other.name) files → HoldTexts files before mid → Stores {T = T} {E = E} (Ok done) file.name file.text mid now
      → HoldTexts (files ++ file ∷ []) before now
  hold_more files file done before mid now apart held stores = record {
    held = All-push (λ other. now other.name ≡ Some other.text) files file
        (λ k d lt. stores.others (get_or files k d).name (λ e. apart k d lt (sym e)) ∙ held.held k d lt) stores.stored;
    others = λ name differ. stores.others name (last_of (λ other. name ≢ other.name) files file differ) ∙ held.others name (front_of (λ other. name ≢ other.name) files file differ);
  }

  stops_at : (files : List NamedText) (file : NamedText) (rest : List NamedText) (failed : E) (before mid now : Lookup) → All (λ other. file.name ≢ other.name) files → HoldTexts files before mid → Stores {T = T} {E = E} (Err failed) file.name file.text mid now
      → StopsWithin (files ++ file ∷ rest) before now
  stops_at files file rest failed before mid now apart held stores = record {
    count = length files;
    within = omega (arith, length-append files (file ∷ rest));
    held = subst (All (λ other. now other.name ≡ Some other.text)) (sym (take_at files (file ∷ rest) (length files) refl))
        (λ k d lt. stores.others (get_or files k d).name (λ e. apart k d lt (sym e)) ∙ held.held k d lt);
    others = λ name differ.
        let all = subst (All (λ other. name ≢ other.name)) (with_next files rest file) differ in
        stores.others name (last_of (λ other. name ≢ other.name) files file all) ∙ held.others name (front_of (λ other. name ≢ other.name) files file all);
  }

  -- ---- a file before others

  hold_first : (file : NamedText) (rest : List NamedText) (done : T) (before mid now : Lookup) → All (λ other. file.name ≢ other.name) rest → Stores {T = T} {E = E} (Ok done) file.name file.text before mid → HoldTexts rest mid now
      → HoldTexts (file ∷ rest) before now
  hold_first file rest done before mid now apart stores held = record {
    held = All-cons (λ other. now other.name ≡ Some other.text) file rest (held.others file.name apart ∙ stores.stored) held.held;
    others = λ name differ. held.others name (All-tail (λ other. name ≢ other.name) file rest differ) ∙ stores.others name (All-head (λ other. name ≢ other.name) file rest differ);
  }

  stop_behind : (file : NamedText) (rest : List NamedText) (done : T) (before mid now : Lookup) → All (λ other. file.name ≢ other.name) rest → Stores {T = T} {E = E} (Ok done) file.name file.text before mid → StopsWithin rest mid now
      → StopsWithin (file ∷ rest) before now
  stop_behind file rest done before mid now apart stores stops = record {
    count = suc stops.count;
    within = omega (arith, stops.within);
    held = All-cons (λ other. now other.name ≡ Some other.text) file (take stops.count rest) (stops.others file.name (All-take (λ other. file.name ≢ other.name) (suc stops.count) rest apart) ∙ stores.stored) stops.held;
    others = λ name differ. stops.others name (All-tail (λ other. name ≢ other.name) file (take (suc stops.count) rest) differ) ∙ stores.others name (All-head (λ other. name ≢ other.name) file (take (suc stops.count) rest) differ);
  }

  stop_first : (file : NamedText) (rest : List NamedText) (failed : E) (before now : Lookup) → Stores {T = T} {E = E} (Err failed) file.name file.text before now → StopsWithin (file ∷ rest) before now
  stop_first file rest failed before now stores = record {
    count = 0;
    within = omega arith;
    held = All-nil (λ other. now other.name ≡ Some other.text);
    others = λ name differ. stores.others name (All-head (λ other. name ≢ other.name) file [] differ);
  }

  -- ---- what files tell

  -- the project file was written, and then the sources
  pub files_then : (folder : List ℕ) (made : Generated) (result : Result T E) (done : T) (a b c : Option Lookup) → Told (Stores {T = T} {E = E} (Ok done) (project_name folder) made.project) a b → Told (WritesAll result (source_files folder 0 made.sources)) b c
      → Told (WritesAll result (files_of folder made)) a c
  files_then folder made (Ok u) done a b c = Told-then {R = Stores {T = T} {E = E} (Ok done) (project_name folder) made.project} {S = HoldTexts (source_files folder 0 made.sources)} {Q = HoldTexts (files_of folder made)} (λ x y z stores held. hold_first (record { name = project_name folder; text = made.project }) (source_files folder 0 made.sources) done x y z (project_apart folder 0 made.sources) stores held)
  files_then folder made (Err e) done a b c = Told-then {R = Stores {T = T} {E = E} (Ok done) (project_name folder) made.project} {S = StopsWithin (source_files folder 0 made.sources)} {Q = StopsWithin (files_of folder made)} (λ x y z stores stops. stop_behind (record { name = project_name folder; text = made.project }) (source_files folder 0 made.sources) done x y z (project_apart folder 0 made.sources) stores stops)

  -- the project file wasn't written
  pub files_stop : (folder : List ℕ) (made : Generated) (failed : E) (a b : Option Lookup) → Told (Stores {T = T} {E = E} (Err failed) (project_name folder) made.project) a b → Told (StopsWithin (files_of folder made)) a b
  files_stop folder made failed a b = Told-map {R = Stores {T = T} {E = E} (Err failed) (project_name folder) made.project} {S = StopsWithin (files_of folder made)} (λ x y stores. stop_first (record { name = project_name folder; text = made.project }) (source_files folder 0 made.sources) failed x y stores)

  -- ---- the sources, one after another

  files_append : (folder : List ℕ) (number : ℕ) (texts more : List (List ℕ)) → source_files folder number (texts ++ more) ≡ source_files folder number texts ++ source_files folder (number + length texts) more
  files_append folder number [] more = ap (λ n. source_files folder n more) (omega arith)
  files_append folder number (text ∷ texts) more =
      ap (λ files. record { name = source_path folder number; text = text } ∷ files) (files_append folder (suc number) texts more ∙ ap (λ n. source_files folder (suc number) texts ++ source_files folder n more) (omega arith))

  -- the sources, cut at one of them
  cut_at : (folder : List ℕ) (front : List (List ℕ)) (text : List ℕ) (rest : List (List ℕ)) (k : ℕ) → length front ≡ k → source_files folder 0 (front ++ text ∷ rest) ≡ source_files folder 0 front ++ record { name = source_path folder k; text = text } ∷ source_files folder (suc k) rest
  cut_at folder front text rest k e = files_append folder 0 front (text ∷ rest) ∙ ap (λ n. source_files folder 0 front ++ source_files folder n (text ∷ rest)) (omega (arith, e))

  taken_length : (texts : List (List ℕ)) (k : ℕ) → k < length texts → length (take k texts) ≡ k
  taken_length texts k lt = omega (arith, length-take k texts)

  apart_at : (folder : List ℕ) (texts : List (List ℕ)) (k : ℕ) → k < length texts → k < 2 ^ 64 → All (λ other. source_path folder k ≢ other.name) (source_files folder 0 (take k texts))
  apart_at folder texts k lt small = source_apart folder k 0 (take k texts) (omega (arith, taken_length texts k lt)) small

  pub sources_more : (folder : List ℕ) (texts : List (List ℕ)) (k : ℕ) (text : List ℕ) (done : T) (a b c : Option Lookup) → k < length texts → k < 2 ^ 64 → slice_get texts k ≡ Some text → Told (HoldTexts (source_files folder 0 (take k texts))) a b → Told (Stores {T = T} {E = E} (Ok done) (source_path folder k) text) b c
      → Told (HoldTexts (source_files folder 0 (take (k + 1) texts))) a c
  sources_more folder texts k text done a b c lt small at = Told-then {R = HoldTexts (source_files folder 0 (take k texts))} {S = Stores {T = T} {E = E} (Ok done) (source_path folder k) text} {Q = HoldTexts (source_files folder 0 (take (k + 1) texts))} (λ x y z held stores.
      subst (λ files. HoldTexts files x z) (sym (ap (source_files folder 0) (taken texts k text at) ∙ cut_at folder (take k texts) text [] k (taken_length texts k lt)))
      (hold_more (source_files folder 0 (take k texts)) (record { name = source_path folder k; text = text }) done x y z (apart_at folder texts k lt small) held stores))

  pub sources_stop : (folder : List ℕ) (texts : List (List ℕ)) (k : ℕ) (text : List ℕ) (failed : E) (a b c : Option Lookup) → k < length texts → k < 2 ^ 64 → slice_get texts k ≡ Some text → Told (HoldTexts (source_files folder 0 (take k texts))) a b → Told (Stores {T = T} {E = E} (Err failed) (source_path folder k) text) b c
      → Told (StopsWithin (source_files folder 0 texts)) a c
  sources_stop folder texts k text failed a b c lt small at = Told-then {R = HoldTexts (source_files folder 0 (take k texts))} {S = Stores {T = T} {E = E} (Err failed) (source_path folder k) text} {Q = StopsWithin (source_files folder 0 texts)} (λ x y z held stores.
      subst (λ files. StopsWithin files x z) (sym (ap (source_files folder 0) (whole texts k text at) ∙ cut_at folder (take k texts) text (drop (k + 1) texts) k (taken_length texts k lt)))
      (stops_at (source_files folder 0 (take k texts)) (record { name = source_path folder k; text = text }) (source_files folder (suc k) (drop (k + 1) texts)) failed x y z (apart_at folder texts k lt small) held stores))

-- no file was written yet
pub none_yet : (folder : List ℕ) (texts : List (List ℕ)) (a : Option Lookup) → Told (HoldTexts (source_files folder 0 (take 0 texts))) a a
none_yet folder texts a = Told-same (λ x. record { held = All-nil (λ other. x other.name ≡ Some other.text); others = λ name differ. refl })
