-- What more blocks and more of a history do to the answers of a connection.
use Rattle.std.proofs.Common.{◌≡◌, ℕ, ◌≤◌, Bool, true, false, cond, List, [], ◌∷◌, ◌++◌, length, drop, Option, Some, None, refl, sym, ap, ◌∙◌, append_assoc, arith}
use Rattle.std.specs.Option.{option_map}
use Rattle.std.proofs.lemmas.List.{append-nil, length-drop, drop-append-le}
use Rattle.unit_registry.specs.Projects.{ProjectView}
use Rattle.histories.specs.declared.answer.Answer.{Answer}
use Rattle.connection_replies.specs.declared.line_reply.LineReply.{LineReply}
use Rattle.connection_replies.specs.declared.line_reply.LineReply.TheVariants as line
use Rattle.connection_replies.specs.ReplyLines.{reply_lines}
use Rattle.connection_core.specs.declared.asked.Asked.{Asked}
use Rattle.connection_core.specs.Asking.{Block, asked_of, is_refused}
use Rattle.connection_core.proofs.Lookings.{parts_of}
use Rattle.connection_core.specs.Answers.{answer_first, dealt, replies_to, refusals, block_answer, request_count, joined, answers_at, all_requests}

joined-none : (text : Option (List ℕ)) → joined text (Some []) ≡ text
joined-none (Some text) = ap (λ (t : List ℕ). Some t) (append-nil text)
joined-none None = refl

joined-assoc : (first second third : Option (List ℕ)) → joined (joined first second) third ≡ joined first (joined second third)
joined-assoc (Some a) (Some b) (Some c) = ap (λ (t : List ℕ). Some t) (append_assoc a b c)
joined-assoc (Some a) (Some b) None = refl
joined-assoc (Some a) None third = refl
joined-assoc None second third = refl

-- places behind those that lines need change nothing
dealt-more : (f : ℕ → Option Answer) (lines : List Asked) (places more : List ℕ) → length lines ≤ length places → dealt f lines (places ++ more) ≡ dealt f lines places
dealt-more f [] places more le = refl
dealt-more f (a ∷ lines) [] more le = absurd (omega (arith, le))
dealt-more f (a ∷ lines) (p ∷ places) more le = ap (answer_first (f p)) (dealt-more f lines places more (omega (arith, le)))

drop-more : (n : ℕ) (places more : List ℕ) → n ≤ length places → drop n (places ++ more) ≡ drop n places ++ more
drop-more n places more le = drop-append-le n places more le

block-more : (project : ProjectView) (f : ℕ → Option Answer) (lines : List Asked) (places more : List ℕ) → request_count lines ≤ length places → block_answer project f lines (places ++ more) ≡ block_answer project f lines places
block-more project f lines places more le = ap (option_map (reply_lines project)) (by (is_refused lines) refl)
  where
    by : (b : Bool) → is_refused lines ≡ b → cond (is_refused lines) (Some (refusals lines)) (dealt f lines (places ++ more)) ≡ cond (is_refused lines) (Some (refusals lines)) (dealt f lines places)
    by true e = ap (λ b. cond b (Some (refusals lines)) (dealt f lines (places ++ more))) e ∙ sym (ap (λ b. cond b (Some (refusals lines)) (dealt f lines places)) e)
    by false e = ap (λ (r : Option (List LineReply)). cond (is_refused lines) (Some (refusals lines)) r) (dealt-more f lines places more (omega (arith, le, ap (λ b. cond b 0 (length lines)) e)))

-- places behind those of the blocks' requests change nothing
pub answers-spare : (project : ProjectView) (f : ℕ → Option Answer) (blocks : List Block) (places more : List ℕ) → all_requests project blocks ≤ length places → answers_at project f blocks (places ++ more) ≡ answers_at project f blocks places
answers-spare project f [] places more le = refl
answers-spare project f (first ∷ blocks) places more few =
    let count = request_count (asked_of project first) in
    let le : count ≤ length places = omega (arith, few) in
    ap (λ (t : Option (List ℕ)). joined t (answers_at project f blocks (drop count (places ++ more)))) (block-more project f (asked_of project first) places more le)
    ∙ ap (λ (ps : List ℕ). joined (block_answer project f (asked_of project first) places) (answers_at project f blocks ps)) (drop-more count places more le)
    ∙ ap (joined (block_answer project f (asked_of project first) places)) (answers-spare project f blocks (drop count places) more (omega (arith, length-drop count places, few)))

pub answers-more : (project : ProjectView) (f : ℕ → Option Answer) (blocks : List Block) (places more : List ℕ) → length places ≡ all_requests project blocks → answers_at project f blocks (places ++ more) ≡ answers_at project f blocks places
answers-more project f blocks places more e = answers-spare project f blocks places more (omega (arith, e))

-- the answers to blocks and one block more, whose requests have these places
pub answers-push : (project : ProjectView) (f : ℕ → Option Answer) (blocks : List Block) (block : Block) (places more : List ℕ) → length places ≡ all_requests project blocks
    → answers_at project f (blocks ++ block ∷ []) (places ++ more) ≡ joined (answers_at project f blocks places) (block_answer project f (asked_of project block) more)
answers-push project f [] block [] more e = joined-none (block_answer project f (asked_of project block) more) ∙ none_first (block_answer project f (asked_of project block) more)
  where
    none_first : (text : Option (List ℕ)) → text ≡ joined (Some []) text
    none_first (Some text) = refl
    none_first None = refl
answers-push project f [] block (p ∷ places) more e = absurd (omega (arith, e))
answers-push project f (first ∷ blocks) block places more e =
    let count = request_count (asked_of project first) in
    let le : count ≤ length places = omega (arith, e) in
    ap (λ (t : Option (List ℕ)). joined t (answers_at project f (blocks ++ block ∷ []) (drop count (places ++ more)))) (block-more project f (asked_of project first) places more le)
    ∙ ap (λ (ps : List ℕ). joined (block_answer project f (asked_of project first) places) (answers_at project f (blocks ++ block ∷ []) ps)) (drop-more count places more le)
    ∙ ap (joined (block_answer project f (asked_of project first) places)) (answers-push project f blocks block (drop count places) more (length-drop count places ∙ omega (arith, e)))
    ∙ sym (joined-assoc (block_answer project f (asked_of project first) places) (answers_at project f blocks (drop count places)) (block_answer project f (asked_of project block) more))

-- ---- answers that have come stay

first_some : (answer : Answer) (replies : List LineReply) (a : Option Answer) (b : Option (List LineReply)) → a ≡ Some answer → b ≡ Some replies → answer_first a b ≡ Some (line.Answer answer ∷ replies)
first_some answer replies a b e f = ap (λ x. answer_first x b) e ∙ ap (λ (y : Option (List LineReply)). answer_first (Some answer) y) f

module _ (f g : ℕ → Option Answer) (stay : (place : ℕ) (answer : Answer) → f place ≡ Some answer → g place ≡ Some answer) where
  dealt-stays : (lines : List Asked) (places : List ℕ) (given : List LineReply) → dealt f lines places ≡ Some given → dealt g lines places ≡ Some given
  dealt-stays [] places given e = e
  dealt-stays (a ∷ lines) [] given e = absurd cc
  dealt-stays (a ∷ lines) (p ∷ places) given e = by (f p) (dealt f lines places) (λ replies. dealt-stays lines places replies) refl refl e
    where
      by : (x : Option Answer) (y : Option (List LineReply)) → ((replies : List LineReply) → dealt f lines places ≡ Some replies → dealt g lines places ≡ Some replies)
          → f p ≡ x → dealt f lines places ≡ y → answer_first x y ≡ Some given → answer_first (g p) (dealt g lines places) ≡ Some given
      by (Some answer) (Some replies) rest ex ey h = first_some answer replies (g p) (dealt g lines places) (stay p answer ex) (rest replies ey) ∙ h
      by (Some answer) None rest ex ey h = absurd cc
      by None y rest ex ey h = absurd cc

  replies-stay : (lines : List Asked) (places : List ℕ) (given : List LineReply) → replies_to f lines places ≡ Some given → replies_to g lines places ≡ Some given
  replies-stay lines places given = by (is_refused lines)
    where
      by : (b : Bool) → cond b (Some (refusals lines)) (dealt f lines places) ≡ Some given → cond b (Some (refusals lines)) (dealt g lines places) ≡ Some given
      by true e = e
      by false e = dealt-stays lines places given e

  block-stays : (project : ProjectView) (lines : List Asked) (places text : List ℕ) → block_answer project f lines places ≡ Some text → block_answer project g lines places ≡ Some text
  block-stays project lines places text e = by (replies_to f lines places) refl e
    where
      by : (r : Option (List LineReply)) → replies_to f lines places ≡ r → option_map (reply_lines project) r ≡ Some text → block_answer project g lines places ≡ Some text
      by (Some given) er h = ap (option_map (reply_lines project)) (replies-stay lines places given er) ∙ h
      by None er h = absurd cc

  -- answers to blocks, once there, stay whatever replies come besides
  pub answers-stay : (project : ProjectView) (blocks : List Block) (places text : List ℕ) → answers_at project f blocks places ≡ Some text → answers_at project g blocks places ≡ Some text
  answers-stay project [] places text e = e
  answers-stay project (block ∷ blocks) places text e =
      by (block_answer project f (asked_of project block) places) (answers_at project f blocks (drop (request_count (asked_of project block)) places)) (λ rest. answers-stay project blocks (drop (request_count (asked_of project block)) places) rest) refl refl e
    where
      by : (x y : Option (List ℕ))
          → ((rest : List ℕ) → answers_at project f blocks (drop (request_count (asked_of project block)) places) ≡ Some rest → answers_at project g blocks (drop (request_count (asked_of project block)) places) ≡ Some rest)
          → block_answer project f (asked_of project block) places ≡ x → answers_at project f blocks (drop (request_count (asked_of project block)) places) ≡ y
          → joined x y ≡ Some text → answers_at project g (block ∷ blocks) places ≡ Some text
      by (Some a) (Some b) behind ex ey h =
          ap (λ (t : Option (List ℕ)). joined t (answers_at project g blocks (drop (request_count (asked_of project block)) places))) (block-stays project (asked_of project block) places a ex)
          ∙ ap (joined (Some a)) (behind b ey) ∙ h
      by (Some a) None behind ex ey h = absurd cc
      by None y behind ex ey h = absurd cc

-- ---- answers that are all there have all their places

mapped_some : {A B : Type 0} (f : A → B) (r : Option A) (y : B) → option_map f r ≡ Some y → (x : A) × (r ≡ Some x)
mapped_some f (Some x) y e = (x, refl)
mapped_some f None y e = absurd cc

joined_some : (first second : Option (List ℕ)) (text : List ℕ) → joined first second ≡ Some text → (a : List ℕ) × (b : List ℕ) × (first ≡ Some a) × (second ≡ Some b)
joined_some (Some a) (Some b) text e = (a, b, refl, refl)
joined_some (Some a) None text e = absurd cc
joined_some None second text e = absurd cc

dealt_enough : (f : ℕ → Option Answer) (lines : List Asked) (places : List ℕ) (given : List LineReply) → dealt f lines places ≡ Some given → length lines ≤ length places
dealt_enough f [] places given e = omega arith
dealt_enough f (a ∷ lines) [] given e = absurd cc
dealt_enough f (a ∷ lines) (p ∷ places) given e =
    let parts = parts_of (f p) (dealt f lines places) given e in
    omega (arith, dealt_enough f lines places parts.1 parts.3)

block_enough : (project : ProjectView) (f : ℕ → Option Answer) (lines : List Asked) (places text : List ℕ) → block_answer project f lines places ≡ Some text → request_count lines ≤ length places
block_enough project f lines places text e = by (is_refused lines) refl
  where
    by : (b : Bool) → is_refused lines ≡ b → request_count lines ≤ length places
    by true is = omega (arith, ap (λ b. cond b 0 (length lines)) is)
    by false is =
        let given = mapped_some (reply_lines project) (replies_to f lines places) text e in
        omega (arith, ap (λ b. cond b 0 (length lines)) is, dealt_enough f lines places given.0 (sym (ap (λ b. cond b (Some (refusals lines)) (dealt f lines places)) is) ∙ given.1))

pub answers_enough : (project : ProjectView) (f : ℕ → Option Answer) (blocks : List Block) (places text : List ℕ) → answers_at project f blocks places ≡ Some text → all_requests project blocks ≤ length places
answers_enough project f [] places text e = omega arith
answers_enough project f (block ∷ blocks) places text e =
    let count = request_count (asked_of project block) in
    let parts = joined_some (block_answer project f (asked_of project block) places) (answers_at project f blocks (drop count places)) text e in
    omega (arith, block_enough project f (asked_of project block) places parts.0 parts.2, answers_enough project f blocks (drop count places) parts.1 parts.3, length-drop count places)
