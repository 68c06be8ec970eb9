use Rattle.std.proofs.Common.{◌≡◌, ◌++◌, ◌∷◌, [], sym, ap, subst, ◌∙◌}
use Rattle.std.proofs.lemmas.Bool.{eq-eqb, ne_eqb}
use Rattle.cody_words.specs.Scan.{Scan}
use Rattle.cody_batches.specs.Feeding.{Standing, words_of, Answers, StandsAfter}
use Rattle.cody_batches.specs.Working.{line_ended, counted, step_of}
use Rattle.cody_batches.specs.declared.intake.Step.{Step}
use Rattle.cody_batches.proofs.Stands.{over_stands, over_answers, within_stands, within_answers, end_stands, end_answers, at_end, end_tells, scan-counted}
use Rattle.cody_batches.proofs.intake.Intake.feed.Goals as goal

pub returns-then-self-clause-stands : goal.returns-then-self-clause-stands
returns-then-self-clause-stands c = λ fed h. over_stands c.args.self.now fed c.args.octet (sym (ap (λ s. s.over) c.self.view_is) ∙ c.if-self.true) h

pub returns-then-self-clause-answers : goal.returns-then-self-clause-answers
returns-then-self-clause-answers c = λ fed h. over_answers c.args.self.now c.args.self.now fed c.args.octet (sym (ap (λ s. s.over) c.self.view_is) ∙ c.if-self.true) h

pub returns-then-octet-ne10-clause-stands : goal.returns-then-octet-ne10-clause-stands
returns-then-octet-ne10-clause-stands c = λ fed h.
    subst (λ (s : Standing). StandsAfter s (fed ++ c.args.octet ∷ [])) (sym c.keep.ensures) (within_stands c.args.self.now fed c.args.octet (ne_eqb c.args.octet 10 c.if-octet-ne10.true) (sym (ap (λ s. s.over) c.self.view_is) ∙ c.if-self.false) h)

pub returns-then-octet-ne10-clause-answers : goal.returns-then-octet-ne10-clause-answers
returns-then-octet-ne10-clause-answers c = λ fed h. within_answers c.args.self.now c.keep.new.self fed c.args.octet (ne_eqb c.args.octet 10 c.if-octet-ne10.true) (sym (ap (λ s. s.over) c.self.view_is) ∙ c.if-self.false) h

pub returns-clause-stands : goal.returns-clause-stands
returns-clause-stands c = λ fed h.
    let scan = c.end_line-reading.new.self.scan in
    let words = scan.words in
    let found = c.end_line-reading.result in
    let not_over = sym (ap (λ s. s.over) c.self.view_is) ∙ c.if-self.false in
    let newline = eq-eqb c.args.octet 10 c.if-octet-ne10.false in
    let stands = end_stands (line_ended c.args.self.now scan) fed c.args.octet found words (at_end c.args.self.now scan fed c.args.octet newline not_over h) (end_tells c.args.self.now words fed found not_over h c.end_line-reading.ensures.reading) in
    let same : c.count.new.self ≡ counted (line_ended c.args.self.now scan) found = c.count.ensures.stands ∙ ap (λ (s : Standing). counted s found) c.end_line-reading.ensures.stands in
    subst (λ (s : Standing). StandsAfter s (fed ++ c.args.octet ∷ [])) (sym same) stands

pub returns-clause-answers : goal.returns-clause-answers
returns-clause-answers c = λ fed h.
    let scan = c.end_line-reading.new.self.scan in
    let words = scan.words in
    let found = c.end_line-reading.result in
    let not_over = sym (ap (λ s. s.over) c.self.view_is) ∙ c.if-self.false in
    let newline = eq-eqb c.args.octet 10 c.if-octet-ne10.false in
    let same : c.count.new.self ≡ counted (line_ended c.args.self.now scan) found = c.count.ensures.stands ∙ ap (λ (s : Standing). counted s found) c.end_line-reading.ensures.stands in
    let step : c.count.result ≡ step_of (line_ended c.args.self.now scan) found = c.count.ensures.step ∙ ap (λ (s : Standing). step_of s found) c.end_line-reading.ensures.stands in
    let now_words : words_of c.count.new.self ≡ words = ap (λ (s : Standing). s.scan.words) same ∙ ap (λ (x : Scan). x.words) (scan-counted (line_ended c.args.self.now scan) found) in
    let answers = end_answers (line_ended c.args.self.now scan) c.count.new.self fed c.args.octet found words now_words (at_end c.args.self.now scan fed c.args.octet newline not_over h) (end_tells c.args.self.now words fed found not_over h c.end_line-reading.ensures.reading) in
    subst (λ (a : Step). Answers fed c.args.octet a c.count.new.self) (sym step) answers
