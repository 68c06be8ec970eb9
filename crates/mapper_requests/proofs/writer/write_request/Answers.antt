use Rattle.std.proofs.Common.{List, ℕ, sym, ◌∙◌, subst}
use Rattle.cody_words.specs.Buffers.{Buffer, Appends}
use Rattle.cody_words.specs.Canonical.{spaced}
use Rattle.mapper_requests.specs.declared.request.Request.{Request}
use Rattle.mapper_requests.specs.declared.verb.Verb.TheVariants as verb
use Rattle.mapper_requests.specs.Asked.{asked_by}
use Rattle.mapper_requests.specs.Writing.{request_words}
use Rattle.mapper_requests.proofs.Lines.{verb_bare}
use Rattle.mapper_requests.proofs.writer.write_request.Goals as goal

-- the words of a request stand behind what was written
abbrev Writes : Buffer → Buffer → Request → Type 0
Writes old new request = Appends old new (spaced (request_words (asked_by request)))

pub returns-in-Repo-clause-text : goal.returns-in-Repo-clause-text
unfolding request_words
returns-in-Repo-clause-text c = subst (Writes c.args.out.now c.extend.new.self) (sym c.in-Repo.is) (subst (λ (text : List ℕ). Appends c.args.out.now c.extend.new.self text) (c.text.ensures ∙ sym (verb_bare verb.Repo)) c.extend.ensures)

pub returns-in-Export-clause-text : goal.returns-in-Export-clause-text
unfolding request_words
returns-in-Export-clause-text c = subst (Writes c.args.out.now c.write_named.new.out) (sym c.in-Export.is) c.write_named.ensures.text

pub returns-in-Import-clause-text : goal.returns-in-Import-clause-text
unfolding request_words
returns-in-Import-clause-text c = subst (Writes c.args.out.now c.write_named-in-Import.new.out) (sym c.in-Import.is) c.write_named-in-Import.ensures.text

pub returns-in-Translate-clause-text : goal.returns-in-Translate-clause-text
unfolding request_words
returns-in-Translate-clause-text c = subst (Writes c.args.out.now c.write_named-in-Translate.new.out) (sym c.in-Translate.is) c.write_named-in-Translate.ensures.text
