-- Worked client runs, computed by the definitions.
use Rattle.std.proofs.Common.{◌≡◌, ℕ, true, false, List, [], ◌∷◌, ◌++◌, Some, refl}
use Rattle.std.specs.Prelude.{codes}
use Rattle.std.specs.Fmt.{digits}
use Rattle.cody_words.specs.Octets.{newline}
use Rattle.cody_words.specs.Canonical as canonical
use Rattle.cody_words.specs.Meanings as meanings
use Rattle.mapper_requests.specs.Numbers as numbers
use Rattle.mapper_requests.specs.Writing as writing
use Rattle.mapper_replies.specs.Values as reply
use Rattle.module_units.specs.Reading.{SourceReading, Good}
use Rattle.module_units.specs.declared.parts.DeclKind.TheVariants as kinds
use Rattle.module_units.specs.declared.parts.UnitKind.TheVariants as units
use Rattle.export_lists.specs.declared.outcome.Verdict.TheVariants as verdicts
use Rattle.client_core.specs.declared.outcome.ClientOutcome.TheVariants as came
use Rattle.client_core.specs.Scripts.{first_requests, second_requests, script_text}
use Rattle.client_core.specs.Replies.{All, Faulty, told}
use Rattle.client_core.specs.Outcomes.{first_error, grants_of}

-- export module a; export struct A;
abbrev a_reads : SourceReading
a_reads = Good (record { kind = units.Interface; «module» = codes "a"; partition = []; module_line = 1; imports = []; decls = record { exported = true; kind = kinds.Struct; name = codes "A"; line = 1; types = [] } ∷ [] })

-- export module u; import a;
abbrev u_reads : SourceReading
u_reads = Good (record { kind = units.Interface; «module» = codes "u"; partition = []; module_line = 1; imports = record { exported = false; name = codes "a"; line = 2 } ∷ []; decls = [] })

abbrev line : List ℕ → List ℕ
line text = text ++ newline ∷ []

-- what the client of a sends
sends : script_text (codes "a.cc") (codes "a") a_reads true ≡ line (codes "HELLO 1 modmap a.cc ;") ++ line (codes "MODULE-REPO ;") ++ line (codes "MODULE-EXPORT a") ++ line (codes "MODULE-COMPILED a")
unfolding digits writing.request_words canonical.is_bare_letter canonical.quoted_octet
sends = refl

-- what its mapper answers
abbrev answered : List ℕ
answered = line (codes "HELLO 1 x ;") ++ line (codes "PATHNAME gcm.cache ;") ++ line (codes "PATHNAME a.gcm") ++ line (codes "OK")

first_told : told 0 (first_requests (codes "a.cc") (codes "a") a_reads) answered ≡ All (reply.Hello (codes "x") 0 ∷ reply.Pathname (codes "gcm.cache") ∷ reply.Pathname (codes "a.gcm") ∷ [])
unfolding meanings.meaning meanings.is_marked meanings.marked_body numbers.number_of
first_told = refl

second_told : told 3 (second_requests (codes "a")) answered ≡ All (reply.Done ∷ [])
unfolding meanings.meaning meanings.is_marked meanings.marked_body numbers.number_of
second_told = refl

-- where its interface goes
own_paths : grants_of (codes "a") (reply.Hello (codes "x") 0 ∷ reply.Pathname (codes "gcm.cache") ∷ reply.Pathname (codes "a.gcm") ∷ []) ≡ record { repo = codes "gcm.cache"; export = codes "a.gcm"; imports = [] }
own_paths = refl

-- a mapper that answers OK first
wrong_reply : told 0 (first_requests (codes "a.cc") (codes "a") a_reads) (line (codes "OK")) ≡ Faulty 1
unfolding meanings.meaning meanings.is_marked meanings.marked_body numbers.number_of
wrong_reply = refl

-- a block of replies that ends too early, and one that goes on too long
too_early : told 0 (first_requests (codes "a.cc") (codes "a") a_reads) (line (codes "HELLO 1 x ;") ++ line (codes "PATHNAME gcm.cache")) ≡ Faulty 2
unfolding meanings.meaning meanings.is_marked meanings.marked_body numbers.number_of
too_early = refl

too_late : told 0 (first_requests (codes "a.cc") (codes "a") a_reads) (line (codes "HELLO 1 x ;") ++ line (codes ";") ++ line (codes "PATHNAME gcm.cache ;") ++ line (codes "PATHNAME a.gcm ;")) ≡ Faulty 3
unfolding meanings.meaning meanings.is_marked meanings.marked_body numbers.number_of
too_late = refl

-- an import that is refused, and a repository that is
abbrev greets : List ℕ
greets = line (codes "HELLO 1 x ;")

import_refused : first_error (first_requests (codes "u.cc") (codes "u") u_reads) (reply.Hello (codes "x") 0 ∷ reply.Pathname (codes "gcm.cache") ∷ reply.Pathname (codes "u.gcm") ∷ reply.Error (codes "import cycle") ∷ []) ≡ Some (came.Failed (verdicts.Import (codes "a")))
import_refused = refl

repo_refused : first_error (first_requests (codes "u.cc") (codes "u") u_reads) (reply.Hello (codes "x") 0 ∷ reply.Error (codes "gone") ∷ reply.Pathname (codes "u.gcm") ∷ reply.Pathname (codes "a.gcm") ∷ []) ≡ Some (came.Refused (codes "gone"))
repo_refused = refl
