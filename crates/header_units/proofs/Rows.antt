-- Worked names, which the definitions compute.
use Rattle.std.proofs.Common.{◌≡◌, ◌++◌, refl}
use Rattle.std.specs.Prelude.{codes, replicate, Some, None}
use Rattle.header_units.specs.declared.name.NameKind.TheVariants.{Primary, Partition, Header}
use Rattle.header_units.specs.Octets.{is_letter, is_letter_or_digit}
use Rattle.header_units.specs.Names.{name_kind, module_of}
use Rattle.header_units.specs.CmiNames.{cmi_stem, cmi_name}

relative : cmi_name (codes "./x/../y.h") ≡ codes ",/x/,,/y.h.gcm"
unfolding cmi_stem
relative = refl

absolute : cmi_name (codes "/usr/include/vector") ≡ codes "+/usr/include/vector.gcm"
unfolding cmi_stem
absolute = refl

commas : cmi_name (codes "./,,/y") ≡ codes ",/,,,,,/y.gcm"
unfolding cmi_stem
commas = refl

partition : cmi_name (codes "a.b:p") ≡ codes "a.b-p.gcm"
unfolding cmi_stem
partition = refl

primary : cmi_name (codes "a.b") ≡ codes "a.b.gcm"
unfolding cmi_stem
primary = refl

-- `./.` and `./,` differ
here : cmi_name (codes "./.") ≡ codes ",/,.gcm"
unfolding cmi_stem
here = refl

one_comma : cmi_name (codes "./,") ≡ codes ",/,,,,.gcm"
unfolding cmi_stem
one_comma = refl

-- two empty components
two_empty : cmi_name (codes ".//") ≡ codes ",/,,,/,,,.gcm"
unfolding cmi_stem
two_empty = refl

three_dots : cmi_name (codes "/.../.a") ≡ codes "+/.../.a.gcm"
unfolding cmi_stem
three_dots = refl

kind_primary : name_kind (codes "a.b_1.module") ≡ Some Primary
unfolding name_kind is_letter is_letter_or_digit
kind_primary = refl

kind_partition : name_kind (codes "a.b:p.q") ≡ Some Partition
unfolding name_kind is_letter is_letter_or_digit
kind_partition = refl

kind_relative : name_kind (codes "./:.h") ≡ Some Header
unfolding name_kind is_letter is_letter_or_digit
kind_relative = refl

kind_absolute : name_kind (codes "//") ≡ Some Header
unfolding name_kind is_letter is_letter_or_digit
kind_absolute = refl

two_colons : name_kind (codes "a:b:c") ≡ None
unfolding name_kind is_letter is_letter_or_digit
two_colons = refl

no_back : name_kind (codes "a:") ≡ None
unfolding name_kind is_letter is_letter_or_digit
no_back = refl

no_rest : name_kind (codes "./") ≡ None
unfolding name_kind is_letter is_letter_or_digit
no_rest = refl

two_dots : name_kind (codes "a..b") ≡ None
unfolding name_kind is_letter is_letter_or_digit
two_dots = refl

long_identifier : name_kind (replicate 256 97) ≡ None
unfolding name_kind is_letter is_letter_or_digit
long_identifier = refl

longest_header : name_kind (codes "./" ++ replicate 510 97) ≡ Some Header
unfolding name_kind is_letter is_letter_or_digit
longest_header = refl

module_before_colon : module_of Partition (codes "a.b:p") ≡ codes "a.b"
module_before_colon = refl
