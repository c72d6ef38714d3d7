-- Names of members are ASCII.
use Rattle.std.proofs.Common.{◌≡◌, true, refl}
use Rattle.std.specs.Prelude.{chars, nat_lt}
use Rattle.std.specs.List.{list_all}
use Rattle.term_table.specs.declared.groups.Group.{Group}
use Rattle.term_table.specs.declared.groups.Group.TheVariants as groups
use Rattle.json_text.proofs.WordLemmas.{chars-word}
use Rattle.invoice_json.specs.InvoiceJson.{array_name}

array_name-ascii : (group : Group) → list_all (λ b. nat_lt b 128) (array_name group) ≡ true
array_name-ascii groups.Root = refl
array_name-ascii _ = refl

pub chars-array_name : (group : Group) → chars (array_name group) ≡ array_name group
chars-array_name group = chars-word (array_name group) (array_name-ascii group)
