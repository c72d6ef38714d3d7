-- The lists of codes by the names that a file has for them. EN 16931-1 says which term draws on which.
use Rattle.std.specs.Prelude.{ℕ, List, [], ◌∷◌, Option, Bool, find, codes, bytes_eq}
use Rattle.code_lists.specs.declared.names.List.{List as CodeList}
use Rattle.code_lists.specs.declared.names.List.TheVariants as lists

abbrev pub name_of : CodeList → List ℕ
name_of lists.Allowance = codes "allowance"
name_of lists.Category = codes "category"
name_of lists.Charge = codes "charge"
name_of lists.Classification = codes "classification"
name_of lists.Country = codes "country"
name_of lists.Currency = codes "currency"
name_of lists.Endpoint = codes "endpoint"
name_of lists.Exemption = codes "exemption"
name_of lists.InvoiceType = codes "type"
name_of lists.Means = codes "means"
name_of lists.Mime = codes "mime"
name_of lists.Object = codes "object"
name_of lists.Point = codes "point"
name_of lists.Scheme = codes "scheme"
name_of lists.Subject = codes "subject"
name_of lists.UnitOfMeasure = codes "unit"

-- the lists that a file may give: all but `category` and `point`, which are built in
abbrev pub lists_from_file : List CodeList
lists_from_file =
    lists.Allowance ∷ lists.Charge ∷ lists.Classification ∷ lists.Country ∷ lists.Currency ∷ lists.Endpoint ∷ lists.Exemption
    ∷ lists.Means ∷ lists.Mime ∷ lists.Object ∷ lists.Scheme ∷ lists.Subject ∷ lists.InvoiceType ∷ lists.UnitOfMeasure ∷ []

-- the one of them under the key
abbrev pub list_named : List ℕ → Option CodeList
list_named key = find (λ list. bytes_eq (name_of list) key) lists_from_file

abbrev pub same_list : CodeList → CodeList → Bool
same_list a b = bytes_eq (name_of a) (name_of b)
