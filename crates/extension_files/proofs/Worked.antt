-- Files whose answers are known.
use Rattle.std.proofs.Common.{◌≡◌, ℕ, List, [], ◌∷◌, Option, Some, None, Result, Ok, Err, refl, codes}
use Rattle.std.specs.Str.{chars, is_utf8}
use Rattle.toml.proofs.OnLiterals.{toml_on_literals}
use Rattle.term_table.specs.declared.terms.DataType.TheVariants as data_types
use Rattle.bind_rows.specs.declared.names.Namespace.TheVariants as spaces
use Rattle.bind_rows.specs.declared.names.ElementName.{ElementName}
use Rattle.extension_files.specs.declared.terms.ExtPlace.TheVariants as places
use Rattle.extension_files.specs.declared.terms.ExtTerm.{ExtTerm}
use Rattle.extension_files.specs.declared.terms.Paths.{Paths}
use Rattle.extension_files.specs.declared.fault.ExtFault.{ExtFault}
use Rattle.extension_files.specs.declared.fault.ExtFault.TheVariants.{NotToml, NotAnExtension, BadTerm}
use Rattle.extension_files.specs.ExtensionFiles.{file_terms}

abbrev Answer : Type 0
Answer = Result (List ExtTerm) ExtFault

no-toml : ◌≡◌ {A = Answer} (file_terms (codes "[[term]\n")) (Err NotToml)
unfolding toml_on_literals chars is_utf8
no-toml = refl

nothing : ◌≡◌ {A = Answer} (file_terms []) (Err (NotAnExtension (codes "term")))
unfolding toml_on_literals chars is_utf8
nothing = refl

no-terms : ◌≡◌ {A = Answer} (file_terms (codes "term = []\n")) (Ok [])
unfolding toml_on_literals chars is_utf8
no-terms = refl

no-table : ◌≡◌ {A = Answer} (file_terms (codes "term = [1]\n")) (Err (NotAnExtension (codes "term")))
unfolding toml_on_literals chars is_utf8
no-table = refl

other-keys : ◌≡◌ {A = Answer} (file_terms (codes "z = 1\na = 1\n[[term]]\n")) (Err (NotAnExtension (codes "a")))
unfolding toml_on_literals chars is_utf8
other-keys = refl

numberless : ◌≡◌ {A = Answer} (file_terms (codes "[[term]]\nplace = \"line\"\n")) (Err (BadTerm 1))
unfolding toml_on_literals chars is_utf8
numberless = refl

given-twice : ◌≡◌ {A = Answer}
    (file_terms (codes "[[term]]\nnumber=1\nplace=\"line\"\ntype=\"T\"\nubl=\"cac:A\"\n[[term]]\nnumber=1\nplace=\"line\"\ntype=\"T\"\nubl=\"cac:B\"\n"))
    (Err (BadTerm 2))
unfolding toml_on_literals chars is_utf8
given-twice = refl

brand : ExtTerm
brand = record {
  number = 1;
  place = places.Line;
  data_type = data_types.T;
  paths = record {
    ubl = Some (record { namespace = spaces.UblAggregate; local = codes "Item" } ∷ record { namespace = spaces.UblBasic; local = codes "BrandName" } ∷ []);
    credit_note = None;
    cii = None;
  };
}

one-term : ◌≡◌ {A = Answer} (file_terms (codes "[[term]]\nnumber=1\nplace=\"line\"\ntype=\"T\"\nubl=\"cac:Item/cbc:BrandName\"\n")) (Ok (brand ∷ []))
unfolding toml_on_literals chars is_utf8 brand
one-term = refl
