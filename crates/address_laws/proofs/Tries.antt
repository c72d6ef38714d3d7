-- Both definitions on small tables.
use Rattle.std.specs.Prelude.{◌≡◌, true, false, Ok}
use Rattle.std.proofs.Common.{refl}
use Rattle.inv_base.specs.Characters.{is_name_start, is_name_char}
use Rattle.inv_base.specs.Tree.{size}
use Rattle.term_table.specs.SemanticModel.{terms, extension_rows, listing_rows}
use Rattle.term_table.specs.Groups.{parent_of, occurrence_of}
use Rattle.bind_rows.specs.declared.rows.Repeats.TheVariants as repeat
use Rattle.bind_table.specs.Laid.{is_writable}
use Rattle.bind_table.specs.WellFormed.{first_fault}
use Rattle.bind_meaning.specs.Trees.{document_of}
use Rattle.address_laws.specs.AddressTrees.{tree_of}
use Rattle.address_laws.specs.Addresses.{leaves_of}
use Rattle.address_laws.specs.Addressed.{is_addressed}
use Rattle.address_laws.specs.Samples.{a_table, an_invoice, a_row_through_a_group, two_rates, a_constant_attribute, an_identifier}

pub table-addressed : is_addressed a_table ≡ true
unfolding terms extension_rows listing_rows parent_of occurrence_of
table-addressed = refl

pub table-size : size (document_of a_table an_invoice) ≡ 30
unfolding document_of terms
table-size = refl

pub whole : document_of a_table an_invoice ≡ tree_of (leaves_of a_table an_invoice)
unfolding document_of terms
whole = refl

pub spread : document_of (a_row_through_a_group repeat.Spread) two_rates ≡ tree_of (leaves_of (a_row_through_a_group repeat.Spread) two_rates)
unfolding document_of terms
spread = refl

-- ---- a row of the invoice itself through the element of a group

pub group-well_formed : first_fault (a_row_through_a_group repeat.Once) ≡ Ok tt
unfolding terms extension_rows listing_rows parent_of occurrence_of
group-well_formed = refl

pub group-laid : is_writable (a_row_through_a_group repeat.Once) ≡ true
unfolding is_name_start is_name_char
group-laid = refl

pub group-addressed : is_addressed (a_row_through_a_group repeat.Once) ≡ false
unfolding terms extension_rows listing_rows parent_of occurrence_of
group-addressed = refl

pub group-document : size (document_of (a_row_through_a_group repeat.Once) two_rates) ≡ 11
unfolding document_of terms
group-document = refl

pub group-tree : size (tree_of (leaves_of (a_row_through_a_group repeat.Once) two_rates)) ≡ 9
unfolding terms
group-tree = refl

-- ---- a constant attribute of an element with a term in it

pub constant-well_formed : first_fault a_constant_attribute ≡ Ok tt
unfolding terms extension_rows listing_rows parent_of occurrence_of
constant-well_formed = refl

pub constant-laid : is_writable a_constant_attribute ≡ true
unfolding is_name_start is_name_char
constant-laid = refl

pub constant-addressed : is_addressed a_constant_attribute ≡ false
unfolding terms extension_rows listing_rows parent_of occurrence_of
constant-addressed = refl

pub constant-document : size (document_of a_constant_attribute an_identifier) ≡ 5
unfolding document_of terms
constant-document = refl

pub constant-tree : size (tree_of (leaves_of a_constant_attribute an_identifier)) ≡ 3
unfolding terms
constant-tree = refl
