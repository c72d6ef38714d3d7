-- The words of a file of extension terms for the places and the types of terms.
use Rattle.std.specs.Prelude.{ℕ, List, [], ◌∷◌, Option, find, codes, bytes_eq}
use Rattle.term_table.specs.declared.terms.DataType.{DataType}
use Rattle.term_table.specs.declared.terms.DataType.TheVariants as data_types
use Rattle.extension_files.specs.declared.terms.ExtPlace.{ExtPlace}
use Rattle.extension_files.specs.declared.terms.ExtPlace.TheVariants as places

abbrev pub word_of_place : ExtPlace → List ℕ
word_of_place places.Root = codes "root"
word_of_place places.Line = codes "line"

abbrev pub place_named : List ℕ → Option ExtPlace
place_named word = find (λ place. bytes_eq (word_of_place place) word) (places.Root ∷ places.Line ∷ [])

abbrev pub word_of_letter : DataType → List ℕ
word_of_letter data_types.T = codes "T"
word_of_letter data_types.I = codes "I"
word_of_letter data_types.C = codes "C"
word_of_letter data_types.A = codes "A"
word_of_letter data_types.Q = codes "Q"
word_of_letter data_types.P = codes "P"
word_of_letter data_types.D = codes "D"
word_of_letter data_types.B = codes "B"

-- the types that an extension term may have: all but that of attachments
abbrev pub added_data_types : List DataType
added_data_types = data_types.T ∷ data_types.I ∷ data_types.C ∷ data_types.A ∷ data_types.Q ∷ data_types.P ∷ data_types.D ∷ []

abbrev pub data_type_named : List ℕ → Option DataType
data_type_named word = find (λ data_type. bytes_eq (word_of_letter data_type) word) added_data_types
