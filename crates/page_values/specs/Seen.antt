-- What the writer goes by: places as it holds them, bytes of attached documents, and text without white space.
use Rattle.std.specs.Prelude.{◌≡◌, ℕ, List, [], ◌∷◌, map, length, Option, Some, None, Ok, Err, bytes_eq, if◌then◌else◌}
use Rattle.base64.specs.GeneralPurpose.{encode_of, decode_of}
use Rattle.base64.specs.Engines.{standard}
use Rattle.inv_base.specs.Characters.{is_white_space}
use Rattle.term_table.specs.Runs.{IsInOrder, IsNested}
use Rattle.inv_terms.specs.Counts.{AreCounted}
use Rattle.term_table.specs.declared.groups.Group.{Group}
use Rattle.term_table.specs.declared.contexts.Slot.{Slot}
use Rattle.term_table.specs.declared.contexts.Context.{Context}
use Rattle.term_table.specs.Contexts.{same_slot}
use Rattle.inv_terms.specs.Listing.{seat_of, index_in}
use Rattle.page_values.specs.declared.places.Place.{Place as OwnPlace}
use Rattle.page_values.specs.Places.{Place}

-- ---- places

abbrev pub seen : OwnPlace → Place
seen place = record { entries = place.entries.now; context = place.context; sizes = place.sizes.now }

pub record IsPlace (place : OwnPlace) : Type 0 where
  pub order : IsInOrder (map seat_of place.entries.now)
  pub nested : IsNested place.context
  -- the counts are those of the invoice
  pub counted : place.context.outer ≡ None → AreCounted place.counts.now place.entries.now

-- the number of the occurrence of a group in which an entry of a context stands, inside an outer one
abbrev pub index_inside : Context → Option Slot → Group → ℕ
index_inside context outer group = if same_slot context.outer outer then index_in group context.inner else 0

-- ---- sizes

abbrev pub size_where_canonical : List ℕ → List ℕ → Option ℕ
size_where_canonical bytes text = if bytes_eq (encode_of standard bytes) text then Some (length bytes) else None

abbrev pub decoded_size : List ℕ → Option ℕ
decoded_size text = elim (decode_of standard text) [ Err e ↦ None | Ok bytes ↦ size_where_canonical bytes text ]

-- ---- escapes

-- a character unless it is white space
abbrev pub squeezed : ℕ → List ℕ
squeezed c = if is_white_space c then [] else c ∷ []
