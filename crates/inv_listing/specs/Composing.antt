-- What stands in front of an entry's value, which is composed as a short text.
use Rattle.std.specs.Prelude.{◌≡◌, ◌≤◌, take}
use Rattle.arrayvec.specs.ArrayVec.{array_vec_len}
use Rattle.term_table.specs.declared.contexts.Context.{Context}
use Rattle.inv_listing.specs.declared.fronts.Front.{Front}
use Rattle.inv_listing.specs.Listing.{context_text}

-- The front begins with the text of its context.
pub record BeginsWithContext (front : Front) : Type 0 where
  pub text : take front.context_len front.text.items ≡ context_text front.context
  pub within : front.context_len ≤ array_vec_len front.text
  pub short : front.context_len ≤ 40

-- The front is the text of this context, and holds nothing else.
pub record IsContextAlone (context : Context) (front : Front) : Type 0 where
  pub begins : BeginsWithContext front
  pub items : front.text.items ≡ context_text context
  pub alone : array_vec_len front.text ≡ front.context_len
