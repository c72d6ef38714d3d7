-- A file that was read behind others.
use Rattle.std.specs.Prelude.{◌≡◌, ℕ, List, length, Ok}
use Rattle.inv_base.specs.Outside.{ShelfView, WhereTold}
use Rattle.xml_profile.specs.Profile as profile
use Rattle.xml_profile.specs.Profile.{document}
use Rattle.node_arena.specs.Document.{built}
use Rattle.xml_state.specs.Sizes.{rule_limits}
use Rattle.rule_library.specs.Readings.{File}
use Rattle.rule_library.specs.Leads.{told_under, HasRead}

-- The file of that name was opened and read without a fault: it is a document, of some content, which is its own where the
-- files are told.
pub record IsReadAt (name : List ℕ) (start : ℕ) (file : File) (before after : ShelfView) : Type 0 where
  pub content : List ℕ
  pub found : profile.Document
  pub whole : WhereTold (told_under name before.held) (λ bytes. content ≡ bytes)
  pub is : document rule_limits content ≡ Ok found
  pub exactly : file ≡ record {
    name = name;
    length = length content;
    start = start;
    document =
        record { nodes = (built found.events).nodes; names = found.names };
  }
  pub has_read : HasRead 1 before after
