-- Reading a file, in pieces, as a document.
use Rattle.std.specs.Prelude.{◌≡◌, ◌≢◌, ℕ, ◌+◌, ◌≤◌, List, [], ◌++◌, length, take, Option, Some, None, Result, Ok, Err}
use Rattle.inv_base.specs.Counts.{Rose, next_count}
use Rattle.inv_base.specs.Outside.{ShelfView, WhereTold, ahead_of}
use Rattle.xml_events.specs.Events.{Event}
use Rattle.xml_state.specs.declared.limits.Limits.{Limits}
use Rattle.xml_state.specs.declared.fault.XmlFault.{XmlFault}
use Rattle.xml_profile.specs.Profile.{document, first_fault, settled_fault, tree_of}
use Rattle.xml_profile.specs.Profile as profile
use Rattle.xml_profile.specs.Readers.{Progress, HasRead, Moves}
use Rattle.xml_profile.specs.TokenByToken.{read_front}
use Rattle.node_arena.specs.Document.{Built, Document, built}
use Rattle.node_arena.specs.Moves.{HasNodesOf, IsWhole}

-- One file was opened, and the files stay. A fault of reading is told where the count rose, and nowhere else did it
-- rise.
pub record ReadsFrom {T E : Type 0} (result : Result T E) (fault : E) (before after : ShelfView) : Type 0 where
  pub held : after.held ≡ before.held
  pub opens : after.opens ≡ next_count before.opens
  pub rose : result ≡ Err fault → Rose before.faults after.faults
  pub rises : before.faults ≤ after.faults
  pub quiet : result ≢ Err fault → after.faults ≡ before.faults

-- No file was opened, and the files stay.
pub record ReadsOn {T E : Type 0} (result : Result T E) (fault : E) (before after : ShelfView) : Type 0 where
  pub held : after.held ≡ before.held
  pub opens : after.opens ≡ before.opens
  pub rose : result ≡ Err fault → Rose before.faults after.faults
  pub rises : before.faults ≤ after.faults
  pub quiet : result ≢ Err fault → after.faults ≡ before.faults

-- A reader was given a whole content of so many bytes, which is this one where it is told, and a receiver has taken what
-- it tells so far, another one the bytes. No fault is settled, and nothing is left.
pub record HasFed (count : ℕ) (told left : Option (List ℕ)) (reader : Progress) (before after : List Event → Type 0)
    (bytes_before bytes_after : List ℕ → Type 0) : Type 0 where
  pub fed : List ℕ
  pub counted : count ≡ length fed
  pub read : HasRead reader fed
  pub events : Moves [] (read_front reader.limits fed).events before after
  pub whole : WhereTold told (λ content. fed ≡ content)
  pub content : told ≡ ahead_of fed left
  pub going : settled_fault reader.limits fed ≡ None
  pub given : bytes_before [] → bytes_after fed

-- The fault is the first of some content, which is this one where it is told.
pub record IsRefused (limits : Limits) (told : Option (List ℕ)) (fault : XmlFault) : Type 0 where
  pub content : List ℕ
  pub is : first_fault limits content ≡ Some fault
  pub whole : WhereTold told (λ bytes. content ≡ bytes)

-- Behind bytes that settle no fault yet, at most one piece of the content was read: of these bytes the others are left.
-- So at most 65,535 bytes more were read than any front has whose fault is settled.
pub record StopsInTime (limits : Limits) (told left : Option (List ℕ)) : Type 0 where
  pub front : List ℕ
  pub last : List ℕ
  pub read : told ≡ ahead_of (front ++ last) left
  pub going : settled_fault limits front ≡ None
  pub short : length last ≤ 65536
  pub few : WhereTold told (λ content. (n : ℕ) → settled_fault limits (take n content) ≢ None → length (front ++ last) ≤ n + 65535)

-- The document has exactly the nodes, with their places, and the names that the events of some content build, which is
-- this one where it is told. So its nodes are those of that content's tree.
pub record IsLoaded (limits : Limits) (told : Option (List ℕ)) (doc : Document) : Type 0 where
  pub content : List ℕ
  pub found : profile.Document
  pub is : document limits content ≡ Ok found
  pub exactly : doc ≡ record { nodes = (built found.events).nodes; names = found.names }
  pub of_tree : HasNodesOf doc (tree_of found)
  pub whole : WhereTold told (λ bytes. content ≡ bytes)

-- The same, and the content has so many bytes.
pub record IsLoadedOf (limits : Limits) (told : Option (List ℕ)) (count : ℕ) (doc : Document) : Type 0 where
  pub loaded : IsLoaded limits told doc
  pub counted : count ≡ length loaded.content

-- The same, and a receiver of bytes that had taken none has taken that content.
pub record IsLoadedAndGiven (limits : Limits) (told : Option (List ℕ)) (count : ℕ) (doc : Document) (bytes_before bytes_after : List ℕ → Type 0) : Type 0 where
  pub sized : IsLoadedOf limits told count doc
  pub given : bytes_before [] → bytes_after sized.loaded.content

-- What was built is a whole document, whose nodes are those of the tree of what was read.
pub record IsBuilt (found : profile.Document) (b : Built) : Type 0 where
  pub whole : IsWhole found.names b
  pub of_tree : HasNodesOf (record { nodes = b.nodes; names = found.names }) (tree_of found)
