-- What members and objects tell, one behind the other.
use Rattle.std.proofs.Common.{◌≡◌, ℕ, Bool, true, false, not, cond, List, ◌∷◌, Some, find, sym, ap, ◌∙◌, take, drop, length}
use Rattle.json_reading.specs.declared.item.Item.{Item}
use Rattle.term_table.specs.declared.groups.Group.{Group}
use Rattle.invoice_data.specs.declared.members.Numbers.{Numbers}
use Rattle.invoice_data.specs.declared.names.Member.{Member}
use Rattle.invoice_data.specs.declared.names.Room.{Room}
use Rattle.invoice_data.specs.Parts.{Part, parts, part}
use Rattle.invoice_data.specs.Names.{Source, member_of}
use Rattle.invoice_data.specs.Told.{Told, both}
use Rattle.invoice_data.specs.Values.{says_nothing}
use Rattle.invoice_data.specs.Members.{Arrays, member_told, members_told, seen_with, element_told, elements_told, room_in, numbers_behind, is_schemed, lacks_told, is_scheme, is_scheme_named, is_scheme_said, has_scheme}
use Rattle.invoice_data.proofs.PartLemmas.{parts_taken, parts_none}
use Rattle.invoice_data.proofs.ToldLemmas.{told_more, told_all, found_behind, both_assoc}

pub next_member : (arrays : Arrays) (source : Source) (room : Room) (seen seen' : List Member) (rest behind : List Item) (item : Item) (inside next : List Item)
    (before after all : Told)
    → rest ≡ item ∷ behind → parts (item ∷ behind) ≡ part item inside ∷ parts next
    → after ≡ both before (member_told arrays source room seen (part item inside) (member_of source room item))
    → seen' ≡ seen_with seen (member_of source room item)
    → both before (members_told arrays source room seen (parts rest)) ≡ all
    → both after (members_told arrays source room seen' (parts next)) ≡ all
next_member arrays source room seen seen' rest behind item inside next before after all first split told noted h =
    told_more before after (member_told arrays source room seen (part item inside) (member_of source room item))
    (members_told arrays source room seen' (parts next)) all told
    (ap (λ s. both before (both (member_told arrays source room seen (part item inside) (member_of source room item))
    (members_told arrays source room s (parts next)))) noted
    ∙ (sym (ap (λ ps. both before (members_told arrays source room seen ps)) (ap parts first ∙ split)) ∙ h))

pub no_member : (arrays : Arrays) (source : Source) (room : Room) (seen : List Member) (rest : List Item) (told all : Told)
    → length rest ≡ 0 → both told (members_told arrays source room seen (parts rest)) ≡ all → told ≡ all
no_member arrays source room seen rest told all none h =
    told_all told all (sym (ap (λ ps. both told (members_told arrays source room seen ps)) (parts_none rest none)) ∙ h)

pub next_element : (arrays : Arrays) (source : Source) (room : Room) (group : Group) (numbers numbers' : Numbers) (rest behind : List Item) (item : Item)
    (inside next : List Item) (before after all : Told)
    → rest ≡ item ∷ behind → parts (item ∷ behind) ≡ part item inside ∷ parts next
    → after ≡ both before (element_told arrays source (room_in room group numbers (is_schemed source group inside)) (part item inside))
    → numbers' ≡ numbers_behind numbers (is_schemed source group inside)
    → both before (elements_told arrays source room group numbers (parts rest)) ≡ all
    → both after (elements_told arrays source room group numbers' (parts next)) ≡ all
next_element arrays source room group numbers numbers' rest behind item inside next before after all first split told counted h =
    told_more before after (element_told arrays source (room_in room group numbers (is_schemed source group inside)) (part item inside))
    (elements_told arrays source room group numbers' (parts next)) all told
    (ap (λ n. both before (both (element_told arrays source (room_in room group numbers (is_schemed source group inside)) (part item inside))
    (elements_told arrays source room group n (parts next)))) counted
    ∙ (sym (ap (λ ps. both before (elements_told arrays source room group numbers ps)) (ap parts first ∙ split)) ∙ h))

pub no_element : (arrays : Arrays) (source : Source) (room : Room) (group : Group) (numbers : Numbers) (rest : List Item) (told all : Told)
    → length rest ≡ 0 → both told (elements_told arrays source room group numbers (parts rest)) ≡ all → told ≡ all
no_element arrays source room group numbers rest told all none h =
    told_all told all (sym (ap (λ ps. both told (elements_told arrays source room group numbers ps)) (parts_none rest none)) ∙ h)

pub lacks_behind : (old x told : Told) (n : ℕ) (room : Room) (at : ℕ) → n ≡ length old.founds → told ≡ both old x
    → both told (lacks_told room at (drop n told.founds)) ≡ both old (both x (lacks_told room at x.founds))
lacks_behind old x told n room at e put =
    ap (λ founds. both told (lacks_told room at founds)) (found_behind old x told n e put)
    ∙ (ap (λ t. both t (lacks_told room at x.founds)) put ∙ both_assoc old x (lacks_told room at x.founds))

-- ---- schemes

found_here : (bytes : List ℕ) (p : Part) (ps : List Part) → is_scheme bytes p ≡ true → find (is_scheme bytes) (p ∷ ps) ≡ Some p
found_here bytes p ps h = ap (λ b. cond b (Some p) (find (is_scheme bytes) ps)) h

pub scheme_said : (bytes : List ℕ) (items rest behind : List Item) (item : Item) (says : Bool) → rest ≡ item ∷ behind → is_scheme_named bytes item ≡ true
    → says ≡ says_nothing bytes item → find (is_scheme bytes) (parts rest) ≡ find (is_scheme bytes) (parts items) → not says ≡ has_scheme bytes items
unfolding has_scheme
scheme_said bytes items rest behind item says first named said h =
    ap not said
    ∙ ap (is_scheme_said bytes)
    (sym (found_here bytes (part item (take item.inside behind)) (parts (drop item.inside behind)) named)
    ∙ (sym (ap (find (is_scheme bytes)) (ap parts first ∙ parts_taken item behind)) ∙ h))

pub no_scheme : (bytes : List ℕ) (items rest : List Item) → length rest ≡ 0
    → find (is_scheme bytes) (parts rest) ≡ find (is_scheme bytes) (parts items) → false ≡ has_scheme bytes items
unfolding has_scheme
no_scheme bytes items rest none h = ap (is_scheme_said bytes) (sym (ap (find (is_scheme bytes)) (parts_none rest none)) ∙ h)
