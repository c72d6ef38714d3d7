-- Faults as they are answered.
use Rattle.std.proofs.Common.{◌≡◌, ℕ, List, Some, inl, chars}
use Rattle.std.specs.Str.{IsUtf8}
use Rattle.inv_base.proofs.TextLemmas.{encode-chars}
use Rattle.inv_base.specs.declared.place.Place.{Place}
use Rattle.rule_library.specs.Faults.{TellsOf}
use Rattle.rule_library.specs.declared.faults.LoadKind.{LoadKind}

pub tells_of : (kind : LoadKind) (name file : List ℕ) (place : Place) → IsUtf8 name → file ≡ chars name
    → TellsOf (record { kind = kind; file = Some file; place = place }) (record { kind = kind; file = name; place = place.byte })
tells_of kind name file place u e = inl (record { is = λ i. record { kind = kind; file = Some (e i); place = place }; text = encode-chars name u })
