use Rattle.std.proofs.Common.{◌≡◌, List, ℕ, option_map, subst, sym}
use Rattle.std.specs.Prelude.{IfOk, OnOk}
use Rattle.std.proofs.lemmas.Str.{chars-nil}
use Rattle.xml_events.specs.Events.{name_at}
use Rattle.xml_events.specs.Names.{number_of, with_name}
use Rattle.rule_library.specs.Walk.{name_or_none}
use Rattle.rule_library.proofs.joining.number_in.Goals as goal

pub returns-in-None-clause-number : goal.returns-in-None-clause-number
returns-in-None-clause-number c =
    let named = subst (λ (l : List ℕ). IfOk c.number-in-None.result (λ n. n ≡ number_of (record { uri = l; local = l }) c.args.table.now)) chars-nil
    c.number-in-None.ensures.number in
    subst (λ o. IfOk c.number-in-None.result (λ n. n ≡ number_of (name_or_none (option_map (name_at c.args.names.now) o)) c.args.table.now))
    (sym c.in-None.is) named

pub returns-in-None-clause-names : goal.returns-in-None-clause-names
returns-in-None-clause-names c =
    let named = subst (λ (l : List ℕ). OnOk c.number-in-None.result (c.number-in-None.new.self ≡ with_name c.args.table.now (record { uri = l; local = l })))
    chars-nil c.number-in-None.ensures.names in
    subst (λ o. OnOk c.number-in-None.result (c.number-in-None.new.self ≡ with_name c.args.table.now (name_or_none (option_map (name_at c.args.names.now) o))))
    (sym c.in-None.is) named
