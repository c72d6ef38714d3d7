use Rattle.std.proofs.Common.{[], ◌∷◌, ◌++◌, Some, refl, sym, ap, subst, ◌∙◌, string_bytes}
use Rattle.std.specs.BTreeMap.{get_by_text}
use Rattle.xml_state.specs.Scopes.{Shows}
use Rattle.xml_state.specs.declared.scopes.Bound.{Bound}
use Rattle.xml_state.proofs.FoundLemmas.{found-same, found-push, shows-update}
use Rattle.xml_state.proofs.scopes.bind_space.Goals as goal

pub returns-in_err-reserve-clause-found : goal.returns-in_err-reserve-clause-found
returns-in_err-reserve-clause-found c = found-same c.args.shown.now c.args.shown.now c.args.bindings.now.items _ refl c.in_err-reserve.ensures.items c.requires

pub returns-in_err-hid-clause-found : goal.returns-in_err-hid-clause-found
returns-in_err-hid-clause-found c = found-same c.args.shown.now c.insert.new.self c.args.bindings.now.items _ c.in_err-hid.ensures.err
    c.in_ok-reserve.ensures.items c.requires

pub returns-clause-ok : goal.returns-clause-ok
returns-clause-ok c =
    let bound : Bound = record { prefix = c.in_ok-prefix.prefix; space = c.args.space; hid = c.in_ok-hid.hid } in
    record {
      bound = bound;
      named = c.in_ok-prefix.ensures.ok;
      numbered = refl;
      pushed = c.push_reserved.ensures.items ∙ ap (λ x. x ++ bound ∷ []) c.in_ok-reserve.ensures.items;
    }

pub returns-clause-found : goal.returns-clause-found
returns-clause-found c =
    let bound : Bound = record { prefix = c.in_ok-prefix.prefix; space = c.args.space; hid = c.in_ok-hid.hid } in
    let same = c.in_ok-key.ensures.ok ∙ sym c.in_ok-prefix.ensures.ok in
    found-push c.args.shown.now c.insert.new.self c.args.bindings.now.items _ bound c.requires
    (c.in_ok-hid.ensures.old ∙ ap (get_by_text c.args.shown.now) same)
    (subst (λ prefix. Shows prefix (Some c.args.space) c.args.shown.now c.insert.new.self) same
    (shows-update c.args.shown.now c.insert.new.self (string_bytes c.in_ok-key.key) (Some c.args.space) (Some c.args.space) c.in_ok-hid.ensures.updates refl))
    (c.push_reserved.ensures.items ∙ ap (λ x. x ++ bound ∷ []) c.in_ok-reserve.ensures.items)
