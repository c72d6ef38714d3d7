use Rattle.std.proofs.Common.{sym, ap, ◌∙◌, Some}
use Rattle.xml_profile.proofs.FeedLemmas.{end-left, end-inside, end-unseen}
use Rattle.xml_profile.proofs.cursor.Cursor.end.Goals as goal

pub returns-then-left-gt0 : goal.returns-then-left-gt0
returns-then-left-gt0 c rest is = end-left c.args.self.open_elements c.args.self.place rest c.args.left is c.if-left-gt0.true ∙ ap Some (sym c.fault_at.ensures)

pub returns-then-not-root_seen : goal.returns-then-not-root_seen
returns-then-not-root_seen c rest is =
    end-unseen c.args.self.open_elements c.args.self.place rest c.args.left is c.if-left-gt0.false (sym c.is_outside.ensures ∙ c.if-not-is_outside.false)
    (sym c.root_seen.ensures ∙ c.if-not-root_seen.true)
    ∙ ap Some (sym c.fault_at-then-not-root_seen.ensures)

pub returns-then-not-is_outside : goal.returns-then-not-is_outside
returns-then-not-is_outside c rest is =
    end-inside c.args.self.open_elements c.args.self.place rest c.args.left is c.if-left-gt0.false (sym c.is_outside.ensures ∙ c.if-not-is_outside.true)
    ∙ ap Some (sym c.fault_at-then-not-is_outside.ensures)
