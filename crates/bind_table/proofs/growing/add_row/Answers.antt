use Rattle.std.proofs.Common.{◌≡◌, ℕ, List, [], length, refl, sym, ap, ◌∙◌, arith}
use Rattle.std.proofs.lemmas.List.{append-nil}
use Rattle.bind_table.specs.declared.lines.Line.{Line}
use Rattle.bind_table.specs.Lines.{Plan, flat}
use Rattle.bind_table.specs.Growing.{IsWithin}
use Rattle.bind_table.proofs.growing.add_row.Goals as goal

all_lines : (lines : List Line) (plan : Plan) (n : ℕ) → lines ≡ flat plan → n ≡ length lines → IsWithin lines 0 n [] [] plan
all_lines lines plan n is long = record {
  is = is ∙ sym (append-nil (flat plan));
  begins = refl;
  ends = let e = ap length is in omega arith;
}

pub extend-requires : goal.extend-requires
extend-requires c = record { front = []; back = []; plan = c.requires.plan; within = all_lines _ _ _ c.requires.is (c.len-end.ensures ∙ c.args.lines.now.ok.0) }

pub returns-clause-ok : goal.returns-clause-ok
returns-clause-ok c plan cell is named =
    let a = c.in_ok-extend.ensures.ok [] [] plan cell (all_lines _ _ _ is (c.len-end.ensures ∙ c.args.lines.now.ok.0)) named in
    a.is ∙ append-nil _
